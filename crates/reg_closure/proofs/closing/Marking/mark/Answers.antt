use Rattle.std.proofs.Common.{◌≡◌, ◌∙◌, ◌++◌, ◌∷◌, [], true, false, Some, set, slice_get, ap, sym}
use Rattle.reg_closure.specs.Marking.{Marked}
use Rattle.reg_closure.proofs.MarkLemmas.{marks-one}
use Rattle.reg_closure.proofs.closing.Marking.mark.Goals as goal

pub returns-in_ok-push : goal.returns-in_ok-push
returns-in_ok-push c =
    let new : slice_get c.self.inside.marked c.args.name ≡ Some false = c.if-not-has.ensures in
    marks-one c.args.self.now (record { marked = c.add.new.self; names = c.push.new.self.items }) c.args.name c.requires.marking
    (sym (ap (λ (m : Marked). slice_get m.marked c.args.name) c.self.view_is) ∙ new)
    (c.add.ensures ∙ ap (λ (m : Marked). set m.marked c.args.name true) c.self.view_is)
    (c.in_ok-push.ensures.items ∙ ap (λ (m : Marked). m.names ++ c.args.name ∷ []) c.self.view_is)
