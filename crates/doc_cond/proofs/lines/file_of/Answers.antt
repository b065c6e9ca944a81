use Rattle.std.proofs.Common.{◌∙◌, sym, subst}
use Rattle.std.proofs.lemmas.Bool.{false≢true}
use Rattle.std.proofs.lemmas.List.{append_cancel_left}
use Rattle.doc_cond.specs.Lines.{IsPath}
use Rattle.doc_cond.proofs.Fronts.{begins_on}
use Rattle.doc_cond.proofs.lines.file_of.Goals as goal

pub returns-in_default : goal.returns-in_default
returns-in_default c = λ file s. false≢true (sym c.in_default.ensures.none ∙ begins_on c.args.target.now c.args.front.now s.path s.target_is)

pub returns-then-not-is_path : goal.returns-then-not-is_path
returns-then-not-is_path c = λ file s.
    let same = append_cancel_left c.args.front.now s.path c.in-Some.path.now (sym s.target_is ∙ c.in-Some.ensures.found) in
    false≢true (sym c.if-not-is_path.true ∙ c.is_path.ensures.1 (subst IsPath same s.path_is))
