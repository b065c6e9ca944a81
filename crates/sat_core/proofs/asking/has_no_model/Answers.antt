use Rattle.std.proofs.Common.{◌≡◌, ap, subst, sym, ◌∙◌}
use Rattle.sat_core.specs.declared.phase.Phase.TheVariants.{Struck}
use Rattle.sat_core.specs.Searching.{IsInPhase, State}
use Rattle.sat_core.proofs.AskingLemmas.{struck-tells}
use Rattle.sat_core.proofs.asking.has_no_model.Goals as goal

pub returns-in-Struck : goal.returns-in-Struck
returns-in-Struck c =
    let s = c.args.search.now in
    let is : s.phase ≡ Struck c.in-Struck.field-0 = sym (ap (λ (t : State). t.phase) c.search.view_is) ∙ c.in-Struck.is in
    let struck : IsInPhase s (Struck c.in-Struck.field-0) =
    subst (IsInPhase s) is (subst (λ (t : State). IsInPhase t t.phase) c.search.view_is c.search.invariant.1.phase) in
    struck-tells s c.trail-trail.ensures.trail c.what_stands_follows.ensures.trail c.what_stands_follows.ensures.steps c.in-Struck.field-0 struck c.decisions.result c.decisions.ensures
