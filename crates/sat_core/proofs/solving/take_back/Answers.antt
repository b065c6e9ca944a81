use Rattle.std.proofs.Common.{ap, subst, sym, ◌∙◌, arith}
use Rattle.sat_core.specs.Asking.{Leads}
use Rattle.sat_core.specs.Searching.{State, held_in}
use Rattle.sat_core.specs.Trails.{decisions_of}
use Rattle.sat_core.proofs.AskingLemmas.{leads-under}
use Rattle.sat_core.proofs.TrailLemmas.{decisions_of-under, in-order}
use Rattle.sat_core.proofs.solving.take_back.Goals as goal

pub returns-in_ok-release-clause-none : goal.returns-in_ok-release-clause-none
returns-in_ok-release-clause-none c =
    let s = c.args.search.now in
    ap (λ (t : State). decisions_of t.trail) c.undo.ensures
    ∙ decisions_of-under s.vars 0 s.trail (in-order s.vars (held_in s) s.trail c.trail.ensures.trail) (omega arith)

pub returns-in_ok-release-clause-leads : goal.returns-in_ok-release-clause-leads
returns-in_ok-release-clause-leads c =
    λ lit leads. subst (Leads lit) (sym (ap (λ (t : State). t.trail) c.undo.ensures)) (leads-under 0 c.args.search.now.trail lit leads)
