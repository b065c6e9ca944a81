use Rattle.std.proofs.Common.{◌+◌, None, ap, subst, sym}
use Rattle.sat_core.specs.declared.entry.Entry.{Entry}
use Rattle.sat_core.specs.Asking.{Leads}
use Rattle.sat_core.specs.Searching.{State}
use Rattle.sat_core.specs.Trails.{decisions_of}
use Rattle.sat_core.proofs.AskingLemmas.{leads-itself}
use Rattle.sat_core.proofs.SolvingLemmas.{decided-further}
use Rattle.sat_core.proofs.asking.decide_first.Goals as goal

pub returns-clause-further : goal.returns-clause-further
returns-clause-further c = decided-further c.args.search.now c.decide.new.self c.args.lit c.trail-trail.ensures.few c.decide.ensures

pub returns-clause-leads : goal.returns-clause-leads
returns-clause-leads c =
    let old = c.args.search.now.trail in
    let entry : Entry = record { lit = c.args.lit; decision = decisions_of old + 1; reason = None } in
    λ leads. subst (Leads c.args.lit) (sym (ap (λ (t : State). t.trail) c.decide.ensures)) (leads-itself old entry leads)
