use Rattle.std.proofs.Common.{◌+◌, None, ap, refl, subst, sym}
use Rattle.sat_core.specs.declared.entry.Entry.{Entry}
use Rattle.sat_core.specs.Asking.{Leads}
use Rattle.sat_core.specs.Searching.{State}
use Rattle.sat_core.specs.Trails.{decisions_of}
use Rattle.sat_core.proofs.AskingLemmas.{leads-decided}
use Rattle.sat_core.proofs.SolvingLemmas.{decided-further}
use Rattle.sat_core.proofs.solving.decides.Goals as goal

pub returns-in-Some-clause-decides : goal.returns-in-Some-clause-decides
returns-in-Some-clause-decides c = decided-further c.args.search.now c.decide.new.self c.in-Some.lit c.trail.ensures.few c.decide.ensures

pub returns-in-Some-clause-leads : goal.returns-in-Some-clause-leads
returns-in-Some-clause-leads c =
    let old = c.args.search.now.trail in
    let entry : Entry = record { lit = c.in-Some.lit; decision = decisions_of old + 1; reason = None } in
    λ lit stands leads. subst (Leads lit) (sym (ap (λ (t : State). t.trail) c.decide.ensures)) (leads-decided old entry lit refl stands leads)
