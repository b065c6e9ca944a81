use Rattle.std.proofs.Common.{subst, sym}
use Rattle.sat_proof.specs.Refutations.{AreWithin}
use Rattle.sat_core.specs.Outcomes.{IsOutcome}
use Rattle.sat_core.proofs.tests.solving.is_refuted.Goals as goal

pub check-requires-then-is_good-clause-within : goal.check-requires-then-is_good-clause-within
check-requires-then-is_good-clause-within c =
    let vars = c.args.clauses.now.vars in
    let outcome = subst (IsOutcome c.args.clauses.now) c.in-Refuted.is c.in_ok-solved.ensures in
    let within = subst (AreWithin vars) (sym c.as_slice.ensures) outcome.1 in
    subst (AreWithin vars) (sym c.as_slice-then-is_good.ensures.value) (c.in_ok-kept-in-Refuted.ensures.within vars within)
