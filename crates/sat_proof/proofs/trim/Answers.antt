use Rattle.std.proofs.Common.{length, subst, sym}
use Rattle.sat_proof.specs.Trimming.{AreEarlier}
use Rattle.sat_proof.proofs.TrimLemmas.{IsTrimmed-made, refutation-earlier, trimmed-fewer, trimmed-refutes, trimmed-within}
use Rattle.sat_proof.proofs.trim.Goals as goal

pub reached-requires-clause-earlier : goal.reached-requires-clause-earlier
reached-requires-clause-earlier c =
    subst (λ n. AreEarlier n c.args.steps.now) (sym c.len.ensures) (refutation-earlier c.args.clauses.now.list c.args.steps.now c.requires.refutation)

pub kept-requires-clause-earlier : goal.kept-requires-clause-earlier
kept-requires-clause-earlier c =
    subst (λ n. AreEarlier n c.args.steps.now) (sym c.len-2.ensures) (refutation-earlier c.args.clauses.now.list c.args.steps.now c.requires.refutation)

pub returns-clause-refutes : goal.returns-clause-refutes
returns-clause-refutes c =
    trimmed-refutes c.args.clauses.now.list c.args.steps.now c.in_ok-kept.kept.items c.requires.refutation (
    IsTrimmed-made (length c.args.clauses.now.list) c.args.steps.now c.in_ok-kept.kept.items c.in_ok-stays.stays.items c.as_slice.result.now c.len.result c.len-2.result
    c.len.ensures c.len-2.ensures c.in_ok-stays.ensures.each c.in_ok-stays.ensures.reached c.as_slice.ensures.value c.in_ok-kept.ensures
    )

pub returns-clause-within : goal.returns-clause-within
returns-clause-within c vars h =
    trimmed-within (length c.args.clauses.now.list) vars c.args.steps.now c.in_ok-kept.kept.items h (
    IsTrimmed-made (length c.args.clauses.now.list) c.args.steps.now c.in_ok-kept.kept.items c.in_ok-stays.stays.items c.as_slice.result.now c.len.result c.len-2.result
    c.len.ensures c.len-2.ensures c.in_ok-stays.ensures.each c.in_ok-stays.ensures.reached c.as_slice.ensures.value c.in_ok-kept.ensures
    )

pub returns-clause-fewer : goal.returns-clause-fewer
returns-clause-fewer c =
    trimmed-fewer (length c.args.clauses.now.list) c.args.steps.now c.in_ok-kept.kept.items (
    IsTrimmed-made (length c.args.clauses.now.list) c.args.steps.now c.in_ok-kept.kept.items c.in_ok-stays.stays.items c.as_slice.result.now c.len.result c.len-2.result
    c.len.ensures c.len-2.ensures c.in_ok-stays.ensures.each c.in_ok-stays.ensures.reached c.as_slice.ensures.value c.in_ok-kept.ensures
    )
