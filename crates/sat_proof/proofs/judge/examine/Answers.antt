use Rattle.std.proofs.Common.{◌≡◌, ◌<◌, ◌≤◌, true, take, length, slice_index_or, Some, Contains, subst, sym}
use Rattle.std.proofs.lemmas.List.{take_all}
use Rattle.std.proofs.lemmas.List.Elements.{Contains-get_or}
use Rattle.sat_proof.specs.Propagation.{IsFalse, IsFalsified}
use Rattle.sat_proof.specs.Trails.{IsOpen}
use Rattle.sat_proof.proofs.JudgeLemmas.{take-more, Contains-take, IsOpen-false, IsOpen-undecided, neither-true, neither-two}
use Rattle.sat_proof.proofs.judge.examine.Goals as goal

pub loop-lit-preserved-then-is_true : goal.loop-lit-preserved-then-is_true
loop-lit-preserved-then-is_true c =
    let within : c.loop-lit.lit-index < length c.args.clause.now = c.loop-lit-test.true in
    rw (take-more c.args.clause.now c.loop-lit.lit-index (record { 0 = 0 }) within)
    (IsOpen-false c.args.trail.now.known _ _ c.loop-lit.only (rw c.negation.ensures at c.is_true.ensures.0 c.if-is_true.true) c.loop-lit.invariant)

pub returns-then-is_true-2 : goal.returns-then-is_true-2
returns-then-is_true-2 c =
    let not_false : ¬ IsFalse c.args.trail.now.known (slice_index_or c.args.clause.now c.loop-lit.lit-index (record { 0 = 0 })) =
    λ f. let t : c.is_true.result ≡ true = c.is_true.ensures.1 (subst (Contains c.args.trail.now.known) (sym c.negation.ensures) f) in absurd (cc) in
    neither-true c.args.trail.now.known c.args.clause.now _ (Contains-get_or c.args.clause.now c.loop-lit.lit-index (record { 0 = 0 }) c.loop-lit-test.true)
    not_false (c.is_true-in-loop-lit.ensures.0 c.if-is_true-2.true)

pub returns-then-is_other : goal.returns-then-is_other
returns-then-is_other c =
    let not_false : ¬ IsFalse c.args.trail.now.known (slice_index_or c.args.clause.now c.loop-lit.lit-index (record { 0 = 0 })) =
    λ f. let t : c.is_true.result ≡ true = c.is_true.ensures.1 (subst (Contains c.args.trail.now.known) (sym c.negation.ensures) f) in absurd (cc) in
    let (other, was, differ) = c.is_other.ensures.other c.if-is_other.true in
    let unit : IsOpen c.args.trail.now.known (take c.loop-lit.lit-index c.args.clause.now) (Some other) =
    subst (λ o. IsOpen c.args.trail.now.known (take c.loop-lit.lit-index c.args.clause.now) o) was c.loop-lit.invariant in
    neither-two c.args.trail.now.known c.args.clause.now _ other (Contains-get_or c.args.clause.now c.loop-lit.lit-index (record { 0 = 0 }) c.loop-lit-test.true)
    not_false (Contains-take c.args.clause.now c.loop-lit.lit-index other unit.stands) unit.undecided.1 differ

pub loop-lit-preserved : goal.loop-lit-preserved
loop-lit-preserved c =
    let within : c.loop-lit.lit-index < length c.args.clause.now = c.loop-lit-test.true in
    let not_false : ¬ IsFalse c.args.trail.now.known (slice_index_or c.args.clause.now c.loop-lit.lit-index (record { 0 = 0 })) =
    λ f. let t : c.is_true.result ≡ true = c.is_true.ensures.1 (subst (Contains c.args.trail.now.known) (sym c.negation.ensures) f) in absurd (cc) in
    let not_true : ¬ Contains c.args.trail.now.known (slice_index_or c.args.clause.now c.loop-lit.lit-index (record { 0 = 0 })) =
    λ h. let t : c.is_true-in-loop-lit.result ≡ true = c.is_true-in-loop-lit.ensures.1 h in absurd (cc) in
    rw (take-more c.args.clause.now c.loop-lit.lit-index (record { 0 = 0 }) within)
    (IsOpen-undecided c.args.trail.now.known _ _ c.loop-lit.only (not_true, not_false) (c.is_other.ensures.same c.if-is_other.false) c.loop-lit.invariant)

pub returns-in-None : goal.returns-in-None
returns-in-None c =
    let none : IsFalsified c.args.trail.now.known (take c.loop-lit.lit-index c.args.clause.now) =
    subst (λ o. IsOpen c.args.trail.now.known (take c.loop-lit.lit-index c.args.clause.now) o) c.in-None.is c.loop-lit.invariant in
    let past : length c.args.clause.now ≤ c.loop-lit.lit-index = c.loop-lit-test.false in
    subst (IsFalsified c.args.trail.now.known) (take_all c.loop-lit.lit-index c.args.clause.now past) none
