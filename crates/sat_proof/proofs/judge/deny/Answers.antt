use Rattle.std.proofs.Common.{◌≡◌, ◌<◌, ◌≤◌, true, take, length, map, slice_index_or, Contains, [], ◌∷◌, ◌++◌, subst, sym, refl, ap, ◌∙◌}
use Rattle.std.proofs.lemmas.List.{take_all}
use Rattle.std.proofs.lemmas.List.Elements.{Contains-get_or}
use Rattle.sat_cnf.specs.Lits.{negation_of}
use Rattle.sat_proof.specs.Refutations.{IsConsistent}
use Rattle.sat_proof.specs.Trails.{HasSame}
use Rattle.sat_proof.proofs.JudgeLemmas.{take-more, Contains-take, HasSame-deny, HasSame-denied, inconsistent, IsConsistent-push}
use Rattle.sat_proof.proofs.judge.deny.Goals as goal
use Rattle.sat_proof.proofs.judge.deny.Goals.{then-not-is_true, else-not-is_true}

pub returns-then-is_true-clause-exact : goal.returns-then-is_true-clause-exact
returns-then-is_true-clause-exact c = (
  λ e. absurd (cc),
  λ consistent.
      absurd (inconsistent c.loop-lit.trail.known (take c.loop-lit.lit-index c.args.clause.now) _ c.loop-lit.invariant.known c.args.clause.now
      (c.is_true.ensures.0 c.if-is_true.true) (Contains-take c.args.clause.now c.loop-lit.lit-index)
      (Contains-get_or c.args.clause.now c.loop-lit.lit-index (record { 0 = 0 }) c.loop-lit-test.true) consistent),
)

pub loop-lit-preserved : goal.loop-lit-preserved
loop-lit-preserved c =
    let within : c.loop-lit.lit-index < length c.args.clause.now = c.loop-lit-test.true in
    let fresh : ¬ Contains c.loop-lit.trail.known (slice_index_or c.args.clause.now c.loop-lit.lit-index (record { 0 = 0 })) =
    λ h. let t : c.is_true.result ≡ true = c.is_true.ensures.1 h in absurd (cc) in
    rw (take-more c.args.clause.now c.loop-lit.lit-index (record { 0 = 0 }) within) (record {
      limit = elim c.if-not-is_true.branch [
        | then-not-is_true w ↦ ap (λ t. t.limit) (w.trail-is ∙ w.put.ensures) ∙ c.loop-lit.invariant.limit
        | else-not-is_true w ↦ ap (λ t. t.limit) w.trail-is ∙ c.loop-lit.invariant.limit
      ];
      consistent = IsConsistent-push c.loop-lit.trail.known (take c.loop-lit.lit-index c.args.clause.now) _ c.loop-lit.invariant.known c.loop-lit.invariant.consistent fresh;
      known = elim c.if-not-is_true.branch [
        | then-not-is_true w ↦
            subst (λ known. HasSame known (map negation_of (take c.loop-lit.lit-index c.args.clause.now ++ slice_index_or c.args.clause.now c.loop-lit.lit-index (record { 0 = 0 }) ∷ [])))
            (sym (ap (λ t. t.known) (w.trail-is ∙ w.put.ensures) ∙ ap (λ l. c.loop-lit.trail.known ++ l ∷ []) c.negation-negation.ensures))
            (HasSame-deny c.loop-lit.trail.known (take c.loop-lit.lit-index c.args.clause.now) _ c.loop-lit.invariant.known)
        | else-not-is_true w ↦
            subst (λ known. HasSame known (map negation_of (take c.loop-lit.lit-index c.args.clause.now ++ slice_index_or c.args.clause.now c.loop-lit.lit-index (record { 0 = 0 }) ∷ [])))
            (sym (ap (λ t. t.known) w.trail-is))
            (HasSame-denied c.loop-lit.trail.known (take c.loop-lit.lit-index c.args.clause.now) _ c.loop-lit.invariant.known
            (subst (Contains c.loop-lit.trail.known) c.negation-negation.ensures (c.is_true-in-loop-lit.ensures.0 w.if-not-is_true.false)))
      ];
    })

pub returns-clause-exact : goal.returns-clause-exact
returns-clause-exact c =
    let past : length c.args.clause.now ≤ c.loop-lit.lit-index = c.loop-lit-test.false in
    (λ _. subst IsConsistent (take_all c.loop-lit.lit-index c.args.clause.now past) c.loop-lit.invariant.consistent, λ _. refl)

pub returns-clause-known : goal.returns-clause-known
returns-clause-known c = λ _.
    let past : length c.args.clause.now ≤ c.loop-lit.lit-index = c.loop-lit-test.false in
    subst (λ l. HasSame c.loop-lit.trail.known (map negation_of l)) (take_all c.loop-lit.lit-index c.args.clause.now past) c.loop-lit.invariant.known
