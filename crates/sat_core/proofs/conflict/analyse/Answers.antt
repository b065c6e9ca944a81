use Rattle.std.proofs.Common.{◌≡◌, ℕ, List, sym, ap, subst, ◌∙◌}
use Rattle.sat_proof.specs.Refutations.{held_with, hinted}
use Rattle.sat_proof.specs.declared.step.Step.{Step}
use Rattle.sat_core.specs.declared.phase.Phase.{Phase}
use Rattle.sat_core.specs.declared.phase.Phase.TheVariants.{Struck}
use Rattle.sat_core.specs.Searching.{IsConflict, IsInPhase, IsSearch, State, held_in}
use Rattle.sat_core.proofs.conflict.analyse.Goals as goal

struck : (s : State) (number : ℕ) → IsSearch s → s.phase ≡ Struck number → IsConflict s.trail (hinted (held_in s) number)
struck s number h e = (subst (λ (p : Phase). IsInPhase s p) e h.phase).1

pub learn_from-requires-clause-conflict : goal.learn_from-requires-clause-conflict
learn_from-requires-clause-conflict c =
    subst (λ (steps : List Step). IsConflict c.search.inside.trail.entries (hinted (held_with c.search.inside.clauses.now.list steps) c.args.conflict))
    (sym c.as_slice.ensures.value) (struck _ c.args.conflict c.search.invariant.1 (ap (λ (s : State). s.phase) c.search.view_is ∙ c.requires))
