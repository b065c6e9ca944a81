use Rattle.std.proofs.Common.{[], ◌∷◌, ◌++◌, length, ap, ◌∙◌, arith}
use Rattle.sat_core.proofs.SolvingLemmas.{refutation, within-push}
use Rattle.sat_core.proofs.solving.refuted.Goals as goal

pub returns : goal.returns
returns c =
    let all = c.from_vec.ensures ∙ c.in_ok-push.ensures.items ∙ ap (λ steps. steps ++ c.args.last ∷ []) c.into_steps-steps.ensures.steps in
    let clauses = c.args.search.clauses in
    let steps = c.args.search.steps in (
      refutation clauses steps c.from_vec.result c.args.last c.into_steps-steps.ensures.good c.requires.follows c.requires.empty all,
      within-push c.args.search.vars steps c.from_vec.result c.args.last c.into_steps-steps.ensures.within c.requires.empty all,
      omega (arith, c.as_slice-view.type_inv.1, c.requires.clauses, ap length c.as_slice-view.ensures.value, ap length c.from_vec.ensures),
    )
