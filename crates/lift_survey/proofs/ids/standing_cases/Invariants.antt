use Rattle.std.proofs.Common.{List, ℕ, take}
use Rattle.std.specs.List.{AllZip}
use Rattle.vkb_formula.specs.declared.pool.NodeId.{NodeId}
use Rattle.vkb_formula.specs.declared.pool.PoolNode.{PoolNode}
use Rattle.lift_nodes.specs.declared.IdCase.{IdCase}
use Rattle.lift_survey.specs.declared.Case.{Case}
use Rattle.lift_survey.specs.Growth.{Grows, HasMore}
use Rattle.lift_survey.specs.Keeping.{IsCaseOf}
use Rattle.lift_survey.proofs.ids.standing_cases.Given as goal

-- the cases so far are those of the first ids
pub record HasFirst (old pool : List PoolNode) (before ids : List (List ℕ)) (standing : NodeId) (told : List IdCase) (cases : List Case) : Type 0 where
  pub grows : Grows old pool
  pub more : HasMore before ids
  pub are : AllZip (IsCaseOf old pool ids standing) told cases

abbrev pub invariant-loop-case : goal.invariant-loop-case
invariant-loop-case l = HasFirst l.fn.pool l.pool l.fn.ids l.ids l.standing (take l.case-index l.told) l.cases.items
