use Rattle.reg_closure.specs.Made.{AreMade, Grows, Keeps, free, option_is}
use Rattle.reg_closure.proofs.roots.option_nodes.Given as goal

-- the options so far have their nodes
abbrev pub invariant-loop-option : goal.invariant-loop-option
invariant-loop-option l = record {
  keeps : Keeps l.initial.pool l.pool;
  made : AreMade l.option l.pool l.ids.items option_is free;
  grows : Grows l.initial.pool l.pool l.option l.option;
}
