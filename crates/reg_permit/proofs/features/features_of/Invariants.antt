use Rattle.reg_permit.specs.Nodes.{HasFeatures}
use Rattle.reg_permit.proofs.features.features_of.Given as goal

-- the features so far
abbrev pub invariant-loop-place : goal.invariant-loop-place
invariant-loop-place l = HasFeatures l.r.option_rows l.place l.features
