use Rattle.std.proofs.Common.{◌≡◌, drop}
use Rattle.reg_reader.specs.Markup.{is_taken}
use Rattle.reg_reader.proofs.decide.is_taken.Given as goal

-- the attributes so far have other names
abbrev pub invariant-loop-attribute : goal.invariant-loop-attribute
invariant-loop-attribute l = is_taken l.bytes (drop l.attribute-index l.attributes) l.from l.to ≡ is_taken l.bytes l.attributes l.from l.to
