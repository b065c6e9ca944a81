use Rattle.std.proofs.Common.{◌≡◌, ◌≤◌, ◌+◌, drop}
use Rattle.reg_forms.specs.Attributes.{count_in}
use Rattle.reg_forms.proofs.attributes.stars_in.Given as goal

-- the stars so far, and those ahead, are all
abbrev pub invariant-loop-byte : goal.invariant-loop-byte
invariant-loop-byte l = (l.count + count_in 42 (drop l.byte-index l.text) ≡ count_in 42 l.text) × (l.count ≤ l.byte-index)
