use Rattle.std.proofs.Common.{◌≡◌, ℕ, List, take}
use Rattle.std.specs.Prelude.{is_some}
use Rattle.vkb_formula.specs.Names.{place_of}
use Rattle.hdr_writer.specs.Values.{is_end}
use Rattle.hdr_writer.proofs.values.ends_of.Given as goal

abbrev pub invariant-loop-value : goal.invariant-loop-value
invariant-loop-value l = (name : List ℕ) → is_some (place_of name l.ends) ≡ is_end l.active (take l.value-index l.values) name
