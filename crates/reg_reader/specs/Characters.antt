-- Characters with their references undone, byte by byte: the law `CharactersAreUndone` says by the rule what they are.
use Rattle.std.specs.Prelude.{ℕ, zero, suc, ◌+◌, ◌==◌, List, [], ◌∷◌, ◌++◌, slice_index, slice_range, Option, Some, None, if◌then◌else◌}
use Rattle.reg_reader.specs.References.{progress_of}
use Rattle.reg_reader.specs.declared.reference.Progress.{Progress}
use Rattle.reg_reader.specs.declared.reference.Progress.TheVariants as progress

-- where the reference begins that is still open, and the bytes so far
abbrev pub Undone : Type 0
Undone = Option ℕ × List ℕ

abbrev pub after_progress : ℕ → List ℕ → Progress → Undone
after_progress place text (progress.Whole value) = (None, text ++ value ∷ [])
after_progress place text progress.Partial = (Some place, text)
after_progress place text progress.Wrong = (Some place, text)

abbrev pub with_byte : List ℕ → ℕ → Option ℕ → List ℕ → Undone
with_byte b n None text = if slice_index b n == 38 then (Some n, text) else (None, text ++ slice_index b n ∷ [])
with_byte b n (Some place) text = after_progress place text (progress_of (slice_range b place (n + 1)))

-- as many bytes from a place on
abbrev pub undone : List ℕ → ℕ → ℕ → Undone
undone b from zero = (None, [])
undone b from (suc m) = let before = undone b from m in with_byte b (from + m) before.0 before.1
