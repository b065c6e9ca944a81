-- How far the reader of an expression has come, byte by byte: for private contracts alone. No public contract names it.
use Rattle.std.specs.Prelude.{ℕ, ◌+◌, ◌-◌, Bool, ◌||◌, ◌&&◌, ◌==◌, nat_lt, true, false, List, [], ◌∷◌, Option, Some, None, option_and_then, if◌then◌else◌}
use Rattle.vkb_bytes.specs.Bytes.{is_word_byte}
use Rattle.vkb_formula.specs.declared.mark.Mark.{Mark}
use Rattle.vkb_formula.specs.declared.mark.Phase.{Phase}
use Rattle.vkb_formula.specs.declared.mark.Phase.TheVariants as phase

-- a byte after a whole atom
abbrev pub after_atom : ℕ → ℕ → ℕ → Option Mark
after_atom depth words byte =
    if byte == 43 || byte == 44
    then (if nat_lt words 4096 then Some (record { phase = phase.Start; depth = depth; words = words }) else None)
    else (if byte == 41 && nat_lt 0 depth then Some (record { phase = phase.Closed; depth = depth - 1; words = words }) else None)

abbrev pub step_from : Phase → ℕ → ℕ → ℕ → Option Mark
step_from phase.Start depth words byte =
    if is_word_byte byte && nat_lt words 4096
    then Some (record { phase = phase.Word; depth = depth; words = words + 1 })
    else (if byte == 40 && nat_lt depth 64 then Some (record { phase = phase.Start; depth = depth + 1; words = words }) else None)
step_from phase.Word depth words byte =
    if is_word_byte byte
    then Some (record { phase = phase.Word; depth = depth; words = words })
    else (if byte == 58 then Some (record { phase = phase.Colon; depth = depth; words = words }) else after_atom depth words byte)
step_from phase.Colon depth words byte = if byte == 58 then Some (record { phase = phase.Colons; depth = depth; words = words }) else None
step_from phase.Colons depth words byte = if is_word_byte byte then Some (record { phase = phase.Member; depth = depth; words = words }) else None
step_from phase.Member depth words byte =
    if is_word_byte byte then Some (record { phase = phase.Member; depth = depth; words = words }) else after_atom depth words byte
step_from phase.Closed depth words byte = after_atom depth words byte

abbrev pub step : Mark → ℕ → Option Mark
step mark byte = step_from mark.phase mark.depth mark.words byte

-- the mark after a text, if no byte stops it
abbrev pub run : Mark → List ℕ → Option Mark
run mark [] = Some mark
run mark (byte ∷ bytes) = option_and_then (λ next. run next bytes) (step mark byte)

abbrev pub start : Mark
start = record { phase = phase.Start; depth = 0; words = 0 }

abbrev pub ends_atom : Phase → Bool
ends_atom phase.Start = false
ends_atom phase.Word = true
ends_atom phase.Colon = false
ends_atom phase.Colons = false
ends_atom phase.Member = true
ends_atom phase.Closed = true

-- an expression may end here
abbrev pub is_whole : Mark → Bool
is_whole mark = ends_atom mark.phase && mark.depth == 0
