-- What a call says of what begins `[[VUID-`, which no public contract names.
use Rattle.std.specs.Prelude.{◌≡◌, ℕ, ◌<◌, ◌^◌, Bool, true, false, Option, None, Some}
use Rattle.vu_tags.specs.declared.tags.Front.{Front}
use Rattle.vu_tags.specs.declared.tags.Front.TheVariants.{Malformed, Plain, Numbered}

-- whether it is malformed, and what number it has
abbrev pub IsRead : Bool → Option ℕ → Front → Type 0
IsRead malformed number Malformed = malformed ≡ true
IsRead malformed number Plain = (malformed ≡ false) × (number ≡ None)
IsRead malformed number (Numbered found) = (malformed ≡ false) × (number ≡ Some found) × (found < 2 ^ 30)
