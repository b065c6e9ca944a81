-- How an enum type is declared: what stands before its values and behind them whatever is chosen, and the line of each value.
use Rattle.std.specs.Prelude.{ℕ, Bool, List, [], ◌∷◌, ◌++◌, codes, Option, Some, None}
use Rattle.std.specs.List.{flat_map}
use Rattle.reg_registry.specs.declared.kinds.Shape.{Shape}
use Rattle.reg_registry.specs.declared.kinds.Shape.TheVariants as shape
use Rattle.reg_registry.specs.declared.registry.Enumerant.{Enumerant}
use Rattle.hdr_writer.specs.Lines.{line}
use Rattle.hdr_writer.specs.MaxNames.{max_name}
use Rattle.hdr_writer.specs.Numbers.{number_text}
use Rattle.hdr_writer.specs.Values.{values_at}

-- what stands before the values
abbrev pub front_of : Shape → List ℕ → List ℕ
front_of shape.Mask64 name = line (codes "typedef VkFlags64 " ∷ name ∷ codes ";" ∷ [])
front_of _ name = line (codes "typedef enum " ∷ name ∷ codes " {" ∷ [])

-- what stands behind them
abbrev pub back_of : Shape → List (List ℕ) → List ℕ → List ℕ
back_of shape.Mask64 tags name = []
back_of _ tags name = line (codes "    " ∷ max_name tags name ∷ codes " = 0x7FFFFFFF" ∷ []) ++ line (codes "} " ∷ name ∷ codes ";" ∷ [])

-- an alias has the name at the end of its chain in the place of a number
abbrev pub value_text : Shape → Enumerant → Option (List ℕ) → List ℕ
value_text shape e None = number_text shape e.number
value_text shape e (Some end) = end

-- the line of a value; a mask of 64 bits is no enum in C, and has no aliases
abbrev pub value_line : Shape → List ℕ → Enumerant → List ℕ
value_line shape.Mask64 name e =
    line (codes "static const " ∷ name ∷ codes " " ∷ e.name ∷ codes " = " ∷ number_text shape.Mask64 e.number ∷ codes ";" ∷ [])
value_line shape name e = line (codes "    " ∷ e.name ∷ codes " = " ∷ value_text shape e e.end ∷ codes "," ∷ [])

-- the values between what stands before and behind them
abbrev pub enum_type : List (List ℕ) → List Bool → Shape → List ℕ → List Enumerant → List ℕ
enum_type tags active shape name values =
    front_of shape name ++ (flat_map (value_line shape name) (values_at active values) ++ back_of shape tags name)
