-- How the formula of an expression is put together, byte by byte: for private contracts alone. No public contract
-- names it.
use Rattle.std.specs.Prelude.{ℕ, ◌+◌, ◌-◌, Bool, ◌||◌, ◌==◌, List, [], ◌∷◌, ◌++◌, length, take, slice_index_or, fold, Option, Some, None, unwrap_or, slice_range, if◌then◌else◌}
use Rattle.vkb_bytes.specs.Bytes.{is_word_byte}
use Rattle.vkb_formula.specs.Expressions.{formula_of_name}
use Rattle.vkb_formula.specs.declared.formula.Formula.{Formula}
use Rattle.vkb_formula.specs.declared.formula.Formula.TheVariants as formula
use Rattle.vkb_formula.specs.declared.building.Joint.{Joint}
use Rattle.vkb_formula.specs.declared.building.Joint.TheVariants as joint
use Rattle.vkb_formula.specs.declared.building.Left.{Left}
use Rattle.vkb_formula.specs.declared.building.Building.{Building}

-- what stands before the atom being read, in each open parenthesis from the outermost on and in the innermost, the
-- parenthesis that was just closed, and the bytes of the name being read
pub record Built : Type 0 where
  pub outer : List (Option Left)
  pub left : Option Left
  pub closed : Option Formula
  pub name : List ℕ

abbrev pub nothing_built : Built
nothing_built = record { outer = []; left = None; closed = None; name = [] }

abbrev pub joined_by : Joint → Formula → Formula → Formula
joined_by joint.And first second = formula.All (first ∷ second ∷ [])
joined_by joint.Or first second = formula.Any (first ∷ second ∷ [])

abbrev pub joined : Option Left → Formula → Formula
joined None f = f
joined (Some left) f = joined_by left.joint left.formula f

-- the atom that was read last
abbrev pub atom_built : List (List ℕ) → Built → Formula
atom_built options b = unwrap_or b.closed (formula_of_name options b.name)

-- all that stands in the innermost open parenthesis
abbrev pub level_built : List (List ℕ) → Built → Formula
level_built options b = joined b.left (atom_built options b)

abbrev pub opened : Built → Built
opened b = record { outer = b.outer ++ b.left ∷ []; left = None; closed = None; name = [] }

abbrev pub closed_up : List (List ℕ) → Built → Built
closed_up options b = record {
  outer = take (length b.outer - 1) b.outer;
  left = slice_index_or b.outer (length b.outer - 1) None;
  closed = Some (level_built options b);
  name = [];
}

abbrev pub waiting : List (List ℕ) → Joint → Built → Built
waiting options how b = record { outer = b.outer; left = Some (record { formula = level_built options b; joint = how }); closed = None; name = [] }

abbrev pub joint_of : ℕ → Option Joint
joint_of byte = if byte == 43 then Some joint.And else (if byte == 44 then Some joint.Or else None)

abbrev pub with_other : List (List ℕ) → Built → ℕ → Option Joint → Built
with_other options b byte None = record b { name = b.name ++ byte ∷ [] }
with_other options b byte (Some how) = waiting options how b

abbrev pub with_byte : List (List ℕ) → Built → ℕ → Built
with_byte options b byte = if byte == 40 then opened b else (if byte == 41 then closed_up options b else with_other options b byte (joint_of byte))

-- the formula that is put together from a whole text
abbrev pub built_from : List (List ℕ) → List ℕ → Formula
built_from options text = level_built options (fold (with_byte options) nothing_built text)

abbrev pub is_name_byte : ℕ → Bool
is_name_byte byte = is_word_byte byte || byte == 58

-- where each run of name bytes begins and ends, from a place on, in a run that began before it or in none
abbrev pub runs_of : ℕ → Option ℕ → List ℕ → List (ℕ × ℕ)
runs_of at None [] = []
runs_of at (Some from) [] = (from, at) ∷ []
runs_of at None (byte ∷ bytes) = if is_name_byte byte then runs_of (at + 1) (Some at) bytes else runs_of (at + 1) None bytes
runs_of at (Some from) (byte ∷ bytes) = if is_name_byte byte then runs_of (at + 1) (Some from) bytes else (from, at) ∷ runs_of (at + 1) None bytes

-- what was built of the bytes before a place
abbrev pub built_so_far : List ℕ → ℕ → Building → Built
built_so_far text at b = record { outer = b.outer.items; left = b.left; closed = b.closed; name = slice_range text b.from at }
