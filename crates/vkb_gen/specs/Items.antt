-- What a sample is made of: so many items, numbered from 1, each a struct and the extension that requires it. Each item but the
-- first has a parent before it, to which its struct points and for which its extension asks; where 3 divides its number, the
-- extension asks for a second one too.
use Rattle.std.specs.Prelude.{ℕ, ◌+◌, ◌-◌, ◌%◌, ◌<◌, ◌≤◌, ◌==◌, nat_lt, zero, suc, if◌then◌else◌, List, map}
use Rattle.std.specs.List.{range_with_len}
use Rattle.vkb_gen.specs.Draws.{drawn, state_after}
use Rattle.vkb_gen.specs.declared.items.Item.{Item}
use Rattle.vkb_gen.specs.declared.items.Parents.{Parents}
use Rattle.vkb_gen.specs.declared.items.Parents.TheVariants.{Nobody, One, Two}

-- how many draws choose the parents of an item
abbrev pub draws_of : ℕ → ℕ
draws_of number = if nat_lt number 2 then 0 else if number % 3 == 0 then 2 else 1

-- how many draws choose the parents of all items before it
abbrev pub draws_before : ℕ → ℕ
draws_before zero = 0
draws_before (suc number) = draws_before number + draws_of number

-- the parent of an item that its first or its second draw chooses, among all items before it
abbrev pub parent_by : ℕ → ℕ → ℕ → ℕ
parent_by seed number draw = 1 + drawn (state_after seed (draws_before number + draw)) (number - 1)

-- the parents of an item
unfoldable pub parents_of : ℕ → ℕ → Parents
parents_of seed number =
    if nat_lt number 2 then Nobody
    else if number % 3 == 0 then Two (parent_by seed number 1) (parent_by seed number 2)
    else One (parent_by seed number 1)

abbrev pub item_of : ℕ → ℕ → Item
item_of seed number = record { number = number; parents = parents_of seed number }

-- the items of a sample of a size, in order
abbrev pub items_of : ℕ → ℕ → List Item
items_of seed size = map (item_of seed) (range_with_len 1 size)

-- a number of an item before another one
pub record IsBefore (number : ℕ) (parent : ℕ) : Type 0 where
  pub least : 1 ≤ parent
  pub below : parent < number

-- all parents of an item stand before it
abbrev pub AreBefore : ℕ → Parents → Type 0
AreBefore number Nobody = Unit {0}
AreBefore number (One parent) = IsBefore number parent
AreBefore number (Two parent other) = IsBefore number parent × IsBefore number other
