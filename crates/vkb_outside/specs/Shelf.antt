-- What a shelf holds, and what an answer of its calls says of it.
use Rattle.std.specs.Prelude.{◌≡◌, ◌≢◌, ℕ, ◌<◌, ◌≤◌, List, length, Option, Some, None, IsSome, Result, Ok, Err, OnOk, Vec, ⊤}
use Rattle.std.specs.declared.alloc.Global.{Global}
use Rattle.vkb_outside.specs.Faults.{Rose}
use Rattle.vkb_outside.specs.declared.shelf.ReadTrouble.{ReadTrouble}
use Rattle.vkb_outside.specs.declared.shelf.ReadTrouble.TheVariants.{TooLong, Failed, Memory}
use Rattle.vkb_outside.specs.declared.shelf.PutTrouble.{PutTrouble}

-- files by name: the bytes that are held under a name, or none
abbrev pub Files : Type 0
Files = List ℕ → Option (List ℕ)

-- what `read` answers, of these files, for a name and a most
abbrev pub Reads : Files → List ℕ → ℕ → Result (Option (Vec ℕ Global)) ReadTrouble → Type 0
Reads files name most (Ok (Some bytes)) = files name ≡ Some bytes.items
Reads files name most (Ok None) = files name ≡ None
Reads files name most (Err TooLong) = (bytes : List ℕ) × (files name ≡ Some bytes) × (most < length bytes)
Reads files name most (Err Failed) = ⊤
Reads files name most (Err Memory) = ⊤

-- what is read is no longer than asked
abbrev pub IsWithin : ℕ → Result (Option (Vec ℕ Global)) ReadTrouble → Type 0
IsWithin most (Ok (Some bytes)) = length bytes.items ≤ most
IsWithin most (Ok None) = ⊤
IsWithin most (Err trouble) = ⊤

-- the count of failed reads after an answer
abbrev pub CountsRead : ℕ → ℕ → Result (Option (Vec ℕ Global)) ReadTrouble → Type 0
CountsRead before now (Err Failed) = Rose before now
CountsRead before now (Err TooLong) = now ≡ before
CountsRead before now (Err Memory) = now ≡ before
CountsRead before now (Ok found) = now ≡ before

-- all names but one keep their files, and that one is still held
pub record ChangesAtMost (name : List ℕ) (old new : Files) : Type 0 where
  pub others : (other : List ℕ) → other ≢ name → new other ≡ old other
  pub held : IsSome (new name)

-- what the shelf holds after `put`, where it tells; whether it tells doesn't change
abbrev pub Puts : List ℕ → List ℕ → Result (Unit {0}) PutTrouble → Option Files → Option Files → Type 0
Puts name bytes result (Some old) (Some new) = ChangesAtMost name old new × OnOk result (new name ≡ Some bytes)
Puts name bytes result (Some old) None = ⊥
Puts name bytes result None (Some new) = ⊥
Puts name bytes result None None = ⊤

-- the count of failed puts after an answer
abbrev pub CountsPut : ℕ → ℕ → Result (Unit {0}) PutTrouble → Type 0
CountsPut before now (Ok done) = now ≡ before
CountsPut before now (Err trouble) = Rose before now
