-- Files that are held in memory, as a list of names and bytes, and what is found and put there.
use Rattle.std.specs.Prelude.{◌≡◌, ℕ, Bool, true, ◌&&◌, not, MatchBool, nat_le, List, [], ◌∷◌, length, map, Option, Some, None, Result, Ok, Err, Vec, ⊤}
use Rattle.std.specs.List.{list_any}
use Rattle.std.specs.Map.{lookup, set_value, keys_of}
use Rattle.std.specs.Str.{bytes_eq}
use Rattle.std.specs.String.{string_bytes}
use Rattle.std.specs.declared.alloc.Global.{Global}
use Rattle.std.specs.declared.string.String.{String}
use Rattle.vkb_outside.specs.declared.shelf.ReadTrouble.{ReadTrouble}
use Rattle.vkb_outside.specs.declared.shelf.ReadTrouble.TheVariants.{TooLong, Failed, Memory}

-- the names and bytes of a list of files
abbrev pub held : List (String Global × Vec ℕ Global) → List (List ℕ × List ℕ)
held files = map (λ file. (string_bytes file.0, file.1.items)) files

-- no name stands again at a later file
abbrev pub names_differ : List (List ℕ × List ℕ) → Bool
names_differ [] = true
names_differ (file ∷ files) = not (list_any (bytes_eq file.0) (keys_of files)) && names_differ files

-- the bytes under a name, where it is held
abbrev pub file_at : List (List ℕ × List ℕ) → List ℕ → Option (List ℕ)
file_at files name = lookup (bytes_eq name) files

-- the files with these bytes under a name that is held
abbrev pub with_file : List (List ℕ × List ℕ) → List ℕ → List ℕ → List (List ℕ × List ℕ)
with_file files name bytes = set_value (bytes_eq name) files bytes

-- a copy of these bytes, or that there was no memory for one
abbrev pub IsCopy : List ℕ → Result (Option (Vec ℕ Global)) ReadTrouble → Type 0
IsCopy bytes (Ok (Some copy)) = copy.items ≡ bytes
IsCopy bytes (Ok None) = ⊥
IsCopy bytes (Err TooLong) = ⊥
IsCopy bytes (Err Failed) = ⊥
IsCopy bytes (Err Memory) = ⊤

-- the answer of a read that doesn't fail, by what is held under the name and the most bytes that are asked for
abbrev pub IsAnswer : Option (List ℕ) → ℕ → Result (Option (Vec ℕ Global)) ReadTrouble → Type 0
IsAnswer None most result = result ≡ Ok None
IsAnswer (Some bytes) most result =
    MatchBool (nat_le (length bytes) most) (IsCopy bytes result) (result ≡ Err TooLong)
