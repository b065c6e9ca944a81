-- What a request to tag reads, and what it puts.
use Rattle.std.specs.Prelude.{ℕ, ◌-◌, nat_lt, List, [], ◌∷◌, length, map, Option, Some, None, if◌then◌else◌}
use Rattle.std.specs.Str.{bytes_eq}
use Rattle.vkb_outside.specs.Shelf.{Files}
use Rattle.doc_tree.specs.Fault.{Fault as DocumentFault, DocTooLong, Missing, TooLarge}
use Rattle.doc_tree.specs.Sources.{most_bytes}
use Rattle.doc_tree.specs.Walk.{or_else}

-- what is wrong with what is found under a name, where so many bytes have room
abbrev pub found_fault : ℕ → List ℕ → Option (List ℕ) → Option DocumentFault
found_fault room name None = Some (Missing name)
found_fault room name (Some bytes) =
    if nat_lt most_bytes (length bytes) then Some (TooLarge name) else (if nat_lt room (length bytes) then Some (DocTooLong name 0) else None)

-- the bytes that are found
abbrev pub text_of : Option (List ℕ) → List ℕ
text_of None = []
text_of (Some bytes) = bytes

-- the bytes of files, in order
abbrev pub texts_of : Files → List (List ℕ) → List (List ℕ)
texts_of files names = map (λ name. text_of (files name)) names

-- the first fault of files that are read in order, where so many bytes of all of them have room
abbrev pub read_fault : Files → ℕ → List (List ℕ) → Option DocumentFault
read_fault files room [] = None
read_fault files room (name ∷ names) = or_else (found_fault room name (files name)) (read_fault files (room - length (text_of (files name))) names)

-- the files whose bytes change, in order, each with its new bytes
abbrev pub changed : List (List ℕ) → List (List ℕ) → List (List ℕ) → List (List ℕ × List ℕ)
changed (name ∷ names) (old ∷ olds) (new ∷ news) = if bytes_eq old new then changed names olds news else (name, new) ∷ changed names olds news
changed names olds news = []
