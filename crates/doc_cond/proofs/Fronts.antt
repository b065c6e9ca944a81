-- Fronts of lines.
use Rattle.std.proofs.Common.{◌≡◌, ◌++◌, ℕ, List, length, drop, true, refl}
use Rattle.std.proofs.lemmas.Slice.Eq.{starts_is}
use Rattle.std.proofs.lemmas.Bool.Decides.{Decides-eqb}
use Rattle.vkb_bytes.specs.Bytes.{begins}

-- what begins with a word is the word and what follows it
pub begins_front : (line word : List ℕ) → begins line word ≡ true → line ≡ word ++ drop (length word) line
begins_front line word h = (starts_is Decides-eqb line word (begins line word) refl).0 h

pub begins_on : (line word rest : List ℕ) → line ≡ word ++ rest → begins line word ≡ true
begins_on line word rest h = (starts_is Decides-eqb line word (begins line word) refl).1 rest h
