-- The open elements, the innermost first or last.
use Rattle.std.proofs.Common.{◌≡◌, List, [], ◌∷◌, ◌++◌, reverse}
use Rattle.std.proofs.lemmas.List.{reverse-append}
use Rattle.reg_reader.specs.declared.reader.Open.{Open}

pub reverse-push : (opens : List Open) (top : Open) → reverse (opens ++ top ∷ []) ≡ top ∷ reverse opens
reverse-push opens top = reverse-append opens (top ∷ [])

pub ruleset open_facts = (reverse-push)
