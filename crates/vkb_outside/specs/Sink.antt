-- What a sink has been given, and what an answer of its calls says of it.
use Rattle.std.specs.Prelude.{◌≡◌, ℕ, List, ◌++◌, Option, Some, None, Result, Ok, Err, ⊤}
use Rattle.vkb_outside.specs.Faults.{Rose}
use Rattle.vkb_outside.specs.declared.sink.SinkTrouble.{SinkTrouble}

-- these bytes were appended, where the sink tells; whether it tells doesn't change
abbrev pub Appends : List ℕ → Option (List ℕ) → Option (List ℕ) → Type 0
Appends bytes (Some old) (Some new) = new ≡ old ++ bytes
Appends bytes (Some old) None = ⊥
Appends bytes None (Some new) = ⊥
Appends bytes None None = ⊤

-- a prefix of these bytes was appended
abbrev pub AppendsPrefix : List ℕ → Option (List ℕ) → Option (List ℕ) → Type 0
AppendsPrefix bytes old new = (front back : List ℕ) × (bytes ≡ front ++ back) × Appends front old new

-- what the sink has after `write`
abbrev pub Writes : List ℕ → Result (Unit {0}) SinkTrouble → Option (List ℕ) → Option (List ℕ) → Type 0
Writes bytes (Ok done) old new = Appends bytes old new
Writes bytes (Err trouble) old new = AppendsPrefix bytes old new

-- the count of failed writes after an answer
abbrev pub CountsWrite : ℕ → ℕ → Result (Unit {0}) SinkTrouble → Type 0
CountsWrite before now (Ok done) = now ≡ before
CountsWrite before now (Err trouble) = Rose before now
