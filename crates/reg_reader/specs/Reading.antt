-- What the reader's calls leave. No public contract names it.
use Rattle.std.specs.Prelude.{◌≡◌, ℕ, ◌-◌, ◌<◌, ◌≤◌, List, length, reverse, Bool, not, Option, Some, None, is_some, if◌then◌else◌, Result, Ok, Err}
use Rattle.memchr.specs.Find.{is_byte3}
use Rattle.reg_reader.specs.Machine.{State, Move, Next, Bad, Deep, step, run}
use Rattle.reg_reader.specs.declared.markup.Node.{Node}
use Rattle.reg_reader.specs.declared.markup.MarkupFault.{MarkupFault}
use Rattle.reg_reader.specs.declared.markup.MarkupFault.TheVariants as fault
use Rattle.reg_reader.specs.declared.phase.Phase.{Phase}
use Rattle.reg_reader.specs.declared.phase.Phase.TheVariants as phase
use Rattle.reg_reader.specs.declared.reader.Open.{Open}
use Rattle.reg_reader.specs.declared.reader.Reader.{Reader}
use Rattle.reg_reader.specs.declared.reader.Stop.{Stop}
use Rattle.reg_reader.specs.declared.reader.Stop.TheVariants as stop

abbrev pub state_of : Reader → State
state_of reader = record { phase = reader.phase; opens = reverse reader.opens; root = reader.root }

-- what a call answered and left is a move, unless memory ran out
abbrev pub Gives : Result (Unit {0}) Stop → Move → State → Type 0
Gives (Ok _) move new = move ≡ Next new
Gives (Err stop.Wrong) move new = move ≡ Bad
Gives (Err stop.TooDeep) move new = move ≡ Deep
Gives (Err stop.Memory) move new = Unit {0}

-- the byte at a place can't go on, or the text ends there and nothing is whole
abbrev pub StopsAt : List ℕ → ℕ → State → Type 0
StopsAt b at s = (at < length b → step 32 b at s ≡ Bad) × (at ≡ length b → (root : Node) → s.phase ≡ phase.Outside → s.root ≡ Some root → ⊥)

-- the byte that ends the characters that are being read, where no reference is open in them
abbrev pub ending_of : Phase → Option ℕ
ending_of phase.Outside = None
ending_of (phase.Text run) = if is_some run.reference then None else Some 60
ending_of phase.Markup = None
ending_of (phase.Comment from) = None
ending_of phase.Declaration = None
ending_of (phase.Name from) = None
ending_of phase.Tag = None
ending_of (phase.Attribute from) = None
ending_of (phase.Equals name) = None
ending_of (phase.Quote name) = None
ending_of (phase.Value name quote run) = if is_some run.reference then None else Some quote
ending_of phase.ValueEnd = None
ending_of phase.Slash = None
ending_of (phase.EndName from) = None
ending_of phase.EndWhite = None

-- a byte of characters that stands for itself, before one that ends them
abbrev pub is_plain : ℕ → ℕ → Bool
is_plain ending byte = not (is_byte3 60 38 ending byte)

-- what a whole reading answered, by the run over the bytes
abbrev pub IsRead : List ℕ → Result Node MarkupFault → Type 0
IsRead b (Ok root) = (opens : List Open) × (run 32 b (length b) ≡ Next (record { phase = phase.Outside; opens = opens; root = Some root }))
IsRead b (Err (fault.BadMarkup at)) = (at ≤ length b) × ((s : State) × (run 32 b at ≡ Next s) × StopsAt b at s)
IsRead b (Err (fault.TooDeep at)) = (n : ℕ) × (n < length b) × (at ≡ n - 1) × ((s : State) × (run 32 b n ≡ Next s) × (step 32 b n s ≡ Deep))
IsRead b (Err fault.Memory) = Unit {0}

-- the fault of a stop at a place
abbrev pub IsFaultAt : ℕ → Stop → MarkupFault → Type 0
IsFaultAt n stop.Wrong f = f ≡ fault.BadMarkup n
IsFaultAt n stop.TooDeep f = f ≡ fault.TooDeep (n - 1)
IsFaultAt n stop.Memory f = f ≡ fault.Memory

-- what a state answers where the bytes end
abbrev pub IsEndOf : ℕ → State → Result Node MarkupFault → Type 0
IsEndOf end s (Ok root) = (s.phase ≡ phase.Outside) × (s.root ≡ Some root)
IsEndOf end s (Err (fault.BadMarkup at)) = (at ≡ end) × ((root : Node) → s.phase ≡ phase.Outside → s.root ≡ Some root → ⊥)
IsEndOf end s (Err (fault.TooDeep at)) = ⊥
IsEndOf end s (Err fault.Memory) = ⊥
