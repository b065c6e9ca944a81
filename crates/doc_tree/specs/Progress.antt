-- What is kept while the lines of a document are taken, for private contracts alone. No public contract names it.
use Rattle.std.specs.Prelude.{◌≡◌, ℕ, ◌+◌, ◌<◌, ◌≤◌, List, [], ◌∷◌, ◌++◌, Bool, Option, Some, None, length, map, All, slice_index_or, slice_get, ⊤}
use Rattle.vkb_formula.specs.Names.{most_names, with_name}
use Rattle.vkb_text.specs.Spans.{slice_at}
use Rattle.vkb_text.specs.declared.Line.{Line}
use Rattle.doc_cond.specs.declared.LineKind.{LineKind}
use Rattle.doc_cond.specs.declared.LineKind.TheVariants.{Chapter, Close}
use Rattle.doc_tree.specs.declared.Cond.{Cond}
use Rattle.doc_tree.specs.declared.CondId.{CondId}
use Rattle.doc_tree.specs.declared.Document.{Document}
use Rattle.doc_tree.specs.declared.draft.Standing.{Standing}
use Rattle.doc_tree.specs.declared.draft.Taken.{Taken}
use Rattle.doc_tree.specs.declared.fault.DocFault.{DocFault}
use Rattle.doc_tree.specs.declared.fault.DocFault.TheVariants as doc
use Rattle.doc_tree.specs.Flat.{FlatLine}
use Rattle.doc_tree.specs.Loaded.{IsBefore, IsCondThere, IsLoaded, IsOwn, flat_of, round_at, rounds_of}
use Rattle.doc_tree.specs.Names.{names_in}
use Rattle.doc_tree.specs.Walk.{condition_in, most_lines}

-- the file that a line of a kind includes
abbrev pub chapter_in : LineKind → Option (List ℕ)
chapter_in (Chapter file) = Some file
chapter_in _ = None

-- the table after names were put in
abbrev pub with_names : List (List ℕ) → List (List ℕ) → List (List ℕ)
with_names [] table = table
with_names (name ∷ names) table = with_names names (with_name name table)

abbrev pub within_of : Option Cond → Option CondId
within_of None = None
within_of (Some cond) = cond.within

-- the conditional round a conditional
abbrev pub outer : List Cond → Option CondId → Option CondId
outer conds None = None
outer conds (Some id) = within_of (slice_get conds id.0)

-- the innermost conditional round a line of a kind, from that behind the line before it: a closer stands outside of what it closes
abbrev pub stands_in : List Cond → LineKind → Option CondId → Option CondId
stands_in conds (Close any names) within = outer conds within
stands_in conds _ within = within

-- the list goes on
abbrev pub Extends : {A : Type 0} → List A → List A → Type 0
Extends {A} old new = (more : List A) × (new ≡ old ++ more)

-- what is numbered stays where it is
pub record Grows (old new : Document) : Type 0 where
  pub files : Extends old.files new.files
  pub names : Extends old.names new.names
  pub conds : Extends old.conds new.conds

-- the conditions name what is there
abbrev pub AreCondsThere : Document → Type 0
AreCondsThere d = (place : ℕ) (cond : Cond) → slice_get d.conds place ≡ Some cond → IsCondThere (length d.names) place cond

-- a document so far
pub record IsDraft (text : List ℕ) (d : Document) : Type 0 where
  pub loaded : IsLoaded text d
  pub conds_few : length d.conds ≤ length d.lines
  pub names_few : length d.names ≤ most_names

-- a condition was put last, inside another, with its names
pub record Puts (old new : Document) (negated any : Bool) (names : List (List ℕ)) (within : Option CondId) (id : CondId) : Type 0 where
  pub cond : Cond
  pub new_is : new ≡ record old { names = with_names names old.names; conds = old.conds ++ cond ∷ [] }
  pub negated_is : cond.negated ≡ negated
  pub any_is : cond.any ≡ any
  pub within_is : cond.within ≡ within
  pub named : map (λ name. slice_index_or new.names name.0 []) cond.names ≡ names
  pub each : All (λ name. name.0 < length new.names) cond.names
  pub last : id.0 ≡ length old.conds

-- a line of a kind stands so, and its condition was put in
pub record Stands (old new : Document) (kind : LineKind) (within : Option CondId) (standing : Standing) : Type 0 where
  pub within_is : standing.within ≡ stands_in old.conds kind within
  pub own : IsOwn new standing.within kind standing.own
  pub behind : IsBefore (length new.conds) standing.behind
  pub round : round_at (rounds_of new) standing.behind ≡ round_at (rounds_of old) standing.within ++ condition_in kind
  pub inside : IsBefore (length old.conds) standing.within
  pub names : new.names ≡ with_names (names_in kind) old.names
  pub conds : Extends old.conds new.conds
  pub conds_there : AreCondsThere new
  pub one_more : length new.conds ≤ length old.conds + 1
  pub files_are : new.files ≡ old.files
  pub lines_are : new.lines ≡ old.lines

-- the flat line that a line of a kind is, within a conditional
abbrev pub taken_line : List ℕ → Document → Line → LineKind → Option CondId → FlatLine
taken_line text d line kind within = record {
  file = slice_index_or d.files line.file [];
  number = line.number;
  bytes = slice_at text line.span;
  kind = kind;
  round = round_at (rounds_of d) (stands_in d.conds kind within);
}

-- a line was taken, and there is a conditional behind it
pub record IsTaken (text : List ℕ) (old new : Document) (behind : Option CondId) : Type 0 where
  pub draft : IsDraft text new
  pub grows : Grows old new
  pub files_are : new.files ≡ old.files
  pub one_more : length new.lines ≡ length old.lines + 1
  pub behind_is : IsBefore (length new.conds) behind

-- a line of a kind was taken as it stands
pub record Takes (text : List ℕ) (old new : Document) (line : Line) (kind : LineKind) (within : Option CondId) (taken : Taken) : Type 0 where
  pub flat : flat_of text new ≡ flat_of text old ++ taken_line text old line kind within ∷ []
  pub round : round_at (rounds_of new) taken.behind ≡ round_at (rounds_of old) (stands_in old.conds kind within) ++ condition_in kind
  pub chapter : taken.chapter ≡ chapter_in kind
  pub names : new.names ≡ with_names (names_in kind) old.names

-- the place that a fault tells is that of a line of a document so far
pub record IsAtLine (d : Document) (line : Line) (name : List ℕ) (number : ℕ) : Type 0 where
  pub name_is : name ≡ slice_index_or d.files line.file []
  pub number_is : number ≡ line.number

-- why a line of a kind wasn't taken
abbrev pub IsTakeFault : Document → Line → LineKind → DocFault → Type 0
IsTakeFault d line kind (doc.DocTooLong name number) = IsAtLine d line name number × (most_lines ≤ length d.lines)
IsTakeFault d line kind (doc.NameLimit name number) = IsAtLine d line name number × (length d.lines < most_lines) × (most_names < length (with_names (names_in kind) d.names))
IsTakeFault d line kind doc.Memory = ⊤
IsTakeFault d line kind _ = ⊥

-- no shelf failed
abbrev pub IsNoReadFault : DocFault → Type 0
IsNoReadFault doc.ReadFault = ⊥
IsNoReadFault _ = ⊤
