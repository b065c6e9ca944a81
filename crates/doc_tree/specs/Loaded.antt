-- What a loaded document says: its lines in flat order, from the buffer into which its files were read.
use Rattle.std.specs.Prelude.{◌≡◌, ℕ, ◌<◌, ◌≤◌, List, [], ◌∷◌, ◌++◌, Option, Some, None, length, map, All, slice_index_or, slice_get, MatchOption, ⊤}
use Rattle.std.specs.List.{flat_map}
use Rattle.vkb_formula.specs.Names.{AreDifferent}
use Rattle.vkb_text.specs.Spans.{IsWithin as IsSpanWithin, slice_at}
use Rattle.doc_cond.specs.Lines.{IsKind, IsWithin as IsKindWithin}
use Rattle.doc_cond.specs.declared.LineKind.{LineKind}
use Rattle.doc_cond.specs.declared.LineKind.TheVariants.{OneLine}
use Rattle.doc_tree.specs.declared.Cond.{Cond}
use Rattle.doc_tree.specs.declared.CondId.{CondId}
use Rattle.doc_tree.specs.declared.DocLine.{DocLine}
use Rattle.doc_tree.specs.declared.Document.{Document}
use Rattle.doc_tree.specs.Flat.{Condition, FlatLine}
use Rattle.doc_tree.specs.Names.{each_once, names_in}
use Rattle.doc_tree.specs.Walk.{most_lines}

-- a condition with the names in the place of their numbers
abbrev pub condition_of : List (List ℕ) → Cond → Condition
condition_of names cond = record { negated = cond.negated; any = cond.any; names = map (λ name. slice_index_or names name.0 []) cond.names }

-- a condition and those round it, outermost first, or none
abbrev pub round_at : List (List Condition) → Option CondId → List Condition
round_at rounds None = []
round_at rounds (Some cond) = slice_index_or rounds cond.0 []

-- each condition with those round it, from the conditions before it
abbrev pub rounds_from : List (List ℕ) → List (List Condition) → List Cond → List (List Condition)
rounds_from names made [] = made
rounds_from names made (cond ∷ conds) = rounds_from names (made ++ (round_at made cond.within ++ condition_of names cond ∷ []) ∷ []) conds

-- each condition of a document with those round it
abbrev pub rounds_of : Document → List (List Condition)
rounds_of d = rounds_from d.names [] d.conds

-- a line of a document, by the buffer
abbrev pub flat_line : List ℕ → List (List ℕ) → List (List Condition) → DocLine → FlatLine
flat_line text files rounds l = record {
  file = slice_index_or files l.line.file [];
  number = l.line.number;
  bytes = slice_at text l.line.span;
  kind = l.kind;
  round = round_at rounds l.within;
}

-- the lines of a document in flat order
abbrev pub flat_of : List ℕ → Document → List FlatLine
flat_of text d = map (flat_line text d.files (rounds_of d)) d.lines

-- a condition that is named stands before this place
abbrev pub IsBefore : ℕ → Option CondId → Type 0
IsBefore place cond = MatchOption cond ⊤ (λ c. c.0 < place)

-- the condition of a one-line form is its own, inside those round the line; another line has none
abbrev pub IsOwn : Document → Option CondId → LineKind → Option CondId → Type 0
IsOwn d within (OneLine negated any names from to) own =
    (id : CondId) × (cond : Cond) × (own ≡ Some id) × (slice_get d.conds id.0 ≡ Some cond) × (cond.within ≡ within)
    × (condition_of d.names cond ≡ record { negated = negated; any = any; names = names })
IsOwn d within _ own = own ≡ None

-- a line that lies in the buffer, is of the kind that its bytes spell, and whose conditions are there
pub record IsLineThere (text : List ℕ) (d : Document) (l : DocLine) : Type 0 where
  pub span : IsSpanWithin text l.line.span
  pub kind : IsKind (slice_at text l.line.span) l.kind
  pub places : IsKindWithin (slice_at text l.line.span) l.kind
  pub file : l.line.file < length d.files
  pub within : IsBefore (length d.conds) l.within
  pub own : IsOwn d l.within l.kind l.own

-- a condition whose names are there, and the one that it stands in before it
pub record IsCondThere (names : ℕ) (place : ℕ) (cond : Cond) : Type 0 where
  pub each : All (λ name. name.0 < names) cond.names
  pub within : IsBefore place cond.within

-- a document that was loaded into this buffer: what it names is there
pub record IsLoaded (text : List ℕ) (d : Document) : Type 0 where
  pub lines : All (IsLineThere text d) d.lines
  pub conds : (place : ℕ) (cond : Cond) → slice_get d.conds place ≡ Some cond → IsCondThere (length d.names) place cond
  pub different : AreDifferent d.names
  pub named : d.names ≡ each_once (flat_map (λ l. names_in l.kind) d.lines)
  pub few : length d.lines ≤ most_lines
