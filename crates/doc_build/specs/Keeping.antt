-- Which lines are kept, by the numbers of conditions and names. It is told of each condition once whether it and those round it are met.
use Rattle.std.specs.Prelude.{◌≡◌, ℕ, ◌<◌, Bool, true, false, not, ◌&&◌, ◌||◌, List, [], ◌∷◌, ◌++◌, Option, Some, None, All, length, slice_get, slice_index_or, if◌then◌else◌}
use Rattle.std.specs.List.{list_all, list_any}
use Rattle.std.specs.Option.{option_or}
use Rattle.vkb_formula.specs.declared.name_table.NameId.{NameId}
use Rattle.vkb_formula.specs.Names.{AreDifferent}
use Rattle.reg_registry.specs.Rows.{id_at}
use Rattle.doc_tree.specs.Flat.{is_among, is_kept}
use Rattle.doc_tree.specs.Loaded.{IsLoaded, flat_line, rounds_of}
use Rattle.doc_tree.specs.declared.Cond.{Cond}
use Rattle.doc_tree.specs.declared.CondId.{CondId}
use Rattle.doc_tree.specs.declared.DocLine.{DocLine}
use Rattle.doc_tree.specs.declared.Document.{Document}
use Rattle.doc_build.specs.Choices.{Choice, chosen_of}

-- the condition is met by itself, where this tells of each name whether it is set
abbrev pub meets_by : (NameId → Bool) → Cond → Bool
meets_by is_set cond =
    let held = if cond.any then list_any is_set cond.names else list_all is_set cond.names in
    if cond.negated then not held else held

-- what was made of the condition that is named; where there is none, true
abbrev pub met_at : List Bool → Option CondId → Bool
met_at made None = true
met_at made (Some cond) = slice_index_or made cond.0 true

-- for each condition whether it and those round it are met, from the conditions before it
abbrev pub met_from : (Cond → Bool) → List Bool → List Cond → List Bool
met_from met made [] = made
met_from met made (cond ∷ conds) = met_from met (made ++ (met_at made cond.within && met cond) ∷ []) conds

-- what was made of the condition of a line: its own, else the innermost round it
abbrev pub line_met : List Bool → DocLine → Bool
line_met made line = met_at made (option_or line.own line.within)

-- what was made of all conditions tells of each line whether it is kept where some names are set
abbrev pub KeepsLines : List (List ℕ) → List ℕ → Document → List Bool → Type 0
KeepsLines names text d made = All (λ line. line_met made line ≡ is_kept names (flat_line text d.files (rounds_of d) line)) d.lines

-- this tells of each name of a document whether it is among those that are set
abbrev pub TellsNames : List (List ℕ) → Document → (NameId → Bool) → Type 0
TellsNames names d is_set = (place : ℕ) → place < length d.names → is_set (id_at place) ≡ is_among names (slice_index_or d.names place [])

-- what is made so of the conditions of a loaded document, one after another, tells of its lines
abbrev pub LinesAreKeptByNumber : Type 0
LinesAreKeptByNumber =
    (text : List ℕ) (d : Document) (names : List (List ℕ)) (is_set : NameId → Bool) → IsLoaded text d → TellsNames names d is_set
    → KeepsLines names text d (met_from (meets_by is_set) [] d.conds)

-- an option is set where it is chosen, and what is no option only where it always is
pub record OptionsAreSet : Type 0 where
  pub option : (always options : List (List ℕ)) (choice : Choice) (name : List ℕ) (place : ℕ) → AreDifferent options → slice_get options place ≡ Some name
      → is_among (always ++ chosen_of options choice) name ≡ (is_among always name || slice_index_or choice place false)
  pub other : (always options : List (List ℕ)) (choice : Choice) (name : List ℕ) → is_among options name ≡ false
      → is_among (always ++ chosen_of options choice) name ≡ is_among always name
