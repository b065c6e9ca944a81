-- What a document is judged over where a registry is read: its options, the choices that it permits, and its generated pages, by what the closure
-- of each choice has.
use Rattle.std.specs.Prelude.{◌≡◌, ℕ, Bool, false, List, length, All}
use Rattle.doc_cond.specs.declared.LineKind.{LineKind}
use Rattle.doc_cond.specs.declared.LineKind.TheVariants.{Api, Validity}
use Rattle.doc_tree.specs.Flat.{FlatLine, is_among}
use Rattle.reg_registry.specs.Rows.{Rows}
use Rattle.reg_closure.specs.Closure.{IsClosure}
use Rattle.reg_permit.specs.Permitted.{IsPermitted}
use Rattle.doc_build.specs.Choices.{Choice, Pages, Setting, pageless_setting}
use Rattle.doc_build.specs.Pages.{lines_given, lines_marked}
use Rattle.doc_build.specs.Pieces.{all_pieces, pieces_of}

-- this gives the closure of each choice
abbrev pub AreClosures : Rows → (Choice → List Bool) → Type 0
AreClosures r closure = (choice : Choice) → length choice ≡ length r.options → IsClosure r choice (closure choice)

-- the pages of a registry
abbrev pub generated : Rows → (Choice → List Bool) → Pages
generated r closure = record { given = λ choice. lines_given r choice (closure choice); all = lines_marked r }

-- over a registry, where some names are always set and this gives the closure of each choice
abbrev pub registry_setting : List (List ℕ) → Rows → (Choice → List Bool) → Setting
registry_setting always r closure = record {
  always = always;
  options = r.options;
  Permits = λ choice. (length choice ≡ length r.options) × IsPermitted r choice;
  pages = generated r closure;
}

-- a line of this kind includes the page of one of these names
abbrev pub includes_page : List (List ℕ) → LineKind → Bool
includes_page names (Api name) = is_among names name
includes_page names (Validity name) = is_among names name
includes_page names _ = false

-- no line includes the page of a declared name
abbrev pub IncludeNoPage : Rows → List FlatLine → Type 0
IncludeNoPage r lines = All (λ line. includes_page r.names line.kind ≡ false) lines

-- where no line includes the page of a declared name, pages are nothing to the text
pub record PagesAreOfNames : Type 0 where
  pub given : (always : List (List ℕ)) (r : Rows) (closure : Choice → List Bool) (lines : List FlatLine) (choice : Choice) → IncludeNoPage r lines
      → pieces_of (registry_setting always r closure) lines choice ≡ pieces_of (pageless_setting always r) lines choice
  pub all : (always : List (List ℕ)) (r : Rows) (closure : Choice → List Bool) (lines : List FlatLine) → IncludeNoPage r lines
      → all_pieces (registry_setting always r closure) lines ≡ all_pieces (pageless_setting always r) lines
