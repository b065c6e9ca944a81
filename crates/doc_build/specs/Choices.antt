-- What is chosen, and what is set where it is.
use Rattle.std.specs.Prelude.{◌≡◌, ℕ, Bool, not, List, [], ◌++◌, length, map, filter}
use Rattle.std.specs.List.{flat_map, zip}
use Rattle.doc_cond.specs.declared.LineKind.{LineKind}
use Rattle.doc_tree.specs.Flat.{FlatLine, is_among}
use Rattle.doc_tree.specs.Names.{each_once, names_in}
use Rattle.reg_registry.specs.Rows.{Rows, bare_rows}
use Rattle.reg_permit.specs.Permitted.{IsPermitted}

-- one value for each option: whether it is chosen
abbrev pub Choice : Type 0
Choice = List Bool

-- a line that the include of a generated page gives
pub record PageLine : Type 0 where
  -- its statement's number, from 1, or 0
  pub statement : ℕ
  -- whether marks are read in it
  pub marked : Bool
  pub bytes : List ℕ

-- What the includes of generated pages give, by the kind of the include's line.
pub record Pages : Type 0 where
  -- in the text that is built for a choice
  pub given : Choice → LineKind → List PageLine
  -- at some choice or other: what has links, whether it stands at a choice or not
  pub all : LineKind → List PageLine

-- no page gives anything: no name is declared
abbrev pub no_pages : Pages
no_pages = record { given = λ choice kind. []; all = λ kind. [] }

-- What is judged over: the names that are always set, the options, which choices of them are permitted, and the generated pages.
pub record Setting : Type 1 where
  pub always : List (List ℕ)
  pub options : List (List ℕ)
  pub Permits : Choice → Type 0
  pub pages : Pages

-- the names that conditions mention, each where it is first mentioned
abbrev pub mentioned : List FlatLine → List (List ℕ)
mentioned lines = each_once (flat_map (λ line. names_in line.kind) lines)

-- the options of a document over no registry: the names of its conditions that aren't always set, in order of first mention
abbrev pub free_names : List (List ℕ) → List FlatLine → List (List ℕ)
free_names always lines = filter (λ name. not (is_among always name)) (mentioned lines)

-- Over a registry whose pages give nothing: its options, and the choices that it permits, with a value for each option. So it is for documents
-- that include no page of a declared name.
abbrev pub pageless_setting : List (List ℕ) → Rows → Setting
pageless_setting always r = record {
  always = always;
  options = r.options;
  Permits = λ choice. (length choice ≡ length r.options) × IsPermitted r choice;
  pages = no_pages;
}

-- over no registry: a bare one of the document's options stands for it, which declares nothing and permits every choice
abbrev pub bare_setting : List (List ℕ) → List FlatLine → Setting
bare_setting always lines = pageless_setting always (bare_rows (free_names always lines))

-- the chosen options, in order
abbrev pub chosen_of : List (List ℕ) → Choice → List (List ℕ)
chosen_of options choice = map (λ p. p.0) (filter (λ p. p.1) (zip options choice))

-- the names that are set at a choice: those that always are, and the chosen options
abbrev pub names_set : Setting → Choice → List (List ℕ)
names_set setting choice = setting.always ++ chosen_of setting.options choice
