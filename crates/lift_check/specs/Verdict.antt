-- The verdict on all links of a document, over all permitted choices.
use Rattle.std.specs.Prelude.{◌≡◌, ℕ, Bool, List, ◌∷◌, ◌++◌, length, All}
use Rattle.doc_tree.specs.Flat.{FlatLine}
use Rattle.reg_registry.specs.Rows.{Rows}
use Rattle.doc_build.specs.declared.Place.{Place}
use Rattle.doc_build.specs.Breaks.{Breaks, IsSound}
use Rattle.doc_build.specs.Choices.{Choice, Setting}
use Rattle.doc_build.specs.Pieces.{Link, all_links, count_of, link_id}
use Rattle.doc_build.specs.Settings.{AreClosures, registry_setting}
use Rattle.lift_check.specs.declared.Verdict.{Verdict}
use Rattle.lift_check.specs.declared.Verdict.TheVariants.{Yes, No}

-- the first link that some permitted choice breaks: its place, such a choice, its id there, and the count of its anchors there
pub record IsFirstBroken (setting : Setting) (lines : List FlatLine) (place : Place) (id : List ℕ) (choice : Choice) (count : ℕ) : Type 0 where
  pub before : List Link
  pub link : Link
  pub after : List Link
  pub here : all_links setting lines ≡ before ++ link ∷ after
  pub first : All (IsSound setting lines) before
  pub permitted : setting.Permits choice
  pub broken : Breaks setting lines choice link
  pub place_is : place ≡ link.place
  pub id_is : id ≡ link_id setting lines choice link
  pub counted : count ≡ count_of setting lines choice id

-- Yes with the number of links where no permitted choice breaks one, else No with the first that one breaks
abbrev pub IsVerdict : Setting → List FlatLine → Verdict → Type 0
IsVerdict setting lines (Yes links) = (links ≡ length (all_links setting lines)) × All (IsSound setting lines) (all_links setting lines)
IsVerdict setting lines (No place id choice count) = IsFirstBroken setting lines place id choice count

-- the verdict on a document over a registry, where some names are always set: its generated pages are those of the closure of each choice
abbrev pub IsJudged : List (List ℕ) → Rows → List FlatLine → Verdict → Type 0
IsJudged always r lines verdict = (closure : Choice → List Bool) × AreClosures r closure × IsVerdict (registry_setting always r closure) lines verdict
