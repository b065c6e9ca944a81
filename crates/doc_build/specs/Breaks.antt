-- Where a link breaks.
use Rattle.std.specs.Prelude.{◌≢◌, List, Contains}
use Rattle.doc_tree.specs.Flat.{FlatLine}
use Rattle.doc_build.specs.Choices.{Choice, Setting}
use Rattle.doc_build.specs.Pieces.{Link, count_of, link_id, links_of, pieces_of}

-- the link stands in the text that is built for the choice, and its id there hasn't exactly one anchor there
pub record Breaks (setting : Setting) (lines : List FlatLine) (choice : Choice) (link : Link) : Type 0 where
  pub stands : Contains (links_of (pieces_of setting lines choice)) link
  pub count : count_of setting lines choice (link_id setting lines choice link) ≢ 1

-- no permitted choice breaks the link
abbrev pub IsSound : Setting → List FlatLine → Link → Type 0
IsSound setting lines link = (choice : Choice) → setting.Permits choice → ¬ (Breaks setting lines choice link)
