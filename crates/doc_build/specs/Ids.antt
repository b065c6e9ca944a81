-- The id that a mark has where some names are set. That `{refpage}` in an id stands for the page of the text is of the style guide
-- "Vulkan Documentation and Extensions: Procedures and Conventions".
use Rattle.std.specs.Prelude.{ℕ, zero, suc, Option, Some, None, nat_eq, List, [], ◌∷◌, ◌++◌, take, filter, codes, if◌then◌else◌}
use Rattle.std.specs.List.{flat_map, last_or, starts_with}
use Rattle.doc_cond.specs.declared.LineKind.{LineKind}
use Rattle.doc_cond.specs.declared.LineKind.TheVariants.{Refpage}
use Rattle.doc_tree.specs.Flat.{FlatLine, is_kept}

-- the attribute that stands for the page's name in an id
abbrev pub refpage : List ℕ
refpage = codes "{refpage}"

-- the text with the page's name in the place of each `{refpage}`, behind so many bytes that belong to the last one
abbrev pub filled_from : List ℕ → ℕ → List ℕ → List ℕ
filled_from page left [] = []
filled_from page zero (byte ∷ bytes) = if starts_with nat_eq (byte ∷ bytes) refpage then page ++ filled_from page 8 bytes else byte ∷ filled_from page zero bytes
filled_from page (suc left) (byte ∷ bytes) = filled_from page left bytes

-- a written id with the page's name in the place of each `{refpage}`; where there is no page, as it is written
abbrev pub filled : Option (List ℕ) → List ℕ → List ℕ
filled None written = written
filled (Some page) written = filled_from page 0 written

-- the page that a line sets
abbrev pub page_set : LineKind → List (List ℕ)
page_set (Refpage name) = name ∷ []
page_set _ = []

-- the page at a flat line, from 0, where some names are set: that of the last line before it that sets one and is kept
abbrev pub page_at : List FlatLine → List (List ℕ) → ℕ → Option (List ℕ)
page_at lines set place = last_or None (flat_map (λ line. page_set line.kind) (filter (is_kept set) (take place lines)))

-- the id of a mark that stands in what a flat line gives, as it is written there, where some names are set
abbrev pub id_at : List FlatLine → List (List ℕ) → ℕ → List ℕ → List ℕ
id_at lines set place written = filled (page_at lines set place) written
