-- What each definition says of the lines ahead from what is known of those so far.
use Rattle.std.proofs.Common.{inl, inr, ◌≡◌, ℕ, ◌+◌, cond, List, [], ◌∷◌, ◌++◌, length, map, refl, ap, ◌∙◌, add-one}
use Rattle.std.proofs.lemmas.Bool.{cases_Bool}
use Rattle.std.proofs.lemmas.List.Sums.{sum_by-cons}
use Rattle.std.specs.Prelude.{◌&&◌, count_by, filter}
use Rattle.vu_tags.specs.Lines.{is_bullet, lines_of}
use Rattle.vu_tags.specs.Statements.{Place, begins_statement, in_block, is_untagged, lacks_tag, places_from, untagged_in, usage_at, usages_of}
use Rattle.vu_tags.specs.Tagged.{Names, page_of, tagged_file, tagged_lines, tagged_line}
use Rattle.vu_tags.specs.Progress.{block_behind, tagged_ahead, untagged_ahead, usages_ahead}
use Rattle.vu_tags.specs.declared.Usage.{Usage}

usages_are_ahead : (before lines : List (List ℕ)) → map usage_at (filter begins_statement (places_from before lines)) ≡ usages_ahead (block_behind before) (length before) lines
usages_are_ahead before [] = refl
usages_are_ahead before (line ∷ after) =
    let rest = usages_are_ahead (line ∷ before) after in
    elim (cases_Bool (in_block before && is_bullet line)) [
      | inl is ↦ rw (is, add-one) (ap (λ (usages : List Usage). usage_at (record { before = before; line = line; after = after }) ∷ usages) rest)
      | inr isnt ↦ rw (isnt, add-one) rest
    ]

pub usages_of-ahead : (file : List ℕ) → usages_of file ≡ usages_ahead (block_behind []) 0 (lines_of file)
unfolding usages_of
usages_of-ahead file = usages_are_ahead [] (lines_of file)

untagged_are_ahead : (before lines : List (List ℕ)) → count_by is_untagged (places_from before lines) ≡ untagged_ahead (block_behind before) lines
untagged_are_ahead before [] = refl
untagged_are_ahead before (line ∷ after) =
    let place : Place = record { before = before; line = line; after = after } in
    sum_by-cons (λ (p : Place). cond (is_untagged p) 1 0) place (places_from (line ∷ before) after)
    ∙ ap (λ (n : ℕ). cond (is_untagged place) 1 0 + n) (untagged_are_ahead (line ∷ before) after)

pub untagged_in-ahead : (file : List ℕ) → untagged_in file ≡ untagged_ahead (block_behind []) (lines_of file)
unfolding untagged_in
untagged_in-ahead file = untagged_are_ahead [] (lines_of file)

module _ (names : Names) where
  tagged_are_ahead : (before lines : List (List ℕ)) (number : ℕ)
      → tagged_lines names number (places_from before lines) ≡ tagged_ahead names (block_behind before) (page_of names before) number lines
  tagged_are_ahead before [] number = refl
  tagged_are_ahead before (line ∷ after) number =
      let place : Place = record { before = before; line = line; after = after } in
      elim (cases_Bool (in_block before && is_bullet line && lacks_tag line)) [
        | inl is ↦ rw is (ap (λ (bytes : List ℕ). tagged_line names number place ++ bytes) (tagged_are_ahead (line ∷ before) after (number + 1)))
        | inr isnt ↦ rw isnt (ap (λ (bytes : List ℕ). line ++ bytes) (tagged_are_ahead (line ∷ before) after number))
      ]

  pub tagged_file-ahead : (number : ℕ) (file : List ℕ) → tagged_file names number file ≡ tagged_ahead names (block_behind []) (page_of names []) number (lines_of file)
  unfolding tagged_file
  tagged_file-ahead number file = tagged_are_ahead [] (lines_of file) number
