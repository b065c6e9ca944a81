-- What tagging leaves of all lines of a file: no statement without a tag, no malformed tag, and all old tags.
use Rattle.std.proofs.Common.{◌≡◌, ℕ, ◌+◌, ◌-◌, ◌<◌, ◌≤◌, true, false, List, [], ◌∷◌, ◌++◌, Option, Some, length, drop, refl, sym, ap, subst, ◌∙◌, inl, inr, zero-add, arith}
use Rattle.std.proofs.lemmas.Bool.{cases_Bool, and_parts}
use Rattle.std.proofs.lemmas.List.Folds.{list_any-append}
use Rattle.std.proofs.lemmas.List.Elements.{filter_map-append}
use Rattle.std.specs.Prelude.{◌&&◌}
use Rattle.std.specs.List.{concat, filter_map, list_all, list_any}
use Rattle.vu_tags.specs.Lines.{bullet, is_bullet, lines_of}
use Rattle.vu_tags.specs.Statements.{further_lines, lacks_tag}
use Rattle.vu_tags.specs.Tags.{is_tag_byte, is_wrong, tags_of}
use Rattle.vu_tags.specs.Tagged.{Names, TellsPages, new_tag, parameter_of, piece_of, with_piece}
use Rattle.vu_tags.specs.Kept.{Adds}
use Rattle.vu_tags.specs.Kept.Adds.{nothing, stays, comes}
use Rattle.vu_tags.specs.Progress.{block_after, is_untagged_in, page_after, tagged_ahead, untagged_ahead}
use Rattle.vu_tags.specs.declared.blocks.Block.{Block}
use Rattle.vu_tags.proofs.FedLemmas.{AreLines, IsEnded, ended_before, ended_fronts, ended_lines}
use Rattle.vu_tags.proofs.FrontLemmas.{fronts_of, or_none, tags_fronts}
use Rattle.vu_tags.proofs.KeptLemmas.{fronts_two, none_untagged, page_keeps, parameter_bytes}
use Rattle.vu_tags.proofs.PieceLemmas.{new_tag_bytes, new_tag_number, new_tag_some, new_tag_well}
use Rattle.vu_tags.proofs.PlaceLemmas.{begins_front}

bullet_line : (block : Block) (line : List ℕ) → is_untagged_in block line ≡ true → line ≡ bullet ++ drop 4 line
unfolding is_bullet
bullet_line block line is =
    let parts = and_parts (block.inside && is_bullet line) (lacks_tag line) is in
    begins_front line bullet (and_parts block.inside (is_bullet line) parts.0).1

-- the tag of the statement that begins with a line
abbrev tag_for : List ℕ → List ℕ → List (List ℕ) → ℕ → List ℕ
tag_for page line after number = new_tag page (parameter_of (concat (line ∷ further_lines after))) number

module _ (page line : List ℕ) (after : List (List ℕ)) (number : ℕ) (pages : list_all is_tag_byte page ≡ true) where
  tag_bytes : list_all is_tag_byte (tag_for page line after number) ≡ true
  tag_bytes = new_tag_bytes page _ number pages (parameter_bytes (concat (line ∷ further_lines after)))

  tag_some : 0 < length (tag_for page line after number)
  tag_some = new_tag_some page (parameter_of (concat (line ∷ further_lines after))) number

  -- for any line with a bullet
  module _ (block : Block) (rest : List ℕ) (same : line ≡ bullet ++ drop 4 line) where
    abbrev new_line : List ℕ
    new_line = with_piece line (piece_of page (parameter_of (concat (line ∷ further_lines after))) number)

    line_untagged : IsEnded line rest → untagged_ahead block (lines_of (new_line ++ rest)) ≡ untagged_ahead (block_after block line) (lines_of rest)
    unfolding piece_of
    line_untagged ended =
        let P : List ℕ → Type 0 = λ l. IsEnded l rest
        → untagged_ahead block (lines_of (with_piece l (piece_of page (parameter_of (concat (line ∷ further_lines after))) number) ++ rest)) ≡ untagged_ahead (block_after block l) (lines_of rest) in
        subst P (sym same) (none_untagged (tag_for page line after number) (drop 4 line) tag_some tag_bytes block rest) ended

    line_fronts : fronts_of (new_line ++ rest) ≡ Some (tag_for page line after number) ∷ fronts_of (line ++ rest)
    unfolding piece_of
    line_fronts =
        let P : List ℕ → Type 0 = λ l.
        fronts_of (with_piece l (piece_of page (parameter_of (concat (line ∷ further_lines after))) number) ++ rest) ≡ Some (tag_for page line after number) ∷ fronts_of (l ++ rest) in
        subst P (sym same) (fronts_two (tag_for page line after number) (drop 4 line) tag_some tag_bytes rest)

tags_apart : (a b : List ℕ) → fronts_of (a ++ b) ≡ fronts_of a ++ fronts_of b → tags_of (a ++ b) ≡ tags_of a ++ tags_of b
tags_apart a b apart =
    let tags : List (Option (List ℕ)) → List (List ℕ) = filter_map (λ (f : Option (List ℕ)). f) in
    tags_fronts (a ++ b) ∙ ap tags apart ∙ filter_map-append (λ (f : Option (List ℕ)). f) (fronts_of a) (fronts_of b)
    ∙ ap (λ (x : List (List ℕ)). x ++ tags (fronts_of b)) (sym (tags_fronts a)) ∙ ap (λ (x : List (List ℕ)). tags_of a ++ x) (sym (tags_fronts b))

adds_keep : {number end : ℕ} {old new : List (List ℕ)} (tags : List (List ℕ)) → Adds number old new end → Adds number (tags ++ old) (tags ++ new) end
adds_keep [] adds = adds
adds_keep (tag ∷ tags) adds = stays tag (adds_keep tags adds)

pub adds_as : {number end last : ℕ} {old new before after : List (List ℕ)} → old ≡ before → new ≡ after → end ≡ last → Adds number old new end → Adds number before after last
adds_as {number} {end} {last} {old} {new} {before} {after} first second third adds =
    subst (λ (l : ℕ). Adds number before after l) third (subst (λ (n : List (List ℕ)). Adds number before n end) second (subst (λ (o : List (List ℕ)). Adds number o new end) first adds))

pub adds_join : {number middle end : ℕ} {old new before after : List (List ℕ)} → Adds number old new middle → Adds middle before after end → Adds number (old ++ before) (new ++ after) end
adds_join nothing later = later
adds_join (stays tag adds) later = stays tag (adds_join adds later)
adds_join (comes tag is adds) later = comes tag is (adds_join adds later)

adds_none : (number : ℕ) → Adds number (tags_of []) (tags_of []) (number + 0)
unfolding tags_of
adds_none number = subst (λ (end : ℕ). Adds number [] [] end) (omega arith) nothing

module _ (names : Names) (tells : TellsPages names) where
  rest_ends : (block : Block) (page : List ℕ) (number : ℕ) (after : List (List ℕ)) → after ≡ [] → tagged_ahead names block page number after ≡ []
  rest_ends block page number after none = ap (tagged_ahead names block page number) none

  -- no statement is left without a tag
  pub none_left : (lines : List (List ℕ)) → AreLines lines → (block : Block) (page : List ℕ) (number : ℕ) → list_all is_tag_byte page ≡ true
      → untagged_ahead block (lines_of (tagged_ahead names block page number lines)) ≡ 0
  none_left [] so block page number pages = refl
  none_left (line ∷ after) so block page number pages =
      let behind = block_after block line in
      let next = page_after names page line in
      let ended : (n : ℕ) → IsEnded line (tagged_ahead names behind next n after) = λ n. ended_before line after _ (rest_ends behind next n after) so.0 in
      let left = none_left after so.1 behind next in
      let kept = page_keeps names tells page line pages in
      elim (cases_Bool (is_untagged_in block line)) [
        | inl is ↦
            let rest = tagged_ahead names behind next (number + 1) after in
            rw is (line_untagged page line after number pages block rest (bullet_line block line is) (ended (number + 1)) ∙ left (number + 1) kept)
        | inr isnt ↦
            let rest = tagged_ahead names behind next number after in
            rw isnt (ap (untagged_ahead block) (ended_lines line rest (ended number)) ∙ rw isnt (zero-add _ ∙ left number kept))
      ]

  -- no malformed tag comes
  pub none_wrong : (lines : List (List ℕ)) → AreLines lines → (block : Block) (page : List ℕ) (number : ℕ) → list_all is_tag_byte page ≡ true
      → list_any is_wrong (fronts_of (concat lines)) ≡ false → list_any is_wrong (fronts_of (tagged_ahead names block page number lines)) ≡ false
  none_wrong [] so block page number pages well = well
  none_wrong (line ∷ after) so block page number pages well =
      let behind = block_after block line in
      let next = page_after names page line in
      let parts : (list_any is_wrong (fronts_of line) ≡ false) × (list_any is_wrong (fronts_of (concat after)) ≡ false) = or_none (list_any is_wrong (fronts_of line)) (list_any is_wrong (fronts_of (concat after))) (sym (ap (list_any is_wrong) (ended_fronts line (concat after) (ended_before line after _ (λ none. ap concat none) so.0)) ∙ list_any-append is_wrong (fronts_of line) (fronts_of (concat after))) ∙ well) in
      let later : (n : ℕ) → list_any is_wrong (fronts_of (tagged_ahead names behind next n after)) ≡ false =
      λ n. none_wrong after so.1 behind next n (page_keeps names tells page line pages) parts.1 in
      let both : (n : ℕ) → list_any is_wrong (fronts_of (line ++ tagged_ahead names behind next n after)) ≡ false =
      λ n. ap (list_any is_wrong) (ended_fronts line (tagged_ahead names behind next n after) (ended_before line after _ (rest_ends behind next n after) so.0))
      ∙ list_any-append is_wrong (fronts_of line) (fronts_of (tagged_ahead names behind next n after)) ∙ rw (parts.0, later n) refl in
      elim (cases_Bool (is_untagged_in block line)) [
        | inl is ↦
            let rest = tagged_ahead names behind next (number + 1) after in
            rw is (ap (list_any is_wrong) (line_fronts page line after number pages block rest (bullet_line block line is))
            ∙ rw (new_tag_well page (parameter_of (concat (line ∷ further_lines after))) number) (both (number + 1)))
        | inr isnt ↦ rw isnt (both number)
      ]

  -- all tags stay, and the new ones are numbered
  pub all_stay : (lines : List (List ℕ)) → AreLines lines → (block : Block) (page : List ℕ) (number : ℕ) → list_all is_tag_byte page ≡ true
      → untagged_ahead block lines ≤ 100000 - number
      → Adds number (tags_of (concat lines)) (tags_of (tagged_ahead names block page number lines)) (number + untagged_ahead block lines)
  all_stay [] so block page number pages few = adds_none number
  all_stay (line ∷ after) so block page number pages few =
      let behind = block_after block line in
      let next = page_after names page line in
      let kept = page_keeps names tells page line pages in
      let old : tags_of (line ++ concat after) ≡ tags_of line ++ tags_of (concat after) =
      tags_apart line (concat after) (ended_fronts line (concat after) (ended_before line after _ (λ none. ap concat none) so.0)) in
      let new : (n : ℕ) → tags_of (line ++ tagged_ahead names behind next n after) ≡ tags_of line ++ tags_of (tagged_ahead names behind next n after) =
      λ n. tags_apart line _ (ended_fronts line (tagged_ahead names behind next n after) (ended_before line after _ (rest_ends behind next n after) so.0)) in
      elim (cases_Bool (is_untagged_in block line)) [
        | inl is ↦
            let rest = tagged_ahead names behind next (number + 1) after in
            let more = rw is at few in
            let tag = tag_for page line after number in
            let later = all_stay after so.1 behind next (number + 1) kept (omega arith) in
            let end : number + 1 + untagged_ahead behind after ≡ number + (1 + untagged_ahead behind after) = omega arith in
            let here : tags_of (new_line page line after number pages block rest (bullet_line block line is) ++ rest) ≡ tag ∷ tags_of (line ++ rest) =
            tags_fronts _ ∙ ap (filter_map (λ (f : Option (List ℕ)). f)) (line_fronts page line after number pages block rest (bullet_line block line is))
            ∙ ap (λ (tags : List (List ℕ)). tag ∷ tags) (sym (tags_fronts (line ++ rest))) in
            rw is (adds_as (sym old) (sym (here ∙ ap (λ (tags : List (List ℕ)). tag ∷ tags) (new (number + 1)))) end
            (comes tag (new_tag_number page (parameter_of (concat (line ∷ further_lines after))) number (omega arith)) (adds_keep (tags_of line) later)))
        | inr isnt ↦
            let more = rw isnt at few in
            let later = all_stay after so.1 behind next number kept (omega arith) in
            let end : number + untagged_ahead behind after ≡ number + (0 + untagged_ahead behind after) = omega arith in
            rw isnt (adds_as (sym old) (sym (new number)) end (adds_keep (tags_of line) later))
      ]

-- where no statement lacks a tag, nothing is changed
pub none_changed : (names : Names) (lines : List (List ℕ)) (block : Block) (page : List ℕ) (number : ℕ) → untagged_ahead block lines ≡ 0 → tagged_ahead names block page number lines ≡ concat lines
none_changed names [] block page number none = refl
none_changed names (line ∷ after) block page number none =
    elim (cases_Bool (is_untagged_in block line)) [
      | inl is ↦ let some = rw is at none in absurd (omega (arith, some))
      | inr isnt ↦
          let later = rw isnt at none in
          rw isnt (ap (λ (bytes : List ℕ). line ++ bytes) (none_changed names after (block_after block line) (page_after names page line) number (omega (arith, later))))
    ]
