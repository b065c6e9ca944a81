-- What stays of a file that is tagged, line by line.
use Rattle.std.proofs.Common.{◌≡◌, ℕ, suc, ◌+◌, ◌<◌, Bool, true, false, cond, List, [], ◌∷◌, ◌++◌, Option, Some, None, length, take, drop, get_or, refl, sym, ap, ◌∙◌, inl, inr, codes, append_assoc, arith}
use Rattle.std.proofs.lemmas.Bool.{cases_Bool, and_from, and_parts}
use Rattle.std.proofs.lemmas.List.Folds.{list_any-append}
use Rattle.std.proofs.lemmas.Slice.Eq.{bytes_eq-Decides}
use Rattle.std.specs.Prelude.{◌&&◌, unwrap_or}
use Rattle.std.specs.List.{cons_option, filter_map, list_all, prefix_len}
use Rattle.vkb_bytes.specs.Bytes.{is_word_byte}
use Rattle.vkb_bytes.specs.First.{first_of}
use Rattle.doc_cond.specs.Lines.{IsApi, Includes, bare}
use Rattle.vu_tags.specs.Lines.{bullet, is_bullet, is_fence, is_line_feed, is_text, is_title, lines_of, unfed}
use Rattle.vu_tags.specs.Statements.{lacks_tag, tag_front}
use Rattle.vu_tags.specs.Tags.{is_tag_byte, tails}
use Rattle.vu_tags.specs.Tagged.{Names, TellsPages, parameter_at, parameter_front, parameter_of, with_piece, word_run}
use Rattle.vu_tags.specs.Progress.{block_after, is_untagged_in, page_after, untagged_ahead}
use Rattle.vu_tags.specs.declared.blocks.Block.{Block}
use Rattle.vu_tags.proofs.FedLemmas.{IsEnded, IsFed, ended_behind, ended_lines}
use Rattle.vu_tags.proofs.FrontLemmas.{bracketed, bracketed_front, feed_stops, fronts_cut, behind_bullet, behind_spaces, fronts_of, no_feed_in_tag, tag_lacks}
use Rattle.vu_tags.proofs.LineLemmas.{is_false}
use Rattle.vu_tags.proofs.PageLemmas.{front_of}
use Rattle.vu_tags.proofs.PieceLemmas.{words_in_tag}

and_false : (b : Bool) → (b && false) ≡ false
and_false true = refl
and_false false = refl

counted_none : {a b : Bool} → a ≡ false → b ≡ false → (n : ℕ) → cond a 1 0 + (cond b 1 0 + n) ≡ n
counted_none first second n = rw (first, second) (omega arith)

-- a line that begins with a space is no title and no fence
spaced_front : (n m b : ℕ) (line rest : List ℕ) → take n (take m (32 ∷ line)) ≡ b ∷ rest → b ≡ 32
spaced_front n m b line rest is =
    let first = front_of n (take m (32 ∷ line)) (b ∷ []) rest is in
    let whole = front_of m (32 ∷ line) (b ∷ []) _ first in
    sym (ap (λ (bytes : List ℕ). get_or bytes 0 0) whole)

spaced_text : (b : ℕ) (text line : List ℕ) → (b ≡ 32 → ⊥) → is_text (b ∷ text) (32 ∷ line) ≡ false
unfolding unfed
spaced_text b text line differs =
    is_false _ (λ is. differs (spaced_front _ _ b line text ((bytes_eq-Decides (bare (unfed (32 ∷ line))) (b ∷ text)).0 is)))

spaced_fence : (line : List ℕ) → is_fence (32 ∷ line) ≡ false
unfolding is_fence
spaced_fence line = spaced_text 42 (codes "***") line (λ e. omega arith)

spaced_title : (line : List ℕ) → is_title (32 ∷ line) ≡ false
unfolding is_title
spaced_title line = spaced_text 46 (codes "Valid Usage") line (λ e. omega arith)

-- parameters and pages are spelled with bytes of tags
word_run_bytes : (text : List ℕ) → list_all is_word_byte (word_run text) ≡ true
word_run_bytes [] = refl
word_run_bytes (b ∷ text) =
    let n : 1 + prefix_len is_word_byte text ≡ suc (prefix_len is_word_byte text) = omega arith in
    elim (cases_Bool (is_word_byte b)) [
      | inl word ↦ rw (word, n) (and_from _ _ word (word_run_bytes text))
      | inr other ↦ rw other refl
    ]

chosen : (b : Bool) (run text : List ℕ) → cond b (Some run) None ≡ Some text → run ≡ text
chosen true run text is = cc
chosen false run text is = cc

parameter_is : (bytes text : List ℕ) → parameter_at bytes ≡ Some text → list_all is_tag_byte text ≡ true
unfolding parameter_at
parameter_is bytes text is =
    let run = word_run (drop (length parameter_front) bytes) in
    ap (list_all is_tag_byte) (sym (chosen _ run text is)) ∙ words_in_tag run (word_run_bytes (drop (length parameter_front) bytes))

first_bytes : (o : Option (List ℕ)) (found : List (List ℕ)) → ((text : List ℕ) → o ≡ Some text → list_all is_tag_byte text ≡ true)
    → list_all is_tag_byte (unwrap_or (first_of found) (codes "None")) ≡ true → list_all is_tag_byte (unwrap_or (first_of (cons_option o found)) (codes "None")) ≡ true
first_bytes None found is rest = rest
first_bytes (Some text) found is rest = is text refl

parameters_bytes : (statement : List ℕ) → list_all is_tag_byte (unwrap_or (first_of (filter_map parameter_at (tails statement))) (codes "None")) ≡ true
parameters_bytes [] = refl
parameters_bytes (b ∷ statement) = first_bytes (parameter_at (b ∷ statement)) _ (parameter_is (b ∷ statement)) (parameters_bytes statement)

pub parameter_bytes : (statement : List ℕ) → list_all is_tag_byte (parameter_of statement) ≡ true
unfolding parameter_of
parameter_bytes statement = parameters_bytes statement

page_by : (o : Option (List ℕ)) (page : List ℕ) → ((name : List ℕ) → o ≡ Some name → list_all is_tag_byte name ≡ true) → list_all is_tag_byte page ≡ true
    → list_all is_tag_byte (unwrap_or o page) ≡ true
page_by None page is so = so
page_by (Some name) page is so = is name refl

pub page_keeps : (names : Names) → TellsPages names → (page line : List ℕ) → list_all is_tag_byte page ≡ true → list_all is_tag_byte (page_after names page line) ≡ true
page_keeps names tells page line so =
    page_by (names (unfed line)) page
    (λ name e.
    let is : Includes (IsApi name) (bare (unfed line)) = (tells.each (unfed line) name).0 e in
    words_in_tag name (and_parts _ _ is.is_form.name_is).1)
    so

-- a statement without a tag becomes two lines: one with the tag, and one with the rest of its line
module _ (tag behind : List ℕ) (some : 0 < length tag) (each : list_all is_tag_byte tag ≡ true) where
  abbrev pub piece : List ℕ
  piece = tag_front ++ (tag ++ (codes "]]" ++ 10 ∷ codes "    "))

  abbrev tagged : List ℕ
  tagged = bullet ++ (bracketed tag some each ++ 10 ∷ [])

  abbrev left : List ℕ
  left = codes "    " ++ behind

  regrouped : (tag ++ (codes "]]" ++ 10 ∷ codes "    ")) ++ behind ≡ ((tag ++ codes "]]") ++ 10 ∷ []) ++ left
  regrouped =
      append_assoc tag (codes "]]" ++ 10 ∷ codes "    ") behind
      ∙ sym (append_assoc (tag ++ codes "]]") (10 ∷ []) left ∙ append_assoc tag (codes "]]") (10 ∷ left))

  two_lines : with_piece (bullet ++ behind) piece ≡ tagged ++ left
  two_lines = ap (λ (bytes : List ℕ). bullet ++ (tag_front ++ bytes)) regrouped

  tagged_fed : IsFed tagged
  tagged_fed = record {
    text = bullet ++ bracketed tag some each;
    no_feed = list_any-append is_line_feed tag (codes "]]") ∙ rw (tag_lacks is_line_feed no_feed_in_tag tag each) refl;
    line_is = refl;
  }

  has_tag : lacks_tag tagged ≡ false
  unfolding lacks_tag
  has_tag = refl

  no_bullet : is_bullet left ≡ false
  unfolding is_bullet
  no_bullet = refl

  tagged_untagged : (block : Block) → is_untagged_in block tagged ≡ false
  tagged_untagged block = rw has_tag (and_false (block.inside && is_bullet tagged))

  left_untagged : (block : Block) → is_untagged_in block left ≡ false
  left_untagged block = rw (no_bullet, and_false block.inside) refl

  same_block : (block : Block) → block_after (block_after block tagged) left ≡ block_after block (bullet ++ behind)
  same_block block =
      rw (spaced_fence (32 ∷ 42 ∷ 32 ∷ (bracketed tag some each ++ 10 ∷ [])), spaced_fence (32 ∷ 32 ∷ 32 ∷ behind), spaced_fence (32 ∷ 42 ∷ 32 ∷ behind), spaced_title (32 ∷ 32 ∷ 32 ∷ behind), spaced_title (32 ∷ 42 ∷ 32 ∷ behind)) refl

  lines_two : (rest : List ℕ) → IsEnded (bullet ++ behind) rest → lines_of (with_piece (bullet ++ behind) piece ++ rest) ≡ tagged ∷ left ∷ lines_of rest
  lines_two rest ended =
      ap (λ (bytes : List ℕ). lines_of (bytes ++ rest)) two_lines
      ∙ ap lines_of (append_assoc tagged left rest)
      ∙ ended_lines tagged (left ++ rest) (inl tagged_fed)
      ∙ ap (λ (lines : List (List ℕ)). tagged ∷ lines) (ended_lines left rest (ended_behind behind rest ended))

  pub none_untagged : (block : Block) (rest : List ℕ) → IsEnded (bullet ++ behind) rest
      → untagged_ahead block (lines_of (with_piece (bullet ++ behind) piece ++ rest)) ≡ untagged_ahead (block_after block (bullet ++ behind)) (lines_of rest)
  none_untagged block rest ended =
      ap (untagged_ahead block) (lines_two rest ended)
      ∙ counted_none (tagged_untagged block) (left_untagged (block_after block tagged)) (untagged_ahead (block_after (block_after block tagged) left) (lines_of rest))
      ∙ ap (λ (b : Block). untagged_ahead b (lines_of rest)) (same_block block)

  pub fronts_two : (rest : List ℕ) → fronts_of (with_piece (bullet ++ behind) piece ++ rest) ≡ Some tag ∷ fronts_of ((bullet ++ behind) ++ rest)
  fronts_two rest =
      ap (λ (bytes : List ℕ). fronts_of (bytes ++ rest)) two_lines
      ∙ ap (λ (bytes : List ℕ). fronts_of (bullet ++ bytes)) (append_assoc (bracketed tag some each ++ 10 ∷ []) left rest ∙ append_assoc (bracketed tag some each) (10 ∷ []) (left ++ rest))
      ∙ behind_bullet (bracketed tag some each ++ 10 ∷ (left ++ rest))
      ∙ fronts_cut 10 (bracketed tag some each) (left ++ rest) feed_stops
      ∙ ap (λ (fronts : List (Option (List ℕ))). fronts ++ fronts_of (left ++ rest)) (bracketed_front tag some each)
      ∙ ap (λ (fronts : List (Option (List ℕ))). Some tag ∷ fronts) (behind_spaces (behind ++ rest) ∙ sym (behind_bullet (behind ++ rest)))
