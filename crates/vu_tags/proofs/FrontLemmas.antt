-- Tags on both sides of a byte that no tag has, and the tag of a new piece.
use Rattle.std.proofs.Common.{◌≡◌, ℕ, ◌+◌, ◌<◌, ◌≤◌, Bool, true, false, cond, eqb, List, [], ◌∷◌, ◌++◌, Option, Some, None, length, take, drop, refl, sym, ap, ◌∙◌, inl, inr, codes, arith}
use Rattle.std.proofs.lemmas.Bool.{cases_Bool, and_parts, false≢true, ne_eqb}
use Rattle.std.proofs.lemmas.List.{drop-append-le, take-append-le}
use Rattle.std.proofs.lemmas.List.Folds.{length-prefix_len, list_any-append}
use Rattle.std.proofs.lemmas.List.Sums.{prefix_len-le-length}
use Rattle.std.proofs.lemmas.List.Prefix.{front_fits}
use Rattle.std.proofs.Math.Seq.{drop-append_seam, take-append_seam}
use Rattle.std.specs.Prelude.{◌&&◌, ◌||◌}
use Rattle.std.specs.List.{cons_option, filter_map, list_all, list_any, prefix_len}
use Rattle.vkb_bytes.specs.Bytes.{begins}
use Rattle.vu_tags.specs.Statements.{tag_front}
use Rattle.vu_tags.specs.Tags.{has_malformed, is_malformed, is_tag_byte, is_wrong, number_at, number_in_tag, number_of, numbers_of, tag_at, tag_run, tags_of, tails}
use Rattle.vu_tags.proofs.PlaceLemmas.{begins_front}

-- a byte that stands in no tag
pub record Stops (stop : ℕ) : Type 0 where
  pub in_front : list_any (λ b. eqb b stop) tag_front ≡ false
  pub in_close : list_any (λ b. eqb b stop) (codes "]]") ≡ false
  pub in_tag : is_tag_byte stop ≡ false

pub feed_stops : Stops 10
feed_stops = record { in_front = refl; in_close = refl; in_tag = refl }

pub space_stops : Stops 32
space_stops = record { in_front = refl; in_close = refl; in_tag = refl }

pub star_stops : Stops 42
star_stops = record { in_front = refl; in_close = refl; in_tag = refl }

pub or_none : (a b : Bool) → (a || b) ≡ false → (a ≡ false) × (b ≡ false)
or_none true b h = cc
or_none false b h = (refl, h)

pub any_parts : (test : ℕ → Bool) (b : ℕ) (text : List ℕ) → list_any test (b ∷ text) ≡ false → (test b ≡ false) × (list_any test text ≡ false)
any_parts test b text none = or_none (test b) (list_any test text) none

pub all_parts : (test : ℕ → Bool) (b : ℕ) (text : List ℕ) → list_all test (b ∷ text) ≡ true → (test b ≡ true) × (list_all test text ≡ true)
all_parts test b text each = and_parts (test b) (list_all test text) each

-- a word without the byte stands in front if it does before the byte
begins_cut : (stop : ℕ) (word before after : List ℕ) → list_any (λ b. eqb b stop) word ≡ false → begins (before ++ stop ∷ after) word ≡ begins before word
begins_cut stop [] [] after lacks = refl
begins_cut stop [] (b ∷ before) after lacks = refl
begins_cut stop (w ∷ word) [] after lacks = rw (any_parts (λ (b : ℕ). eqb b stop) w word lacks).0 refl
begins_cut stop (w ∷ word) (b ∷ before) after lacks =
    ap (λ (same : Bool). eqb w b && same) (begins_cut stop word before after (any_parts (λ (b : ℕ). eqb b stop) w word lacks).1)

prefix_cut : (stop : ℕ) (before after : List ℕ) → is_tag_byte stop ≡ false → prefix_len is_tag_byte (before ++ stop ∷ after) ≡ prefix_len is_tag_byte before
prefix_cut stop [] after stops = rw stops refl
prefix_cut stop (b ∷ before) after stops = ap (λ (n : ℕ). cond (is_tag_byte b) (1 + n) 0) (prefix_cut stop before after stops)

run_cut : (stop : ℕ) (before after : List ℕ) → is_tag_byte stop ≡ false → tag_run (before ++ stop ∷ after) ≡ tag_run before
run_cut stop before after stops =
    ap (λ (n : ℕ). take n (before ++ stop ∷ after)) (prefix_cut stop before after stops)
    ∙ take-append-le (prefix_len is_tag_byte before) before (stop ∷ after) (prefix_len-le-length is_tag_byte before)

run_short : (before : List ℕ) → length (tag_run before) ≤ length before
run_short before = omega (arith, length-prefix_len is_tag_byte before, prefix_len-le-length is_tag_byte before)

-- what stands behind the front and the run
behind_cut : (stop : ℕ) (behind after : List ℕ) → Stops stop
    → begins (drop (length (tag_run (behind ++ stop ∷ after))) (behind ++ stop ∷ after)) (codes "]]") ≡ begins (drop (length (tag_run behind)) behind) (codes "]]")
behind_cut stop behind after stops =
    ap (λ (run : List ℕ). begins (drop (length run) (behind ++ stop ∷ after)) (codes "]]")) (run_cut stop behind after stops.in_tag)
    ∙ ap (λ (bytes : List ℕ). begins bytes (codes "]]")) (drop-append-le (length (tag_run behind)) behind (stop ∷ after) (run_short behind))
    ∙ begins_cut stop (codes "]]") (drop (length (tag_run behind)) behind) after stops.in_close

tag_cut : (stop : ℕ) (before after : List ℕ) → Stops stop → tag_at (before ++ stop ∷ after) ≡ tag_at before
unfolding tag_at
tag_cut stop before after stops =
    let same = begins_cut stop tag_front before after stops.in_front in
    elim (cases_Bool (begins before tag_front)) [
      | inl begun ↦
          let long : 7 ≤ length before = front_fits before tag_front (drop 7 before) (begins_front before tag_front begun) in
          let behind : drop 7 (before ++ stop ∷ after) ≡ drop 7 before ++ stop ∷ after = drop-append-le 7 before (stop ∷ after) long in
          rw (same, begun, behind, behind_cut stop (drop 7 before) after stops, run_cut stop (drop 7 before) after stops.in_tag) refl
      | inr unlike ↦ rw (same, unlike) refl
    ]

-- what each `[[VUID-` of a text begins: a tag, or none
abbrev front_at : List ℕ → Option (Option (List ℕ))
front_at bytes = cond (begins bytes tag_front) (Some (tag_at bytes)) None

pub fronts_of : List ℕ → List (Option (List ℕ))
fronts_of text = filter_map front_at (tails text)

cons_append : {X : Type 0} (o : Option X) (xs ys : List X) → cons_option o (xs ++ ys) ≡ cons_option o xs ++ ys
cons_append None xs ys = refl
cons_append (Some x) xs ys = refl

front_cut : (stop : ℕ) (before after : List ℕ) → Stops stop → front_at (before ++ stop ∷ after) ≡ front_at before
front_cut stop before after stops =
    ap (λ (b : Bool). cond b (Some (tag_at (before ++ stop ∷ after))) None) (begins_cut stop tag_front before after stops.in_front)
    ∙ ap (λ (o : Option (List ℕ)). cond (begins before tag_front) (Some o) None) (tag_cut stop before after stops)

pub fronts_cut : (stop : ℕ) (before after : List ℕ) → Stops stop → fronts_of (before ++ stop ∷ after) ≡ fronts_of before ++ fronts_of after
unfolding fronts_of
fronts_cut stop [] after stops = rw (front_cut stop [] after stops) refl
fronts_cut stop (b ∷ before) after stops =
    ap (λ (o : Option (Option (List ℕ))). cons_option o (filter_map front_at (tails (before ++ stop ∷ after)))) (front_cut stop (b ∷ before) after stops)
    ∙ ap (cons_option (front_at (b ∷ before))) (fronts_cut stop before after stops)
    ∙ cons_append (front_at (b ∷ before)) (filter_map front_at (tails before)) (filter_map front_at (tails after))

-- a byte in front that stands in no tag
pub fronts_behind : (stop : ℕ) (after : List ℕ) → Stops stop → fronts_of (stop ∷ after) ≡ fronts_of after
unfolding fronts_of
fronts_behind stop after stops = rw (front_cut stop [] after stops) refl

pub fronts_none : fronts_of [] ≡ []
unfolding fronts_of
fronts_none = refl

-- without a bracket there is none
no_front : (text : List ℕ) → list_any (λ b. eqb 91 b) text ≡ false → fronts_of text ≡ []
unfolding fronts_of
no_front [] lacks = refl
no_front (b ∷ text) lacks = let parts = any_parts (λ (c : ℕ). eqb 91 c) b text lacks in rw parts.0 (no_front text parts.1)

-- the tags, the numbers and what is malformed
tags_cons : (b : Bool) (o : Option (List ℕ)) (fronts : List (Option (List ℕ))) (tags : List (List ℕ)) → (b ≡ false → o ≡ None) → tags ≡ filter_map (λ (f : Option (List ℕ)). f) fronts
    → cons_option o tags ≡ filter_map (λ (f : Option (List ℕ)). f) (cons_option (cond b (Some o) None) fronts)
tags_cons true o fronts tags none same = ap (cons_option o) same
tags_cons false o fronts tags none same = rw (none refl) same

no_tag : (bytes : List ℕ) → begins bytes tag_front ≡ false → tag_at bytes ≡ None
unfolding tag_at
no_tag bytes unlike = rw unlike refl

pub tags_fronts : (text : List ℕ) → tags_of text ≡ filter_map (λ (f : Option (List ℕ)). f) (fronts_of text)
unfolding tags_of fronts_of
tags_fronts [] = refl
tags_fronts (b ∷ text) = tags_cons (begins (b ∷ text) tag_front) (tag_at (b ∷ text)) _ _ (no_tag (b ∷ text)) (tags_fronts text)

wrong_cons : (b : Bool) (o : Option (List ℕ)) (fronts : List (Option (List ℕ))) (wrong : Bool) → wrong ≡ list_any is_wrong fronts
    → ((b && is_wrong o) || wrong) ≡ list_any is_wrong (cons_option (cond b (Some o) None) fronts)
wrong_cons true o fronts wrong same = ap (λ (w : Bool). is_wrong o || w) same
wrong_cons false o fronts wrong same = same

pub malformed_fronts : (text : List ℕ) → has_malformed text ≡ list_any is_wrong (fronts_of text)
unfolding has_malformed fronts_of is_malformed
malformed_fronts [] = refl
malformed_fronts (b ∷ text) = wrong_cons (begins (b ∷ text) tag_front) (tag_at (b ∷ text)) _ _ (malformed_fronts text)

numbers_cons : (o : Option (List ℕ)) (numbers : List ℕ) (tags : List (List ℕ)) → numbers ≡ filter_map number_of tags
    → cons_option (number_in_tag o) numbers ≡ filter_map number_of (cons_option o tags)
numbers_cons None numbers tags same = same
numbers_cons (Some text) numbers tags same = ap (cons_option (number_of text)) same

pub numbers_tags : (text : List ℕ) → numbers_of text ≡ filter_map number_of (tags_of text)
unfolding numbers_of tags_of number_at
numbers_tags [] = refl
numbers_tags (b ∷ text) = numbers_cons (tag_at (b ∷ text)) _ _ (numbers_tags text)

prefix_all : (text : List ℕ) → list_all is_tag_byte text ≡ true → prefix_len is_tag_byte text ≡ length text
prefix_all [] each = refl
prefix_all (b ∷ text) each =
    let parts = all_parts is_tag_byte b text each in
    rw parts.0 (omega (arith, prefix_all text parts.1))

-- what a tag is made of passes no test that its bytes fail
pub tag_lacks : (test : ℕ → Bool) → ((b : ℕ) → is_tag_byte b ≡ true → test b ≡ false) → (text : List ℕ) → list_all is_tag_byte text ≡ true → list_any test text ≡ false
tag_lacks test fails [] each = refl
tag_lacks test fails (b ∷ text) each =
    let parts = all_parts is_tag_byte b text each in
    rw (fails b parts.0) (tag_lacks test fails text parts.1)

no_bracket_in_tag : (b : ℕ) → is_tag_byte b ≡ true → eqb 91 b ≡ false
no_bracket_in_tag b is = ne_eqb 91 b (λ same. false≢true (ap is_tag_byte same ∙ is))

pub no_feed_in_tag : (b : ℕ) → is_tag_byte b ≡ true → eqb b 10 ≡ false
no_feed_in_tag b is = ne_eqb b 10 (λ same. false≢true (sym (ap is_tag_byte same) ∙ is))

-- the tag of a piece, between its brackets
module _ (tag : List ℕ) (some : 0 < length tag) (each : list_all is_tag_byte tag ≡ true) where
  abbrev pub bracketed : List ℕ
  bracketed = tag_front ++ (tag ++ codes "]]")

  run_is : tag_run (tag ++ codes "]]") ≡ tag
  run_is = ap (λ (n : ℕ). take n (tag ++ codes "]]")) (prefix_cut 93 tag (93 ∷ []) refl ∙ prefix_all tag each) ∙ take-append_seam tag (codes "]]")

  tag_is : tag_at bracketed ≡ Some tag
  unfolding tag_at
  tag_is =
      let differs : eqb (length tag) 0 ≡ false = ne_eqb (length tag) 0 (λ none. omega arith) in
      rw (run_is, differs, drop-append_seam tag (codes "]]")) refl

  no_bracket : list_any (λ b. eqb 91 b) (tag ++ codes "]]") ≡ false
  no_bracket = list_any-append (λ (b : ℕ). eqb 91 b) tag (codes "]]") ∙ rw (tag_lacks (λ (b : ℕ). eqb 91 b) no_bracket_in_tag tag each) refl

  pub bracketed_front : fronts_of bracketed ≡ Some tag ∷ []
  unfolding fronts_of
  bracketed_front = rw (tag_is, no_front (tag ++ codes "]]") no_bracket) refl

pub behind_bullet : (text : List ℕ) → fronts_of (codes "  * " ++ text) ≡ fronts_of text
behind_bullet text =
    fronts_behind 32 (32 ∷ 42 ∷ 32 ∷ text) space_stops ∙ fronts_behind 32 (42 ∷ 32 ∷ text) space_stops ∙ fronts_behind 42 (32 ∷ text) star_stops ∙ fronts_behind 32 text space_stops

pub behind_spaces : (text : List ℕ) → fronts_of (codes "    " ++ text) ≡ fronts_of text
behind_spaces text =
    fronts_behind 32 (32 ∷ 32 ∷ 32 ∷ text) space_stops ∙ fronts_behind 32 (32 ∷ 32 ∷ text) space_stops ∙ fronts_behind 32 (32 ∷ text) space_stops ∙ fronts_behind 32 text space_stops
