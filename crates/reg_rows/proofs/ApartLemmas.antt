-- Names of which none stands twice, and things of which the first of each name is kept.
use Rattle.std.proofs.Common.{◌≡◌, ◌≤◌, ℕ, zero, suc, Bool, true, false, cond, List, [], ◌∷◌, ◌++◌, length, map, filter, slice_get, All, Some, refl, sym, ap, subst, ◌∙◌, arith, inl, inr}
use Rattle.std.specs.Str.{bytes_eq}
use Rattle.std.specs.Cmp.Lexicographic.{bytes_decides}
use Rattle.std.proofs.lemmas.Bool.{both_ways, cond-false, cond_both, false_from_ne_true, or_cases, or_from, or_left, or_parts, or_right}
use Rattle.std.proofs.lemmas.List.Elements.{All-cons, All-head, All-nil, All-tail}
use Rattle.std.proofs.lemmas.List.Folds.{list_any-append}
use Rattle.std.proofs.lemmas.Option.{none-some, same_Some}
use Rattle.reg_tables.specs.Lists.{firsts, firsts_behind, is_among}

-- no name stands before itself
abbrev pub Apart : List (List ℕ) → Type 0
Apart [] = Unit {0}
Apart (name ∷ names) = (is_among names name ≡ false) × Apart names

pub same-name : (name : List ℕ) → bytes_eq name name ≡ true
same-name name = (bytes_decides name name).1 refl

at-among : (names : List (List ℕ)) (i : ℕ) (name : List ℕ) → slice_get names i ≡ Some name → is_among names name ≡ true
at-among [] i name e = absurd (none-some name e)
at-among (first ∷ names) zero name e = or_left (bytes_eq name first) (is_among names name) ((bytes_decides name first).1 (sym (same_Some first name e)))
at-among (first ∷ names) (suc i) name e = or_right (bytes_eq name first) (is_among names name) (at-among names i name e)

pub apart-different : (names : List (List ℕ)) → Apart names → (i j : ℕ) (name : List ℕ) → slice_get names i ≡ Some name → slice_get names j ≡ Some name → i ≡ j
apart-different [] apart i j name e f = absurd (none-some name e)
apart-different (first ∷ names) apart zero zero name e f = refl
apart-different (first ∷ names) apart zero (suc j) name e f =
    absurd (both_ways (is_among names first) apart.0 (ap (is_among names) (same_Some first name e) ∙ at-among names j name f))
apart-different (first ∷ names) apart (suc i) zero name e f =
    absurd (both_ways (is_among names first) apart.0 (ap (is_among names) (same_Some first name f) ∙ at-among names i name e))
apart-different (first ∷ names) apart (suc i) (suc j) name e f = ap suc (apart-different names apart.1 i j name e f)

-- two lists that have no name in common
pub apart-append : (names others : List (List ℕ)) → Apart names → Apart others → ((name : List ℕ) → is_among names name ≡ true → is_among others name ≡ false) → Apart (names ++ others)
apart-append [] others a b h = b
apart-append (first ∷ names) others a b h = (
  list_any-append (bytes_eq first) names others ∙ or_from (is_among names first) (is_among others first) a.0 (h first (or_left (bytes_eq first first) (is_among names first) (same-name first))),
  apart-append names others a.1 b (λ name e. h name (or_right (bytes_eq name first) (is_among names name) e)),
)

map_cond : {X Y : Type 0} (h : X → Y) (b : Bool) (xs ys : List X) → cond b (map h xs) (map h ys) ≡ map h (cond b xs ys)
map_cond h true xs ys = refl
map_cond h false xs ys = refl

module _ {X : Type 0} (name_of : X → List ℕ) where
  -- their names differ, and are none of some that were seen
  abbrev pub AreNew : List (List ℕ) → List X → Type 0
  AreNew seen things = Apart (map name_of things) × ((name : List ℕ) → is_among seen name ≡ true → is_among (map name_of things) name ≡ false)

  pub new-cons : (seen : List (List ℕ)) (thing : X) (more : List X) → is_among seen (name_of thing) ≡ false → AreNew (name_of thing ∷ seen) more → AreNew seen (thing ∷ more)
  new-cons seen thing more new rest = (
    (rest.1 (name_of thing) (or_left (bytes_eq (name_of thing) (name_of thing)) (is_among seen (name_of thing)) (same-name (name_of thing))), rest.0),
    λ name e.
        or_from (bytes_eq name (name_of thing)) (is_among (map name_of more) name)
        (false_from_ne_true (bytes_eq name (name_of thing)) (λ same. both_ways (is_among seen name) (ap (is_among seen) ((bytes_decides name (name_of thing)).0 same) ∙ new) e))
        (rest.1 name (or_right (bytes_eq name (name_of thing)) (is_among seen name) e)),
  )

  firsts-new : (seen : List (List ℕ)) (things : List X) → AreNew seen (firsts_behind name_of seen things)
  firsts-new seen [] = (tt, λ name e. refl)
  firsts-new seen (thing ∷ more) =
      cond_both (is_among seen (name_of thing)) (firsts_behind name_of seen more) (thing ∷ firsts_behind name_of (name_of thing ∷ seen) more) (AreNew seen)
      (λ known. firsts-new seen more)
      (λ new. new-cons seen thing (firsts_behind name_of (name_of thing ∷ seen) more) new (firsts-new (name_of thing ∷ seen) more))

  -- the first things of their names have different names
  pub firsts-apart : (things : List X) → Apart (map name_of (firsts name_of things))
  firsts-apart things = (firsts-new [] things).0

  -- where no name stands twice, all things are the first of their names
  firsts-whole : (seen : List (List ℕ)) (things : List X) → AreNew seen things → firsts_behind name_of seen things ≡ things
  firsts-whole seen [] h = refl
  firsts-whole seen (thing ∷ more) h =
      cond-false (is_among seen (name_of thing)) (firsts_behind name_of seen more) (thing ∷ firsts_behind name_of (name_of thing ∷ seen) more)
      (false_from_ne_true (is_among seen (name_of thing)) (λ known. both_ways (is_among (name_of thing ∷ map name_of more) (name_of thing)) (h.1 (name_of thing) known) (or_left (bytes_eq (name_of thing) (name_of thing)) (is_among (map name_of more) (name_of thing)) (same-name (name_of thing)))))
      ∙ ap (λ things. thing ∷ things) (firsts-whole (name_of thing ∷ seen) more (h.0.1, rest))
    where
      rest : (name : List ℕ) → is_among (name_of thing ∷ seen) name ≡ true → is_among (map name_of more) name ≡ false
      rest name e =
          elim (or_cases (bytes_eq name (name_of thing)) (is_among seen name) e) [
            | inl same ↦ ap (is_among (map name_of more)) ((bytes_decides name (name_of thing)).0 same) ∙ h.0.0
            | inr before ↦ (or_parts (bytes_eq name (name_of thing)) (is_among (map name_of more) name) (h.1 name before)).1
          ]

  pub firsts-all : (things : List X) → Apart (map name_of things) → firsts name_of things ≡ things
  firsts-all things apart = firsts-whole [] things (apart, λ name e. absurd (both_ways false refl e))

  -- the first of things that are made of others
  pub firsts-map : {Y : Type 0} (h : Y → X) (seen : List (List ℕ)) (ys : List Y) → firsts_behind name_of seen (map h ys) ≡ map h (firsts_behind (λ y. name_of (h y)) seen ys)
  firsts-map h seen [] = refl
  firsts-map h seen (y ∷ ys) =
      (λ i. cond (is_among seen (name_of (h y))) (firsts-map h seen ys i) (h y ∷ firsts-map h (name_of (h y) ∷ seen) ys i))
      ∙ map_cond h (is_among seen (name_of (h y))) (firsts_behind (λ y. name_of (h y)) seen ys) (y ∷ firsts_behind (λ y. name_of (h y)) (name_of (h y) ∷ seen) ys)

  -- what holds of each thing holds of the first ones
  pub all-firsts : (P : X → Type 0) (seen : List (List ℕ)) (things : List X) → All P things → All P (firsts_behind name_of seen things)
  all-firsts P seen [] h = All-nil P
  all-firsts P seen (thing ∷ more) h =
      cond_both (is_among seen (name_of thing)) (firsts_behind name_of seen more) (thing ∷ firsts_behind name_of (name_of thing ∷ seen) more) (All P)
      (λ known. all-firsts P seen more (All-tail P thing more h))
      (λ new. All-cons P thing (firsts_behind name_of (name_of thing ∷ seen) more) (All-head P thing more h) (all-firsts P (name_of thing ∷ seen) more (All-tail P thing more h)))

  pub length-firsts : (seen : List (List ℕ)) (things : List X) → length (firsts_behind name_of seen things) ≤ length things
  length-firsts seen [] = omega arith
  length-firsts seen (thing ∷ more) =
      cond_both (is_among seen (name_of thing)) (firsts_behind name_of seen more) (thing ∷ firsts_behind name_of (name_of thing ∷ seen) more) (λ kept. length kept ≤ suc (length more))
      (λ known. omega (arith, length-firsts seen more))
      (λ new. omega (arith, length-firsts (name_of thing ∷ seen) more))

  absent-filter : (p : X → Bool) (things : List X) (name : List ℕ) → is_among (map name_of things) name ≡ false → is_among (map name_of (filter p things)) name ≡ false
  absent-filter p [] name e = refl
  absent-filter p (thing ∷ more) name e =
      let parts = or_parts (bytes_eq name (name_of thing)) (is_among (map name_of more) name) e in
      let rest = absent-filter p more name parts.1 in
      cond_both (p thing) (thing ∷ filter p more) (filter p more) (λ kept. is_among (map name_of kept) name ≡ false)
      (λ passes. or_from (bytes_eq name (name_of thing)) (is_among (map name_of (filter p more)) name) parts.0 rest)
      (λ fails. rest)

  pub apart-filter : (p : X → Bool) (things : List X) → Apart (map name_of things) → Apart (map name_of (filter p things))
  apart-filter p [] apart = tt
  apart-filter p (thing ∷ more) apart =
      cond_both (p thing) (thing ∷ filter p more) (filter p more) (λ kept. Apart (map name_of kept))
      (λ passes. (absent-filter p more (name_of thing) apart.0, apart-filter p more apart.1))
      (λ fails. apart-filter p more apart.1)

  module _ (thing : X) (passed failed : List X) (name : List ℕ) where
    one-side : (b c : Bool) → (b ≡ true → c ≡ false) → (is_among (map name_of passed) name ≡ true → is_among (map name_of failed) name ≡ false) → (bytes_eq name (name_of thing) ≡ true → is_among (map name_of failed) name ≡ false)
        → (is_among (map name_of passed) name ≡ true → bytes_eq name (name_of thing) ≡ false)
        → is_among (map name_of (cond b (thing ∷ passed) passed)) name ≡ true → is_among (map name_of (cond c (thing ∷ failed) failed)) name ≡ false
    one-side true true h rest here there e = absurd (both_ways true (h refl) refl)
    one-side true false h rest here there e =
        elim (or_cases (bytes_eq name (name_of thing)) (is_among (map name_of passed) name) e) [ inl same ↦ here same | inr later ↦ rest later ]
    one-side false true h rest here there e = or_from (bytes_eq name (name_of thing)) (is_among (map name_of failed) name) (there e) (rest e)
    one-side false false h rest here there e = rest e

  -- no name has both a thing that passes one test and one that passes another, where nothing passes both
  pub apart-tests : (p q : X → Bool) → ((thing : X) → p thing ≡ true → q thing ≡ false) → (things : List X) → Apart (map name_of things) → (name : List ℕ) → is_among (map name_of (filter p things)) name ≡ true
      → is_among (map name_of (filter q things)) name ≡ false
  apart-tests p q h [] apart name e = refl
  apart-tests p q h (thing ∷ more) apart name e =
      one-side thing (filter p more) (filter q more) name (p thing) (q thing) (h thing)
      (apart-tests p q h more apart.1 name)
      (λ same. ap (is_among (map name_of (filter q more))) ((bytes_decides name (name_of thing)).0 same) ∙ absent-filter q more (name_of thing) apart.0)
      (λ there. false_from_ne_true (bytes_eq name (name_of thing)) (λ same.
      both_ways (is_among (map name_of (filter p more)) name)
      (ap (is_among (map name_of (filter p more))) ((bytes_decides name (name_of thing)).0 same) ∙ absent-filter p more (name_of thing) apart.0) there))
      e

  -- what holds of each name holds of one that is among them
  pub all-among : (P : List ℕ → Type 0) (things : List X) → All (λ thing. P (name_of thing)) things → (name : List ℕ) → is_among (map name_of things) name ≡ true → P name
  all-among P [] h name e = absurd (both_ways false refl e)
  all-among P (thing ∷ more) h name e =
      elim (or_cases (bytes_eq name (name_of thing)) (is_among (map name_of more) name) e) [
        | inl same ↦ subst P (sym ((bytes_decides name (name_of thing)).0 same)) (All-head (λ thing. P (name_of thing)) thing more h)
        | inr later ↦ all-among P more (All-tail (λ thing. P (name_of thing)) thing more h) name later
      ]
