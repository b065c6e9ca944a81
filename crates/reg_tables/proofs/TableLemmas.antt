-- What a loop over things with names puts into a table.
use Rattle.std.proofs.Common.{◌≡◌, ℕ, ◌+◌, ◌<◌, ◌≤◌, Bool, true, false, ◌&&◌, ◌||◌, cond, List, [], ◌∷◌, ◌++◌, length, map, take, get_or, Option, Some, None, is_some, refl, sym, ap, subst, ◌∙◌, arith}
use Rattle.std.specs.List.{list_any}
use Rattle.std.specs.Option.{option_or}
use Rattle.std.specs.Str.{bytes_eq}
use Rattle.std.specs.Cmp.Lexicographic.{bytes_decides}
use Rattle.std.proofs.Math.Bool.{or-false}
use Rattle.std.proofs.lemmas.List.{length-map, length-take-le, map_more, take_all}
use Rattle.std.proofs.lemmas.List.Folds.{list_any_more}
use Rattle.vkb_formula.specs.Names.{place_of, with_name}
use Rattle.reg_tables.specs.Places.{AreFirstPlaces}
use Rattle.reg_tables.proofs.PlaceLemmas.{place_of-push}

module _ {X : Type 0} (name_of : X → List ℕ) (things : List X) where
  module _ (table : List (List ℕ)) (places : List ℕ) (i : ℕ) (before : AreFirstPlaces table places (map name_of (take i things))) where
    -- one more thing was put in
    pub put-more : (table' : List (List ℕ)) (places' : List ℕ) (thing : X) (name : List ℕ) → i < length things → thing ≡ get_or things i thing → name ≡ name_of thing → ((names : List (List ℕ)) → length names ≡ i → AreFirstPlaces table places names → AreFirstPlaces table' places' (names ++ name ∷ [])) → AreFirstPlaces table' places' (map name_of (take (i + 1) things))
    put-more table' places' thing name h is e put =
        let few : i ≤ length things = omega arith in
        let count : length (map name_of (take i things)) ≡ i = length-map (take i things) name_of ∙ length-take-le i things few in
        let more : map name_of (take i things) ++ name ∷ [] ≡ map name_of (take (i + 1) things) =
        ap (λ n. map name_of (take i things) ++ n ∷ []) (e ∙ ap name_of is) ∙ sym (map_more name_of things i thing h) in
        subst (AreFirstPlaces table' places') more (put _ count before)

    -- all were put in
    pub put-all : length things ≤ i → AreFirstPlaces table places (map name_of things)
    put-all h = subst (λ all. AreFirstPlaces table places (map name_of all)) (take_all i things h) before

there_or : (o : Option ℕ) (same : Bool) (n : ℕ) → is_some (option_or o (cond same (Some n) None)) ≡ (is_some o || same)
there_or None true n = refl
there_or None false n = refl
there_or (Some k) same n = refl

there_known : (o : Option ℕ) → is_some o ≡ true → (p : Bool) → is_some o ≡ (is_some o || p)
there_known None e p = absurd (cc)
there_known (Some k) e p = refl

with_name-cases : (known : Bool) (last name : List ℕ) (table : List (List ℕ)) → is_some (place_of last table) ≡ known → (same : Bool) → bytes_eq name last ≡ same → is_some (place_of name (cond known table (table ++ last ∷ []))) ≡ (is_some (place_of name table) || same)
with_name-cases false last name table k same s =
    ap is_some (place_of-push name last table) ∙ ap (λ b. is_some (option_or (place_of name table) (cond b (Some (length table)) None))) s ∙ there_or (place_of name table) same (length table)
with_name-cases true last name table k true s =
    there_known (place_of name table) (ap (λ n. is_some (place_of n table)) ((bytes_decides name last).0 s) ∙ k) true
with_name-cases true last name table k false s = sym (or-false (is_some (place_of name table)))

-- a name is in a table that another was put into
pub with_name-has : (last name : List ℕ) (table : List (List ℕ)) → is_some (place_of name (with_name last table)) ≡ (is_some (place_of name table) || bytes_eq name last)
with_name-has last name table = with_name-cases (is_some (place_of last table)) last name table refl (bytes_eq name last) refl

module _ {X : Type 0} (name_of : X → List ℕ) (passes : X → Bool) (things : List X) where
  abbrev pub has_passed : List ℕ → X → Bool
  has_passed name thing = passes thing && bytes_eq name (name_of thing)

  module _ (i : ℕ) (thing : X) (h : i < length things) (is : thing ≡ get_or things i thing) (name : List ℕ) where
    one_more : (passed : Bool) → passes thing ≡ passed → list_any (has_passed name) (take (i + 1) things) ≡ (list_any (has_passed name) (take i things) || (passed && bytes_eq name (name_of thing)))
    one_more passed p =
        list_any_more (has_passed name) things i thing h
        ∙ ap (λ b. list_any (has_passed name) (take i things) || b) (ap (has_passed name) (sym is) ∙ ap (λ b. b && bytes_eq name (name_of thing)) p)

    -- a thing that passes was put in
    pub passed-more : (table : List (List ℕ)) → is_some (place_of name table) ≡ list_any (has_passed name) (take i things) → passes thing ≡ true → is_some (place_of name (with_name (name_of thing) table)) ≡ list_any (has_passed name) (take (i + 1) things)
    passed-more table e p =
        with_name-has (name_of thing) name table ∙ ap (λ b. b || bytes_eq name (name_of thing)) e ∙ sym (one_more true p)

    -- a thing that doesn't pass was left out
    pub failed-more : (b : Bool) → b ≡ list_any (has_passed name) (take i things) → passes thing ≡ false → b ≡ list_any (has_passed name) (take (i + 1) things)
    failed-more b e p = e ∙ sym (or-false (list_any (has_passed name) (take i things))) ∙ sym (one_more false p)
