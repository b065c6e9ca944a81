-- Things that are each the first of its name, and tables of names into which each name is put.
use Rattle.std.proofs.Common.{◌≡◌, ℕ, ◌+◌, ◌<◌, Bool, true, false, cond, List, [], ◌∷◌, ◌++◌, length, map, Option, Some, None, refl, sym, ap, ◌∙◌, arith}
use Rattle.std.specs.Prelude.{◌||◌, ◌==◌, not, option_map, slice_get, is_some, if◌then◌else◌}
use Rattle.std.specs.Cmp.Lexicographic.{bytes_decides}
use Rattle.std.specs.Str.{bytes_eq}
use Rattle.std.proofs.lemmas.Bool.{true≢false, eq-eqb, ne_eqb}
use Rattle.std.proofs.lemmas.List.{append-nil, map-id, map_push}
use Rattle.vkb_formula.specs.Names.{AreDifferent, place_of, with_name}
use Rattle.reg_tables.specs.Lists.{each_name, firsts, firsts_behind, is_among}

some-raised : (b : Bool) (o : Option ℕ) → is_some (cond b (Some 0) (option_map (λ k. k + 1) o)) ≡ (b || is_some o)
some-raised true o = refl
some-raised false None = refl
some-raised false (Some k) = refl

-- a table has a place for the names that are among it
pub place-among : (name : List ℕ) (names : List (List ℕ)) → is_some (place_of name names) ≡ is_among names name
place-among name [] = refl
place-among name (first ∷ names) = some-raised (bytes_eq name first) (place_of name names) ∙ ap (λ rest. bytes_eq name first || rest) (place-among name names)

among-same : (names : List (List ℕ)) (a b : List ℕ) → a ≡ b → is_among names b ≡ true → is_among names a ≡ true
among-same names a b e h = ap (is_among names) e ∙ h

-- x or (y or z), where x and y are swapped
swap-or : (x y z : Bool) → ((x || y) || z) ≡ (y || (x || z))
swap-or true true z = refl
swap-or true false z = refl
swap-or false true z = refl
swap-or false false z = refl

-- what holds already isn't changed by one that implies it
keep-or : (x y z : Bool) → (y ≡ true → x ≡ true) → (x || z) ≡ (x || (y || z))
keep-or true y z h = refl
keep-or false true z h = absurd (true≢false (sym (h refl)))
keep-or false false z h = refl

none-behind : {A : Type 0} (b : Bool) (thing : A) → cond b [] (thing ∷ []) ≡ (if b || false then [] else thing ∷ [])
none-behind true thing = refl
none-behind false thing = refl

-- what was put last
pub slice_get_pushed : {A : Type 0} (things : List A) (thing : A) → slice_get (things ++ thing ∷ []) (length things) ≡ Some thing
slice_get_pushed [] thing = refl
slice_get_pushed (first ∷ things) thing = slice_get_pushed things thing

module _ {A : Type 0} (name_of : A → List ℕ) where
  firsts-push-at : (b : Bool) (seen : List (List ℕ)) (first : A) (things : List A) (thing : A)
      → is_among seen (name_of first) ≡ b
      → ((more : List (List ℕ)) → firsts_behind name_of more (things ++ thing ∷ []) ≡ firsts_behind name_of more things ++ (if is_among more (name_of thing) || is_among (map name_of things) (name_of thing) then [] else thing ∷ []))
      → cond b (firsts_behind name_of seen (things ++ thing ∷ [])) (first ∷ firsts_behind name_of (name_of first ∷ seen) (things ++ thing ∷ []))
      ≡ cond b (firsts_behind name_of seen things) (first ∷ firsts_behind name_of (name_of first ∷ seen) things)
      ++ (if is_among seen (name_of thing) || (bytes_eq (name_of thing) (name_of first) || is_among (map name_of things) (name_of thing)) then [] else thing ∷ [])
  firsts-push-at true seen first things thing e rest =
      rest seen
      ∙ ap (λ t. firsts_behind name_of seen things ++ (if t then [] else thing ∷ []))
      (keep-or (is_among seen (name_of thing)) (bytes_eq (name_of thing) (name_of first)) (is_among (map name_of things) (name_of thing))
      (λ same. among-same seen (name_of thing) (name_of first) ((bytes_decides (name_of thing) (name_of first)).0 same) e))
  firsts-push-at false seen first things thing e rest =
      ap (λ more. first ∷ more) (rest (name_of first ∷ seen))
      ∙ ap (λ t. first ∷ firsts_behind name_of (name_of first ∷ seen) things ++ (if t then [] else thing ∷ []))
      (swap-or (bytes_eq (name_of thing) (name_of first)) (is_among seen (name_of thing)) (is_among (map name_of things) (name_of thing))
      ∙ refl)

  -- one thing more is kept where its name is new
  firsts-push-behind : (seen : List (List ℕ)) (things : List A) (thing : A)
      → firsts_behind name_of seen (things ++ thing ∷ []) ≡ firsts_behind name_of seen things ++ (if is_among seen (name_of thing) || is_among (map name_of things) (name_of thing) then [] else thing ∷ [])
  firsts-push-behind seen [] thing = none-behind (is_among seen (name_of thing)) thing
  firsts-push-behind seen (first ∷ things) thing =
      firsts-push-at (is_among seen (name_of first)) seen first things thing refl (λ more. firsts-push-behind more things thing)

  pub firsts-push : (things : List A) (thing : A)
      → firsts name_of (things ++ thing ∷ []) ≡ firsts name_of things ++ (if is_among (map name_of things) (name_of thing) then [] else thing ∷ [])
  firsts-push = firsts-push-behind []

  among-at : (b : Bool) (seen : List (List ℕ)) (first : A) (things : List A) (name : List ℕ)
      → is_among seen (name_of first) ≡ b
      → ((more : List (List ℕ)) → (is_among more name || is_among (map name_of (firsts_behind name_of more things)) name) ≡ (is_among more name || is_among (map name_of things) name))
      → (is_among seen name || is_among (map name_of (cond b (firsts_behind name_of seen things) (first ∷ firsts_behind name_of (name_of first ∷ seen) things))) name)
      ≡ (is_among seen name || (bytes_eq name (name_of first) || is_among (map name_of things) name))
  among-at true seen first things name e rest =
      rest seen
      ∙ keep-or (is_among seen name) (bytes_eq name (name_of first)) (is_among (map name_of things) name)
      (λ same. among-same seen name (name_of first) ((bytes_decides name (name_of first)).0 same) e)
  among-at false seen first things name e rest =
      sym (swap-or (bytes_eq name (name_of first)) (is_among seen name) _)
      ∙ rest (name_of first ∷ seen)
      ∙ swap-or (bytes_eq name (name_of first)) (is_among seen name) (is_among (map name_of things) name)

  among-behind : (seen : List (List ℕ)) (things : List A) (name : List ℕ)
      → (is_among seen name || is_among (map name_of (firsts_behind name_of seen things)) name) ≡ (is_among seen name || is_among (map name_of things) name)
  among-behind seen [] name = refl
  among-behind seen (first ∷ things) name =
      among-at (is_among seen (name_of first)) seen first things name refl (λ more. among-behind more things name)

  -- the first things have all names
  pub among-firsts : (things : List A) (name : List ℕ)
      → is_among (map name_of (firsts name_of things)) name ≡ is_among (map name_of things) name
  among-firsts = among-behind []

  push-named : (b : Bool) (things : List A) (thing : A)
      → map name_of (things ++ (if b then [] else thing ∷ [])) ≡ cond b (map name_of things) (map name_of things ++ name_of thing ∷ [])
  push-named true things thing = ap (map name_of) (append-nil things)
  push-named false things thing = map_push name_of things thing

  -- a table of the names of such things, after one name more was put in
  pub table-push : (things : List A) (thing : A)
      → with_name (name_of thing) (map name_of (firsts name_of things)) ≡ map name_of (firsts name_of (things ++ thing ∷ []))
  table-push things thing =
      ap (λ t. cond t (map name_of (firsts name_of things)) (map name_of (firsts name_of things) ++ name_of thing ∷ []))
      (place-among (name_of thing) (map name_of (firsts name_of things)) ∙ among-firsts things (name_of thing))
      ∙ sym (push-named (is_among (map name_of things) (name_of thing)) (firsts name_of things) thing)
      ∙ sym (ap (map name_of) (firsts-push things thing))

-- the place that a table tells of a name that is put in is its length before, where the name is new
intern-at : (b : Bool) (old new : List (List ℕ)) (name : List ℕ) (place : ℕ) → new ≡ cond b old (old ++ name ∷ [])
    → place < length new → slice_get new place ≡ Some name → AreDifferent new → (place == length old) ≡ not b
intern-at true old new name place e within held different =
    ne_eqb place (length old) (λ same. let short : length new ≡ length old = ap length e in absurd (omega arith))
intern-at false old new name place e within held different =
    eq-eqb place (length old)
    (different place (length old) name held (ap (λ names. slice_get names (length old)) e ∙ slice_get_pushed old name))

pub intern-new : (old new : List (List ℕ)) (name : List ℕ) (place : ℕ) → new ≡ with_name name old → place < length new
    → slice_get new place ≡ Some name → AreDifferent new → (place == length old) ≡ not (is_among old name)
intern-new old new name place e within held different =
    intern-at (is_some (place_of name old)) old new name place e within held different ∙ ap not (place-among name old)

-- a table of names, after one name more was put in
pub name-push : (names : List (List ℕ)) (name : List ℕ) → with_name name (each_name names) ≡ each_name (names ++ name ∷ [])
name-push names name =
    ap (with_name name) (sym (map-id (each_name names))) ∙ table-push (λ (one : List ℕ). one) names name ∙ map-id (each_name (names ++ name ∷ []))
