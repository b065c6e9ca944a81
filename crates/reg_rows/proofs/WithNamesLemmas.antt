-- What a table of names is after names were put in, one after another.
use Rattle.std.proofs.Common.{◌≡◌, ℕ, suc, ◌+◌, ◌<◌, ◌≤◌, Bool, true, false, ◌||◌, cond, List, [], ◌∷◌, ◌++◌, length, map, drop, get_or, Option, Some, None, is_some, option_map, slice_get, refl, sym, ap, subst, ◌∙◌, arith, append_assoc, append-nil}
use Rattle.std.specs.Option.{option_or}
use Rattle.std.specs.Str.{bytes_eq}
use Rattle.std.specs.Cmp.Lexicographic.{bytes_decides}
use Rattle.std.proofs.lemmas.List.{at_drop_all, at_drop_more, length_push}
use Rattle.vkb_formula.specs.Names.{AreDifferent, place_of, with_name}
use Rattle.reg_tables.specs.Lists.{firsts, firsts_behind, is_among}
use Rattle.reg_rows.specs.BuiltParts.{with_names}
use Rattle.reg_rows.proofs.PlaceLemmas.{place_of-push, place_of-within, slice_get-front, slice_get-seam}

-- a table with the names that were seen, after one more
seen_or : (o : Option ℕ) (same : Bool) (n : ℕ) (seen : Bool) → seen ≡ is_some o → (same || seen) ≡ is_some (option_or o (cond same (Some n) None))
seen_or None true n seen e = refl
seen_or None false n seen e = e
seen_or (Some k) true n seen e = refl
seen_or (Some k) false n seen e = e

seen_more : (seen table : List (List ℕ)) (last : List ℕ) → ((name : List ℕ) → is_among seen name ≡ is_some (place_of name table)) → (name : List ℕ) → is_among (last ∷ seen) name ≡ is_some (place_of name (table ++ last ∷ []))
seen_more seen table last same name =
    seen_or (place_of name table) (bytes_eq name last) (length table) (is_among seen name) (same name) ∙ sym (ap is_some (place_of-push name last table))

module _ {X : Type 0} (name_of : X → List ℕ) where
  put_first : (b : Bool) (thing : X) (more : List X) (table seen : List (List ℕ)) → ((name : List ℕ) → is_among seen name ≡ is_some (place_of name table)) → is_some (place_of (name_of thing) table) ≡ b
      → ((table' seen' : List (List ℕ)) → ((name : List ℕ) → is_among seen' name ≡ is_some (place_of name table')) → with_names table' (map name_of more) ≡ table' ++ map name_of (firsts_behind name_of seen' more))
      → with_names (cond b table (table ++ name_of thing ∷ [])) (map name_of more) ≡ table ++ map name_of (cond b (firsts_behind name_of seen more) (thing ∷ firsts_behind name_of (name_of thing ∷ seen) more))
  put_first true thing more table seen same e rest = rest table seen same
  put_first false thing more table seen same e rest =
      rest (table ++ name_of thing ∷ []) (name_of thing ∷ seen) (seen_more seen table (name_of thing) same)
      ∙ append_assoc table (name_of thing ∷ []) (map name_of (firsts_behind name_of (name_of thing ∷ seen) more))

  pub with_names-behind : (things : List X) (table seen : List (List ℕ)) → ((name : List ℕ) → is_among seen name ≡ is_some (place_of name table)) → with_names table (map name_of things) ≡ table ++ map name_of (firsts_behind name_of seen things)
  with_names-behind [] table seen same = sym (append-nil table)
  with_names-behind (thing ∷ more) table seen same =
      put_first (is_some (place_of (name_of thing) table)) thing more table seen same refl (with_names-behind more)
      ∙ ap (λ b. table ++ map name_of (cond b (firsts_behind name_of seen more) (thing ∷ firsts_behind name_of (name_of thing ∷ seen) more))) (sym (same (name_of thing)))

  -- the names of things, each where it stands first
  pub with_names-firsts : (things : List X) → with_names [] (map name_of things) ≡ map name_of (firsts name_of things)
  with_names-firsts things = with_names-behind things [] [] (λ name. refl)

same-held : (name first : List ℕ) (more : List (List ℕ)) (b : Bool) → bytes_eq name first ≡ b → (o : Option ℕ) → ((k : ℕ) → o ≡ Some k → slice_get more k ≡ Some name) → (i : ℕ) → cond b (Some 0) (option_map (λ k. k + 1) o) ≡ Some i → slice_get (first ∷ more) i ≡ Some name
same-held name first more true s o rest i e =
    let zero_is : 0 ≡ i = cc in
    subst (λ k. slice_get (first ∷ more) k ≡ Some name) zero_is (ap Some (sym ((bytes_decides name first).0 s)))
same-held name first more false s None rest i e = absurd (cc)
same-held name first more false s (Some k) rest i e =
    let raised : k + 1 ≡ i = cc in
    let next : suc k ≡ i = omega arith in
    subst (λ m. slice_get (first ∷ more) m ≡ Some name) next (rest k refl)

-- a name that is found stands there
pub place_of-held : (name : List ℕ) (names : List (List ℕ)) (i : ℕ) → place_of name names ≡ Some i → slice_get names i ≡ Some name
place_of-held name [] i e = absurd (cc)
place_of-held name (first ∷ more) i e = same-held name first more (bytes_eq name first) refl (place_of name more) (place_of-held name more) i e

new_there : (name : List ℕ) (table more : List (List ℕ)) (o : Option ℕ) → place_of name table ≡ o → AreDifferent ((table ++ name ∷ []) ++ more) → with_name name table ≡ table ++ name ∷ []
new_there name table more None e differ = ap (λ o. cond (is_some o) table (table ++ name ∷ [])) e
new_there name table more (Some i) e differ =
    let within : i < length table = place_of-within name table i e in
    let long = length_push table name in
    let before : slice_get ((table ++ name ∷ []) ++ more) i ≡ Some name = slice_get-front (table ++ name ∷ []) more i (omega arith) ∙ slice_get-front table (name ∷ []) i within ∙ place_of-held name table i e in
    let behind : slice_get ((table ++ name ∷ []) ++ more) (length table) ≡ Some name = slice_get-front (table ++ name ∷ []) more (length table) (omega arith) ∙ slice_get-seam table name in
    let one = differ i (length table) name before behind in
    absurd (omega arith)

-- names that all differ are all put in
pub with_names-different : (names table : List (List ℕ)) → AreDifferent (table ++ names) → with_names table names ≡ table ++ names
with_names-different [] table differ = sym (append-nil table)
with_names-different (name ∷ more) table differ =
    let regrouped : (table ++ name ∷ []) ++ more ≡ table ++ name ∷ more = append_assoc table (name ∷ []) more in
    let apart : AreDifferent ((table ++ name ∷ []) ++ more) = subst AreDifferent (sym regrouped) differ in
    ap (λ t. with_names t more) (new_there name table more (place_of name table) refl apart)
    ∙ with_names-different more (table ++ name ∷ []) apart ∙ regrouped

pub with_names-append : (names more table : List (List ℕ)) → with_names table (names ++ more) ≡ with_names (with_names table names) more
with_names-append [] more table = refl
with_names-append (name ∷ names) more table = with_names-append names more (with_name name table)

one_more : (b : Bool) (table : List (List ℕ)) (name : List ℕ) → length table ≤ length (cond b table (table ++ name ∷ []))
one_more true table name = omega arith
one_more false table name = omega (arith, length_push table name)

-- no name is taken out
pub with_names-grow : (names table : List (List ℕ)) → length table ≤ length (with_names table names)
with_names-grow [] table = omega arith
with_names-grow (name ∷ more) table =
    omega (arith, one_more (is_some (place_of name table)) table name, with_names-grow more (with_name name table))

-- A loop over things, as a slice shows them, where the names of those ahead are a function of these.
module _ {X : Type 0} (names_of : List X → List (List ℕ)) (things shown : List X) (items : shown ≡ things) (table all : List (List ℕ)) (i : ℕ) (is : with_names table (names_of (drop i things)) ≡ all) where
  module _ (thing : X) (within : i < length shown) (there : thing ≡ get_or shown i thing) where
    ahead : with_names table (names_of (thing ∷ drop (i + 1) things)) ≡ all
    ahead =
        let there_now : thing ≡ get_or things i thing = there ∙ ap (λ xs. get_or xs i thing) items in
        ap (λ x. with_names table (names_of (x ∷ drop (i + 1) things))) there_now
        ∙ sym (at_drop_more (λ xs. with_names table (names_of xs)) things i thing (omega (arith, ap length items))) ∙ is

    -- the thing's name is put in
    pub put-next : (name : List ℕ) → names_of (thing ∷ drop (i + 1) things) ≡ name ∷ names_of (drop (i + 1) things) → with_names (with_name name table) (names_of (drop (i + 1) things)) ≡ all
    put-next name e = sym (ap (with_names table) e) ∙ ahead

    -- the thing has none
    pub skip-next : names_of (thing ∷ drop (i + 1) things) ≡ names_of (drop (i + 1) things) → with_names table (names_of (drop (i + 1) things)) ≡ all
    skip-next e = sym (ap (with_names table) e) ∙ ahead

    -- there is room for it
    pub room-next : (name : List ℕ) → names_of (thing ∷ drop (i + 1) things) ≡ name ∷ names_of (drop (i + 1) things) → (most : ℕ) → length all ≤ most → length (with_name name table) ≤ most
    room-next name e most few =
        omega (arith, with_names-grow (names_of (drop (i + 1) things)) (with_name name table), ap length (put-next name e))

  -- all were put in
  pub put-last : length shown ≤ i → names_of [] ≡ [] → table ≡ all
  put-last end none =
      sym (at_drop_all (λ xs. with_names table (names_of xs)) things i (omega (arith, ap length items)) ∙ ap (with_names table) none) ∙ is
