-- Names that are counted up to a limit: what one name more changes.
use Rattle.std.proofs.Common.{◌≡◌, ℕ, zero, suc, ◌+◌, ◌<◌, ◌≤◌, Bool, true, false, cond, List, [], ◌∷◌, ◌++◌, length, map, get_or, take, Option, Some, None, Result, refl, sym, ap, subst, ◌∙◌, arith}
use Rattle.std.specs.Prelude.{◌==◌, IfOk, filter, is_none, is_some, not, option_map, slice_get, if◌then◌else◌}
use Rattle.std.specs.Option.{option_to_list}
use Rattle.std.proofs.lemmas.Bool.{true≢false, eq-eqb, eqb-true}
use Rattle.std.proofs.lemmas.List.{append-nil, append_assoc, length-append, length-map, map_more, map_push}
use Rattle.std.proofs.lemmas.List.Elements.{filter_more}
use Rattle.std.proofs.lemmas.Option.{slice_get_past}
use Rattle.vkb_formula.specs.Names.{AreDifferent, most_names, with_name}
use Rattle.reg_forms.specs.declared.forms.Fault.{Fault}
use Rattle.reg_forms.specs.declared.forms.RowCode.TheVariants.{NameLimit}
use Rattle.reg_tables.specs.Bits.{Atom}
use Rattle.reg_tables.specs.Counts.{IsCounted}
use Rattle.reg_tables.specs.Lists.{firsts, firsts_behind, is_among}
use Rattle.reg_tables.specs.Wrong.{past_limit}
use Rattle.reg_tables.proofs.FirstsLemmas.{among-firsts, firsts-push, intern-new, slice_get_pushed, table-push}

kept : {A : Type 0} (things : List A) (thing : A) (n : ℕ) → (length things ≡ n → ⊥)
    → slice_get (things ++ thing ∷ []) n ≡ slice_get things n
kept [] thing zero other = absurd (other refl)
kept [] thing (suc n) other = refl
kept (first ∷ things) thing zero other = refl
kept (first ∷ things) thing (suc n) other = kept things thing n (λ e. other (ap suc e))

-- what a step of the count knows: the table before and after, and the place of the name
pub record IsStep (old new : List (List ℕ)) (name : List ℕ) (at count : ℕ) : Type 0 where
  pub count_is : count ≡ length old
  pub table : new ≡ with_name name old
  pub within : at < length new
  pub held : slice_get new at ≡ Some name
  pub different : AreDifferent new

pub names-step : (named : List Atom) (place : ℕ) (name : List ℕ) (old new : List (List ℕ))
    → old ≡ map (λ one. one.1) (firsts (λ one. one.1) named) → new ≡ with_name name old
    → new ≡ map (λ one. one.1) (firsts (λ one. one.1) (named ++ (place, name) ∷ []))
names-step named place name old new e h = h ∙ ap (with_name name) e ∙ table-push (λ (one : Atom). one.1) named (place, name)

-- the place is the count where the name is new
pub is-new : (named : List Atom) (old new : List (List ℕ)) (name : List ℕ) (at count : ℕ)
    → old ≡ map (λ one. one.1) (firsts (λ one. one.1) named) → IsStep old new name at count
    → (at == count) ≡ not (is_among (map (λ one. one.1) named) name)
is-new named old new name at count e s =
    ap (λ n. at == n) s.count_is ∙ intern-new old new name at s.table s.within s.held s.different
    ∙ ap (λ names. not (is_among names name)) e ∙ ap not (among-firsts (λ (one : Atom). one.1) named name)

count-firsts : (named : List Atom) (old new : List (List ℕ)) (name : List ℕ) (at count : ℕ)
    → old ≡ map (λ one. one.1) (firsts (λ one. one.1) named) → IsStep old new name at count
    → count ≡ length (firsts (λ one. one.1) named)
count-firsts named old new name at count e s = s.count_is ∙ ap length e ∙ length-map (firsts (λ (one : Atom). one.1) named) (λ one. one.1)

skip-at : (b : Bool) (things : List Atom) (one : Atom) (count at : ℕ) → (at == count) ≡ not b → count ≡ length things
    → (at ≡ count → count ≡ most_names → ⊥)
    → slice_get (things ++ (if b then [] else one ∷ [])) most_names ≡ slice_get things most_names
skip-at true things one count at e n other = ap (λ all. slice_get all most_names) (append-nil things)
skip-at false things one count at e n other = kept things one most_names (λ k. other (eqb-true at count e) (n ∙ k))

past-at : (b : Bool) (things : List Atom) (one : Atom) (count at : ℕ) → (at == count) ≡ not b → count ≡ length things
    → at ≡ count → count ≡ most_names → slice_get (things ++ (if b then [] else one ∷ [])) most_names ≡ Some one
past-at true things one count at e n new full = absurd (true≢false (sym (eq-eqb at count new) ∙ e))
past-at false things one count at e n new full = ap (slice_get (things ++ one ∷ [])) (sym full ∙ n) ∙ slice_get_pushed things one

-- a name that was there, or one more below the limit or above it
pub counted-more : (named : List Atom) (place : ℕ) (name : List ℕ) (old new : List (List ℕ)) (past : Option Fault) (at count : ℕ)
    → IsCounted named old past → IsStep old new name at count → (at ≡ count → count ≡ most_names → ⊥)
    → IsCounted (named ++ (place, name) ∷ []) new past
counted-more named place name old new past at count h s other = record {
  names_are = names-step named place name old new h.names_are s.table;
  past_is =
      h.past_is
      ∙ sym (ap (λ (found : Option Atom). option_to_list (option_map (λ one. record { code = NameLimit; at = one.0; word = one.1 }) found))
      (ap (λ things. slice_get things most_names) (firsts-push (λ (one : Atom). one.1) named (place, name))
      ∙ skip-at (is_among (map (λ one. one.1) named) name) (firsts (λ one. one.1) named) (place, name) count at
      (is-new named old new name at count h.names_are s) (count-firsts named old new name at count h.names_are s) other));
}

-- the first name that is past the limit
pub counted-past : (named : List Atom) (place : ℕ) (name word : List ℕ) (old new : List (List ℕ)) (past : Option Fault) (at count : ℕ)
    → word ≡ name → IsCounted named old past → IsStep old new name at count → at ≡ count → count ≡ most_names
    → IsCounted (named ++ (place, name) ∷ []) new (Some (record { code = NameLimit; at = place; word = word }))
counted-past named place name word old new past at count e h s new-name full = record {
  names_are = names-step named place name old new h.names_are s.table;
  past_is =
      ap (λ w. record { code = NameLimit; at = place; word = w } ∷ []) e
      ∙ sym (ap (λ (found : Option Atom). option_to_list (option_map (λ one. record { code = NameLimit; at = one.0; word = one.1 }) found))
      (ap (λ things. slice_get things most_names) (firsts-push (λ (one : Atom). one.1) named (place, name))
      ∙ past-at (is_among (map (λ one. one.1) named) name) (firsts (λ one. one.1) named) (place, name) count at
      (is-new named old new name at count h.names_are s) (count-firsts named old new name at count h.names_are s) new-name full));
}

module _ {A : Type 0} (name_of : A → List ℕ) where
  fewer-at : (b : Bool) (seen : List (List ℕ)) (thing : A) (things : List A)
      → ((more : List (List ℕ)) → length (firsts_behind name_of more things) ≤ length things)
      → length (cond b (firsts_behind name_of seen things) (thing ∷ firsts_behind name_of (name_of thing ∷ seen) things)) ≤ suc (length things)
  fewer-at true seen thing things rest = let h = rest seen in omega arith
  fewer-at false seen thing things rest = let h = rest (name_of thing ∷ seen) in omega arith

  fewer : (seen : List (List ℕ)) (things : List A) → length (firsts_behind name_of seen things) ≤ length things
  fewer seen [] = omega arith
  fewer seen (thing ∷ things) = fewer-at (is_among seen (name_of thing)) seen thing things (λ more. fewer more things)

-- where there are few names in all, none is past the limit
pub few : (named : List Atom) → length named ≤ most_names → past_limit named ≡ []
few named h =
    let less = fewer (λ (one : Atom). one.1) [] named in
    ap (λ (found : Option Atom). option_to_list (option_map (λ one. record { code = NameLimit; at = one.0; word = one.1 }) found))
    (slice_get_past (firsts (λ (one : Atom). one.1) named) most_names (omega arith))

-- a loop over things with names is one thing further
module _ {X : Type 0} (f : X → Atom) (named : List Atom) (xs : List X) (i : ℕ) (x : X) where
  pub next-named : i < length xs → x ≡ get_or xs i x → (named ++ map f (take i xs)) ++ f x ∷ [] ≡ named ++ map f (take (i + 1) xs)
  next-named h e =
      append_assoc named (map f (take i xs)) (f x ∷ [])
      ∙ ap (λ more. named ++ more) (ap (λ y. map f (take i xs) ++ f y ∷ []) e ∙ sym (map_more f xs i x h))

  module _ (p : X → Bool) where
    pub next-kept : i < length xs → x ≡ get_or xs i x → p x ≡ true
        → (named ++ map f (filter p (take i xs))) ++ f x ∷ [] ≡ named ++ map f (filter p (take (i + 1) xs))
    next-kept h e t =
        append_assoc named (map f (filter p (take i xs))) (f x ∷ [])
        ∙ ap (λ more. named ++ more)
        (sym (map_push f (filter p (take i xs)) x)
        ∙ ap (map f)
        (sym (ap (λ b. filter p (take i xs) ++ cond b (x ∷ []) []) t)
        ∙ ap (λ y. filter p (take i xs) ++ cond (p y) (y ∷ []) []) e
        ∙ sym (filter_more p xs i x h)))

    pub next-dropped : i < length xs → x ≡ get_or xs i x → p x ≡ false
        → named ++ map f (filter p (take i xs)) ≡ named ++ map f (filter p (take (i + 1) xs))
    next-dropped h e t =
        ap (λ more. named ++ map f more)
        (sym (append-nil (filter p (take i xs)))
        ∙ sym (ap (λ b. filter p (take i xs) ++ cond b (x ∷ []) []) t)
        ∙ ap (λ y. filter p (take i xs) ++ cond (p y) (y ∷ []) []) e
        ∙ sym (filter_more p xs i x h))

-- the fault that was found is put last
pub past-put : {E : Type 0} (r : Result (Unit {0}) E) (faults new : List Fault) (named all : List Atom) (names : List (List ℕ)) (past : Option Fault)
    → named ≡ all → IsCounted named names past → IfOk r (λ _. new ≡ faults ++ option_to_list past)
    → IfOk r (λ _. new ≡ faults ++ past_limit all)
past-put r faults new named all names past e h = subst (λ told. IfOk r (λ _. new ≡ faults ++ told)) (h.past_is ∙ ap past_limit e)

-- where there are few names in all, nothing is put
pub few-put : (faults : List Fault) (named : List Atom) → length named ≤ most_names → faults ≡ faults ++ past_limit named
few-put faults named h = sym (ap (λ told. faults ++ told) (few named h) ∙ append-nil faults)

-- a test for none is that for some, turned round
pub none-is : {A : Type 0} (o : Option A) (b : Bool) → is_some o ≡ not b → is_none o ≡ b
none-is None true h = refl
none-is None false h = absurd (true≢false (sym h))
none-is (Some x) true h = absurd (true≢false h)
none-is (Some x) false h = refl

module _ {X Y : Type 0} (f : X → Option Y) where
  split-at : (o : Option Y) (x : X) (some none : List X) (n : ℕ) → length some + length none ≡ n
      → length (cond (is_some o) (x ∷ some) some) + length (cond (is_none o) (x ∷ none) none) ≡ suc n
  split-at None x some none n h = omega arith
  split-at (Some y) x some none n h = omega arith

  -- what has a value and what has none are all
  split-count : (xs : List X) → length (filter (λ x. is_some (f x)) xs) + length (filter (λ x. is_none (f x)) xs) ≡ length xs
  split-count [] = omega arith
  split-count (x ∷ xs) = split-at (f x) x (filter (λ x. is_some (f x)) xs) (filter (λ x. is_none (f x)) xs) (length xs) (split-count xs)

  pub count-options : {Z : Type 0} (g : X → Atom) (h : Z → Atom) (xs : List X) (zs : List Z)
      → length (map g (filter (λ x. is_some (f x)) xs) ++ map g (filter (λ x. is_none (f x)) xs) ++ map h zs) ≡ length xs + length zs
  count-options g h xs zs =
      let some = filter (λ x. is_some (f x)) xs in
      let none = filter (λ x. is_none (f x)) xs in
      let all = split-count xs in
      let a = length-append (map g some ++ map g none) (map h zs) in
      let b = length-append (map g some) (map g none) in
      let k = length-map some g in
      let l = length-map none g in
      let m = length-map zs h in
      omega arith
