-- A registry that declares nothing is sound, and its table has the names that were put in.
use Rattle.std.proofs.Common.{◌≡◌, ◌≤◌, ◌<◌, ◌+◌, ℕ, zero, suc, Bool, true, false, cond, List, [], ◌∷◌, ◌++◌, length, map, take, get_or, slice_get, All, Option, Some, None, is_some, option_map, refl, sym, ap, subst, ◌∙◌, inl, arith}
use Rattle.std.specs.Str.{bytes_eq}
use Rattle.std.specs.Cmp.Lexicographic.{bytes_decides}
use Rattle.std.proofs.lemmas.List.{length-map, take_more}
use Rattle.std.proofs.lemmas.List.Elements.{All-map, All-nil}
use Rattle.std.proofs.lemmas.Option.{none-some, same_Some, slice_get_read}
use Rattle.vkb_formula.specs.Formulas.{node_reach, reach_of}
use Rattle.vkb_formula.specs.Names.{AreDifferent, most_names, place_of, with_name}
use Rattle.vkb_formula.specs.declared.formula.Formula.{Formula-F, fold-roll-Formula}
use Rattle.vkb_formula.specs.declared.formula.Formula.TheVariants.{Always, rolls-Always}
use Rattle.reg_registry.specs.Naming.{AreSound, IsShort, IsSoundBlock, IsSoundOption, IsSoundRow, Leads, step, more}
use Rattle.reg_registry.specs.Rows.{Rows, bare_rows, free_option}
use Rattle.reg_registry.specs.Words.{is_name}
use Rattle.reg_registry.specs.declared.registry.OptionRow.{OptionRow}
use Rattle.reg_registry.specs.declared.registry.Block.{Block}
use Rattle.reg_registry.specs.declared.registry.Row.{Row}
use Rattle.reg_registry.proofs.PlacedLemmas.{take-place}

-- what is always true reaches nothing
always-within : (n : ℕ) → reach_of Always ≤ n
always-within n =
    let e : reach_of Always ≡ 0 = ap reach_of (sym rolls-Always) ∙ fold-roll-Formula ℕ node_reach Formula-F.Always in
    omega (arith, e)

held-step : (name first : List ℕ) (others : List (List ℕ)) (b : Bool) → bytes_eq name first ≡ b → (o : Option ℕ) → ((k : ℕ) → o ≡ Some k → slice_get others k ≡ Some name)
    → (i : ℕ) → cond b (Some 0) (option_map (λ k. k + 1) o) ≡ Some i → slice_get (first ∷ others) i ≡ Some name
held-step name first others true s o rest i e =
    let zero_is : 0 ≡ i = cc in
    subst (λ k. slice_get (first ∷ others) k ≡ Some name) zero_is (ap Some (sym ((bytes_decides name first).0 s)))
held-step name first others false s None rest i e = absurd (cc)
held-step name first others false s (Some k) rest i e =
    let raised : k + 1 ≡ i = cc in
    let next : suc k ≡ i = omega arith in
    subst (λ m. slice_get (first ∷ others) m ≡ Some name) next (rest k refl)

-- a name that is found stands there
place-held : (name : List ℕ) (names : List (List ℕ)) (i : ℕ) → place_of name names ≡ Some i → slice_get names i ≡ Some name
place-held name [] i e = absurd (cc)
place-held name (first ∷ others) i e = held-step name first others (bytes_eq name first) refl (place_of name others) (place-held name others) i e

module _ (names : List (List ℕ)) (differ : AreDifferent names) (n : ℕ) (name : List ℕ) (here : slice_get names n ≡ Some name) where
  new-step : (o : Option ℕ) → place_of name (take n names) ≡ o → with_name name (take n names) ≡ take n names ++ name ∷ []
  new-step None e = ap (λ o. cond (is_some o) (take n names) (take n names ++ name ∷ [])) e
  new-step (Some k) e =
      let before = take-place names n k name (place-held name (take n names) k e) in
      let same = differ k n name before.1 here in
      absurd (omega (arith, before.0, same))

  -- of different names each is new, and stands last
  pub put-new : with_name name (take n names) ≡ take n names ++ name ∷ []
  put-new = new-step (place_of name (take n names)) refl

-- where there are no rows nothing is named
none-lead : {place other : ℕ} → Leads [] place other → ⊥
none-lead {place} {other} (step named) = named
none-lead {place} {other} (more {next = next} named leads) = named

none-different : AreDifferent []
none-different i j name here there = absurd (none-some name here)

free-none : (options : List (List ℕ)) (place : ℕ) (o : OptionRow) (version : ℕ × ℕ) → slice_get (map (λ name. free_option) options) place ≡ Some o → o.version ≡ Some version → ⊥
free-none [] place o version here is = none-some o here
free-none (name ∷ others) zero o version here is =
    let free : free_option ≡ o = same_Some free_option o here in
    none-some version (ap (λ (o : OptionRow). o.version) free ∙ is)
free-none (name ∷ others) (suc place) o version here is = free-none others place o version here is

pub bare-sound : (options : List (List ℕ)) → length options ≤ most_names → AreDifferent options → All (λ name. is_name name ≡ true) options
    → AreSound (bare_rows options)
bare-sound options few differ named = record {
  rows_count = refl;
  options_count = length-map options (λ name. free_option);
  names_named = All-nil (λ name. is_name name ≡ true);
  options_named = named;
  names_short = All-nil IsShort;
  names_few = omega arith;
  options_few = few;
  names_differ = none-different;
  options_differ = differ;
  numbers_differ = λ place other o p version here there is also. absurd (free-none options place o version here is);
  blocks_few = omega arith;
  each_row = All-nil (IsSoundRow 0 0);
  each_option =
      All-map (IsSoundOption 0 (length options)) (λ name. free_option) options
      (λ k name h. record { reach = always-within (length options); depends = inl refl; bit = tt });
  each_block = All-nil (IsSoundBlock 0 (length options));
  no_circle = λ place. none-lead;
}

-- parts that are those of such a registry are one
pub bare-are : (names options tags : List (List ℕ)) (rows : List Row) (asked : List OptionRow) (blocks : List Block) (all : List (List ℕ))
    → names ≡ [] → rows ≡ [] → options ≡ all → asked ≡ map (λ name. free_option) all → blocks ≡ [] → tags ≡ []
    → ◌≡◌ {A = Rows} (record { names = names; rows = rows; options = options; option_rows = asked; blocks = blocks; tags = tags }) (bare_rows all)
bare-are names options tags rows asked blocks all n r o a b t =
    λ i. record { names = n i; rows = r i; options = o i; option_rows = a i; blocks = b i; tags = t i }

-- the table of different names, where one more was put in
pub put-next : (options table after : List (List ℕ)) (i : ℕ) (name shown : List ℕ) → AreDifferent options → i < length options → name ≡ get_or options i name
    → table ≡ take i options → shown ≡ name → after ≡ with_name shown table → after ≡ take (i + 1) options
put-next options table after i name shown differ within there so_far same put =
    put ∙ ap (λ n. with_name n table) same ∙ ap (with_name name) so_far
    ∙ put-new options differ i name (slice_get_read options (length options) i name refl within there)
    ∙ ap (λ n. take i options ++ n ∷ []) there ∙ sym (take_more options i name within)
