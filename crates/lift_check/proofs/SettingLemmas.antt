-- Which names a choice sets, and which of them are options.
use Rattle.std.proofs.Common.{◌≡◌, ◌∙◌, sym, ap, ℕ, Bool, true, false, ◌||◌, List, [], ◌++◌, Some, slice_get, get_or, slice_index_or}
use Rattle.std.specs.Str.{bytes_eq}
use Rattle.std.specs.Cmp.Lexicographic.{bytes_decides}
use Rattle.std.proofs.lemmas.Bool.{false_from_ne_true, or_left}
use Rattle.std.proofs.lemmas.List.Folds.{list_any-append, list_any_at, Any-from_list_any}
use Rattle.std.proofs.lemmas.Option.{slice_get-get_or, slice_get_within, get_or_from_slice_get}
use Rattle.vkb_formula.specs.Names.{AreDifferent}
use Rattle.doc_tree.specs.Flat.{is_among}
use Rattle.doc_build.specs.Choices.{Choice, chosen_of}
use Rattle.doc_build.specs.Keeping.{OptionsAreSet}
use Rattle.lift_check.specs.declared.options.Setting.{Setting}
use Rattle.lift_check.specs.declared.options.Setting.TheVariants.{Fixed, Free, Unset}
use Rattle.lift_check.specs.Nodes.{is_set}
use Rattle.lift_check.specs.Options.{IsSetting}

same_bytes : (a b : List ℕ) → bytes_eq a b ≡ true → a ≡ b
same_bytes a b h = (bytes_decides a b).0 h

-- a name that stands at a place is among the names
pub is_among-held : (names : List (List ℕ)) (name : List ℕ) (place : ℕ) → slice_get names place ≡ Some name → is_among names name ≡ true
is_among-held names name place held =
    list_any_at (bytes_eq name) names place [] (slice_get_within names place name held)
    ((bytes_decides name (get_or names place [])).1 (sym (get_or_from_slice_get names place name [] held)))

-- a name that is among names stands at a place
pub held-from_is_among : (names : List (List ℕ)) (name : List ℕ) → is_among names name ≡ true → (place : ℕ) × (slice_get names place ≡ Some name)
held-from_is_among names name h =
    let found = Any-from_list_any (bytes_eq name) names h in
    (found.0, slice_get-get_or names found.0 found.1 found.2 ∙ ap Some (found.3 ∙ sym (same_bytes name found.1 found.4)))

-- a name that stands at no place isn't among the names
pub is_among-absent : (names : List (List ℕ)) (name : List ℕ) → ((place : ℕ) → slice_get names place ≡ Some name → ⊥) → is_among names name ≡ false
is_among-absent names name none = false_from_ne_true (is_among names name) (λ h. let found = held-from_is_among names name h in none found.0 found.1)

-- a name is set at a choice as its setting says
pub set-as : OptionsAreSet → (fixed free : List (List ℕ)) (choice : Choice) (name : List ℕ) (setting : Setting) → AreDifferent free → IsSetting fixed free name setting
    → is_among (fixed ++ chosen_of free choice) name ≡ is_set choice setting
set-as chosen fixed free choice name Fixed different is = list_any-append (bytes_eq name) fixed (chosen_of free choice) ∙ or_left (is_among fixed name) (is_among (chosen_of free choice) name) is
set-as chosen fixed free choice name (Free option) different is =
    chosen.option fixed free choice name option.0 different is.1 ∙ ap (λ (b : Bool). b || slice_index_or choice option.0 false) is.0
set-as chosen fixed free choice name Unset different is = chosen.other fixed free choice name is.1 ∙ is.0
