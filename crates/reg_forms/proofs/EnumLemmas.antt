-- What an `enum` and the block round it say, by what is known of them.
use Rattle.std.proofs.Common.{◌≡◌, ℕ, List, [], Bool, true, false, map, not, sym, ap, ◌∙◌, Option}
use Rattle.std.specs.Prelude.{codes}
use Rattle.std.specs.Str.{bytes_eq}
use Rattle.std.proofs.lemmas.Bool.{cond-true, cond-false}
use Rattle.reg_registry.specs.Words.{is_name}
use Rattle.reg_reader.specs.Views.{Element}
use Rattle.reg_forms.specs.declared.enum_attributes.Role.{Role}
use Rattle.reg_forms.specs.declared.enum_attributes.Role.TheVariants as standing
use Rattle.reg_forms.specs.declared.forms.RowCode.TheVariants.{BadAttribute}
use Rattle.reg_forms.specs.Attributes.{counts}
use Rattle.reg_forms.specs.Enums.{enum_items, enum_words, group_items, named_group}
use Rattle.reg_forms.specs.Items.{Item, bad_at}
use Rattle.reg_forms.proofs.ItemLemmas.{unless_bad-some}

-- something is bad in it
pub enum_bad : (api : List ℕ) (is_enum : List ℕ → Bool) (role : Role) (number : Option ℕ) (e : Element) (place : ℕ) (words : List (List ℕ)) → place ≡ e.place → counts api e ≡ true → words ≡ enum_words role number e → (words ≡ [] → ⊥) → map (λ word. Item.wrong (record { code = BadAttribute; at = place; word = word })) words ≡ enum_items api is_enum role number e
enum_bad api is_enum role number e place words there counted same some =
    ap (λ at. map (λ word. Item.wrong (record { code = BadAttribute; at = at; word = word })) words) there
    ∙ ap (map (bad_at e)) same
    ∙ sym (cond-true (counts api e) _ [] counted ∙ unless_bad-some e (enum_words role number e) _ (λ none. some (same ∙ none)))

-- a block of an enum type
pub named_enum : (api : List ℕ) (is_enum : List ℕ → Bool) (name of : List ℕ) (e : Element) → bytes_eq name (codes "API Constants") ≡ false → is_name name ≡ true → is_enum name ≡ true → of ≡ name → group_items api is_enum name (standing.Base of) e ≡ named_group api is_enum e name
named_enum api is_enum name of e other named is_so same =
    ap (λ own. group_items api is_enum name (standing.Base own) e) same
    ∙ sym (cond-false (bytes_eq name (codes "API Constants")) _ _ other ∙ cond-false (not (is_name name)) _ _ (ap not named) ∙ cond-true (is_enum name) _ [] is_so)
