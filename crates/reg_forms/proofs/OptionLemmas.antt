-- Blocks and extensions, and what stands behind a text.
use Rattle.std.proofs.Common.{◌≡◌, ℕ, zero, suc, ◌<◌, List, [], ◌∷◌, Bool, true, false, length, drop, refl, sym, ap, ◌∙◌, Option, None, arith}
use Rattle.std.specs.Prelude.{codes}
use Rattle.std.proofs.lemmas.Bool.{cond-true, cond-false}
use Rattle.reg_reader.specs.Views.{Element}
use Rattle.reg_forms.specs.declared.forms.Forms.{Forms}
use Rattle.reg_forms.specs.Attributes.{counts, is_named, value_of}
use Rattle.reg_forms.specs.Enums.{number_in, own_name}
use Rattle.reg_forms.specs.Forms.{with_item, with_items}
use Rattle.reg_forms.specs.Items.{Item}
use Rattle.reg_forms.specs.Options.{block_items, blocks_of, extension_words, supported_items}
use Rattle.reg_forms.proofs.ItemLemmas.{unless_bad-none}

-- an element that is no block
pub block_none : (api : List ℕ) (is_enum : List ℕ → Bool) (number : Option ℕ) (e : Element) → counts api e ≡ true → is_named (codes "require") e ≡ false → is_named (codes "remove") e ≡ false → block_items api is_enum number e ≡ []
block_none api is_enum number e counted required removed =
    cond-true (counts api e) _ [] counted ∙ cond-false (is_named (codes "require") e) _ _ required ∙ cond-false (is_named (codes "remove") e) _ [] removed

-- an extension in which nothing is bad, put in as an option with its blocks behind it
pub supported_put : (api : List ℕ) (is_enum : List ℕ → Bool) (e : Element) (forms put : Forms) (words : List (List ℕ)) (place : ℕ) (name : List ℕ) (depends : Option (List ℕ)) (number : Option ℕ) → words ≡ extension_words e → words ≡ [] → place ≡ e.place → name ≡ own_name e → depends ≡ value_of (codes "depends") e → number ≡ number_in (codes "number") e → put ≡ with_item forms (Item.offers place name None depends) → with_items put (blocks_of api is_enum number e) ≡ with_items forms (supported_items api is_enum e)
supported_put api is_enum e forms put words place name depends number read none there named told counted offered =
    ap (λ f. with_items f (blocks_of api is_enum number e)) offered
    ∙ ap (λ at. with_items forms (Item.offers at name None depends ∷ blocks_of api is_enum number e)) there
    ∙ ap (λ own. with_items forms (Item.offers e.place own None depends ∷ blocks_of api is_enum number e)) named
    ∙ ap (λ text. with_items forms (Item.offers e.place (own_name e) None text ∷ blocks_of api is_enum number e)) told
    ∙ ap (λ own. with_items forms (Item.offers e.place (own_name e) None (value_of (codes "depends") e) ∷ blocks_of api is_enum own e)) counted
    ∙ ap (with_items forms) (sym (unless_bad-none e (extension_words e) _ (sym read ∙ none)))

-- nothing stands behind the end of a text
pub behind-end : (text : List ℕ) (n : ℕ) → length text < n → [] ≡ drop n text
behind-end [] zero low = absurd (omega (arith, low))
behind-end [] (suc n) low = refl
behind-end (byte ∷ rest) zero low = absurd (omega (arith, low))
behind-end (byte ∷ rest) (suc n) low = behind-end rest n (omega (arith, low))
