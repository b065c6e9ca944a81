-- What features and extensions say fits into the size of their elements: an option, then blocks, and then the names in each.
use Rattle.std.proofs.Common.{◌≡◌, ℕ, suc, Bool, true, false, List, [], ◌∷◌, ◌++◌, Option, Some, None, cond, not, refl, arith}
use Rattle.std.specs.Prelude.{◌||◌, codes, is_none}
use Rattle.std.specs.List.{flat_map}
use Rattle.std.specs.Option.{option_map_or}
use Rattle.std.proofs.lemmas.Bool.{cond_both, true≢false}
use Rattle.reg_registry.specs.Words.{is_name}
use Rattle.reg_reader.specs.Views.{Element, content_size, element_size, elements_in}
use Rattle.reg_forms.specs.declared.forms.RowCode.TheVariants.{ApiType}
use Rattle.reg_forms.specs.declared.forms.Sort.{Sort}
use Rattle.reg_forms.specs.declared.forms.Sort.TheVariants as sort
use Rattle.reg_forms.specs.Attributes.{counts, has, is_bad_number, is_named, lists, name_in, name_of, value_of, word_if}
use Rattle.reg_forms.specs.Enums.{enum_items, number_in, own_name, role_in_block}
use Rattle.reg_forms.specs.Items.{Item, bad_at, wrong_at}
use Rattle.reg_forms.specs.Options.{block_items, blocks_of, extension_items, extension_words, feature_items, feature_words, is_bad_name, is_option_name, is_taken, named_entry, removed_items, required_items, supported_items, version_of}
use Rattle.reg_forms.proofs.DeclarationSizeLemmas.{fits-if}
use Rattle.reg_forms.proofs.EnumSizeLemmas.{fits-lists, listed-fits, own-short, word-none, words-none}
use Rattle.reg_forms.proofs.ItemSizeLemmas.{Fits, fits-append, fits-each, fits-offers, fits-opens, fits-unless, fits-wrong}
use Rattle.reg_forms.proofs.TextSizeLemmas.{IsShortName, value-short}

-- behind a block
module _ (options blocks : ℕ) (api : List ℕ) where
  entry-fits : (sort : Sort) (e : Element) → Fits (element_size e) options (suc blocks) (named_entry api sort e)
  entry-fits sort e =
      fits-if options (suc blocks) (element_size e) (counts api e) _
      (fits-unless options (suc blocks) (element_size e) e (word_if (is_none (name_of e)) (codes "name")) _ (λ none. fits-lists options blocks e _))

  required-fits : (is_enum : List ℕ → Bool) (number : Option ℕ) (e : Element) → Fits (element_size e) options (suc blocks) (required_items api is_enum number e)
  required-fits is_enum number e =
      cond_both (is_named (codes "type") e) (named_entry api sort.Type e) _ (Fits (element_size e) options (suc blocks)) (λ _. entry-fits sort.Type e)
      (λ _. cond_both (is_named (codes "command") e) (named_entry api sort.Command e) _ (Fits (element_size e) options (suc blocks)) (λ _. entry-fits sort.Command e)
      (λ _. fits-if options (suc blocks) (element_size e) (is_named (codes "enum") e) (enum_items api is_enum (role_in_block is_enum e) number e)
      (listed-fits options blocks e api is_enum (role_in_block is_enum e) number)))

  removed-fits : (e : Element) → Fits (element_size e) options (suc blocks) (removed_items api e)
  removed-fits e =
      cond_both (is_named (codes "type") e) (named_entry api sort.Type e) _ (Fits (element_size e) options (suc blocks)) (λ _. entry-fits sort.Type e)
      (λ _. cond_both (is_named (codes "command") e) (named_entry api sort.Command e) _ (Fits (element_size e) options (suc blocks)) (λ _. entry-fits sort.Command e)
      (λ _. fits-if options (suc blocks) (element_size e) (is_named (codes "enum") e) (named_entry api sort.Value e) (entry-fits sort.Value e)))

-- the name of an option is a name
named-some : (test : List ℕ → Bool) (o : Option (List ℕ)) → option_map_or test o true ≡ false → is_none o ≡ false
named-some test None good = good
named-some test (Some name) good = refl

set-not : (b : Bool) → not b ≡ false → b ≡ true
set-not true same = refl
set-not false same = absurd (true≢false same)

plain-if : (b : Bool) (name : List ℕ) → option_map_or (λ n. not (is_option_name n)) (cond b (Some name) None) true ≡ false → is_option_name name ≡ true
plain-if true name good = set-not (is_option_name name) good
plain-if false name good = absurd (true≢false good)

plain-value : (o : Option (List ℕ)) → option_map_or (λ n. not (is_option_name n)) (name_in o) true ≡ false → is_option_name (option_map_or (λ value. value) o []) ≡ true
plain-value None good = absurd (true≢false good)
plain-value (Some name) good = plain-if (is_name name) name good

-- an option whose name isn't bad has no colon in it
option-plain : (e : Element) → is_bad_name e ≡ false → is_option_name (own_name e) ≡ true
option-plain e good = plain-value (value_of (codes "name") e) good

option-named : (e : Element) → is_bad_name e ≡ false → IsShortName (element_size e) (own_name e)
option-named e good = own-short e (named-some (λ name. not (is_option_name name)) (name_of e) good)

module _ (options blocks : ℕ) (api : List ℕ) (is_enum : List ℕ → Bool) where
  block-fits : (number : Option ℕ) (e : Element) → Fits (element_size e) (suc options) blocks (block_items api is_enum number e)
  block-fits number e =
      fits-if (suc options) blocks (element_size e) (counts api e) _
      (cond_both (is_named (codes "require") e) (Item.opens e.place true (value_of (codes "depends") e) ∷ flat_map (required_items api is_enum number) (elements_in e.content)) _ (Fits (element_size e) (suc options) blocks)
      (λ _. fits-opens (content_size e.content) (element_size e) options blocks e.place true (value_of (codes "depends") e) _ (omega arith) (value-short (codes "depends") e)
      (fits-each (suc options) (suc blocks) (required_items api is_enum number) (required-fits (suc options) blocks api is_enum number) e.content))
      (λ _. fits-if (suc options) blocks (element_size e) (is_named (codes "remove") e) (Item.opens e.place false (value_of (codes "depends") e) ∷ flat_map (removed_items api) (elements_in e.content))
      (fits-opens (content_size e.content) (element_size e) options blocks e.place false (value_of (codes "depends") e) _ (omega arith) (value-short (codes "depends") e)
      (fits-each (suc options) (suc blocks) (removed_items api) (removed-fits (suc options) blocks api) e.content))))

  blocks-fit : (number : Option ℕ) (e : Element) → Fits (content_size e.content) (suc options) blocks (blocks_of api is_enum number e)
  blocks-fit number e = fits-each (suc options) blocks (block_items api is_enum number) (block-fits number) e.content

  pub feature-fits : (earlier : List (ℕ × ℕ)) (e : Element) → Fits (element_size e) options blocks (feature_items api is_enum earlier e)
  feature-fits earlier e =
      let mark : List Item = cond (has (codes "apitype") e) (wrong_at ApiType e (own_name e) ∷ []) [] in
      let offered : List Item = Item.offers e.place (own_name e) (version_of e) None ∷ blocks_of api is_enum None e in
      fits-unless options blocks (element_size e) e (feature_words earlier e) (mark ++ offered)
      (λ none. let good : is_bad_name e ≡ false = word-none (is_bad_name e) (codes "name") (words-none (word_if (is_bad_name e) (codes "name")) (word_if (is_taken earlier e) (codes "number")) none).0 in
      fits-append options blocks 0 (element_size e) (element_size e) mark offered (omega arith)
      (fits-if options blocks 0 (has (codes "apitype") e) (wrong_at ApiType e (own_name e) ∷ []) (fits-wrong options blocks 0 _))
      (fits-offers (content_size e.content) (element_size e) options blocks e.place (own_name e) (version_of e) None (blocks_of api is_enum None e) (omega arith) ((option-named e good).0, option-plain e good) tt (blocks-fit None e)))

  supported-fits : (e : Element) → Fits (element_size e) options blocks (supported_items api is_enum e)
  supported-fits e =
      let numbered : Bool = is_bad_number (codes "number") e || not (has (codes "number") e) in
      fits-unless options blocks (element_size e) e (extension_words e) _
      (λ none. let good : is_bad_name e ≡ false = word-none (is_bad_name e) (codes "name") (words-none (word_if (is_bad_name e) (codes "name")) (word_if numbered (codes "number")) none).0 in
      fits-offers (content_size e.content) (element_size e) options blocks e.place (own_name e) None (value_of (codes "depends") e) (blocks_of api is_enum (number_in (codes "number") e) e) (omega arith) ((option-named e good).0, option-plain e good) (value-short (codes "depends") e) (blocks-fit (number_in (codes "number") e) e))

  pub extension-fits : (e : Element) → Fits (element_size e) options blocks (extension_items api is_enum e)
  extension-fits e =
      cond_both (not (has (codes "supported") e)) (bad_at e (codes "supported") ∷ []) _ (Fits (element_size e) options blocks) (λ _. fits-wrong options blocks (element_size e) _)
      (λ _. fits-if options blocks (element_size e) (lists (codes "supported") api e) (supported_items api is_enum e) (supported-fits e))
