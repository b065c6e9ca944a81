-- What enumerants, constants and their blocks say fits into the size of their elements.
use Rattle.std.proofs.Common.{◌≡◌, ℕ, suc, ◌+◌, ◌≤◌, Bool, true, false, List, [], ◌∷◌, ◌++◌, Option, Some, None, cond, not, refl, arith}
use Rattle.std.specs.Prelude.{codes, is_none, is_some}
use Rattle.std.specs.Option.{option_map_or}
use Rattle.std.specs.Str.{bytes_eq}
use Rattle.std.proofs.lemmas.Bool.{cond_both, true≢false}
use Rattle.std.proofs.lemmas.List.Elements.{All-cons, All-nil}
use Rattle.std.proofs.lemmas.List.Sums.{sum_by-cons}
use Rattle.reg_registry.specs.Words.{is_name}
use Rattle.reg_reader.specs.Views.{Element, content_size, element_size}
use Rattle.reg_forms.specs.declared.enum_attributes.Role.{Role}
use Rattle.reg_forms.specs.declared.enum_attributes.Role.TheVariants as standing
use Rattle.reg_forms.specs.declared.forms.Given.{Given}
use Rattle.reg_forms.specs.declared.forms.Mention.{Mention}
use Rattle.reg_forms.specs.declared.forms.RowCode.TheVariants.{UnknownName}
use Rattle.reg_forms.specs.declared.forms.Sort.TheVariants as sort
use Rattle.reg_forms.specs.Attributes.{counts, name_in, name_of, value_of, word_if}
use Rattle.reg_forms.specs.Enums.{constant_row, entry_of, enum_items, enum_row, enum_words, enums_items, given_of, group_items, group_words, grouped_items, is_bad_offset, is_bad_value, is_lost, named_group, own_name, role_items, strays}
use Rattle.reg_forms.specs.Items.{Item, bad_at, wrong_at}
use Rattle.reg_forms.specs.Sizes.{IsSmallDeclaration}
use Rattle.reg_forms.proofs.DeclarationSizeLemmas.{fits-declares, fits-if}
use Rattle.reg_forms.proofs.ItemSizeLemmas.{Fits, IsCount, IsOrdered, IsSmallItem, fits-append, fits-groups, fits-kept, fits-none, fits-unless, fits-wrong}
use Rattle.reg_forms.proofs.MentionSizeLemmas.{alias-few}
use Rattle.reg_forms.proofs.TextSizeLemmas.{IsShortName, value_or_empty-short}

-- no word is told of
pub word-none : (test : Bool) (word : List ℕ) → word_if test word ≡ [] → test ≡ false
word-none true word none = cc
word-none false word none = refl

pub words-none : (xs ys : List (List ℕ)) → xs ++ ys ≡ [] → (xs ≡ []) × (ys ≡ [])
words-none [] ys none = (refl, none)
words-none (x ∷ xs) ys none = absurd (let never : ⊥ = cc in never)

taken-name : (b : Bool) (text : List ℕ) → is_none (cond b (Some text) None) ≡ false → b ≡ true
taken-name true text some = refl
taken-name false text some = absurd (true≢false some)

value-named : (o : Option (List ℕ)) → is_none (name_in o) ≡ false → is_name (option_map_or (λ value. value) o []) ≡ true
value-named None some = absurd (true≢false some)
value-named (Some text) some = taken-name (is_name text) text some

-- an element that isn't without a name
pub own-short : (e : Element) → is_none (name_of e) ≡ false → IsShortName (element_size e) (own_name e)
own-short e some = (value-named (value_of (codes "name") e) some, value_or_empty-short (codes "name") e)

words-named : (role : Role) (number : Option ℕ) (e : Element) → enum_words role number e ≡ [] → is_none (name_of e) ≡ false
words-named role number e none =
    let value = words-none _ (word_if (is_bad_value role e) (codes "value")) none in
    let offset = words-none _ (word_if (is_bad_offset role number e) (codes "offset")) value.0 in
    let name = words-none _ (word_if (is_none (name_of e)) (codes "name")) offset.0 in
    word-none (is_none (name_of e)) (codes "name") name.1

constant-small : (e : Element) → IsShortName (element_size e) (own_name e) → IsSmallDeclaration (element_size e) (constant_row e)
constant-small e short = record {
  named = short.0;
  name = short.1;
  text = value_or_empty-short (codes "value") e;
  result = omega arith;
  extends = omega arith;
  members = omega arith;
  each_member = All-nil _;
  mentions = alias-few sort.Constant e;
}

module _ (options blocks : ℕ) (e : Element) where
  pub fits-one : (item : Item) → ((count : Item → ℕ) → IsCount count → count item ≤ 1) → IsSmallItem (element_size e) item → IsOrdered options blocks (item ∷ []) → Fits (element_size e) options blocks (item ∷ [])
  fits-one item once small ordered = record {
    few = λ count is. omega (arith, once count is, sum_by-cons count item []);
    small = All-cons (IsSmallItem (element_size e)) item [] small (All-nil (IsSmallItem (element_size e)));
    ordered = ordered;
  }

  fits-both : (item other : Item) → ((count : Item → ℕ) → IsCount count → count item + count other ≤ 1) → IsSmallItem (element_size e) item → IsSmallItem (element_size e) other → IsOrdered options blocks (item ∷ other ∷ []) → Fits (element_size e) options blocks (item ∷ other ∷ [])
  fits-both item other once small also ordered = record {
    few = λ count is. omega (arith, once count is, sum_by-cons count item (other ∷ []), sum_by-cons count other []);
    small = All-cons (IsSmallItem (element_size e)) item (other ∷ []) small (All-cons (IsSmallItem (element_size e)) other [] also (All-nil (IsSmallItem (element_size e))));
    ordered = ordered;
  }

  strays-fit : (is_enum : List ℕ → Bool) → Fits 0 options blocks (strays is_enum e)
  strays-fit is_enum = go (value_of (codes "extends") e)
    where
      go : (o : Option (List ℕ)) → Fits 0 options blocks (option_map_or (λ of. cond (is_enum of) [] (wrong_at UnknownName e of ∷ [])) o [])
      go None = fits-none options blocks 0
      go (Some of) = cond_both (is_enum of) [] (wrong_at UnknownName e of ∷ []) (Fits 0 options blocks) (λ _. fits-none options blocks 0) (λ _. fits-wrong options blocks 0 _)

  -- an `enum`, where what it says by where it stands fits
  pub enum-fits : (api : List ℕ) (is_enum : List ℕ → Bool) (role : Role) (number : Option ℕ) → (IsShortName (element_size e) (own_name e) → Fits (element_size e) options blocks (role_items role number e)) → Fits (element_size e) options blocks (enum_items api is_enum role number e)
  enum-fits api is_enum role number fits =
      fits-if options blocks (element_size e) (counts api e) _
      (fits-unless options blocks (element_size e) e (enum_words role number e) (strays is_enum e ++ role_items role number e)
      (λ none. fits-append options blocks 0 (element_size e) (element_size e) (strays is_enum e) (role_items role number e) (omega arith) (strays-fit is_enum) (fits (own-short e (words-named role number e none)))))

  numbers-fit : (of : List ℕ) (o : Option Given) → IsShortName (element_size e) (own_name e) → Fits (element_size e) options blocks (option_map_or (λ given. Item.numbers (enum_row of true e given) ∷ []) o [])
  numbers-fit of None short = fits-none options blocks (element_size e)
  numbers-fit of (Some given) short =
      fits-one (Item.numbers (enum_row of true e given)) (λ count is. omega (arith, is.numbers (enum_row of true e given) (record { place = 0; name = []; sort = sort.Value }))) short tt

  base-fits : (of : List ℕ) (number : Option ℕ) → IsShortName (element_size e) (own_name e) → Fits (element_size e) options blocks (role_items (standing.Base of) number e)
  base-fits of number short = numbers-fit of (given_of number e) short

  constant-fits : (number : Option ℕ) → IsShortName (element_size e) (own_name e) → Fits (element_size e) options blocks (role_items standing.Constant number e)
  constant-fits number short = fits-declares options blocks (element_size e) (constant_row e) (omega arith) (constant-small e short)

-- a name that a block before it lists
module _ (options blocks : ℕ) (e : Element) where
  pub fits-lists : (mention : Mention) → Fits (element_size e) options (suc blocks) (Item.lists mention ∷ [])
  fits-lists mention =
      fits-one options (suc blocks) e (Item.lists mention) (λ count is. omega (arith, is.declares (constant_row e) mention)) tt (omega arith, tt)

  extending-fits : (of : List ℕ) (o : Option Given) → IsShortName (element_size e) (own_name e) → Fits (element_size e) options (suc blocks) (option_map_or (λ given. Item.numbers (enum_row of false e given) ∷ []) o [] ++ entry_of e ∷ [])
  extending-fits of None short = fits-lists _
  extending-fits of (Some given) short =
      fits-both options (suc blocks) e (Item.numbers (enum_row of false e given)) (entry_of e) (λ count is. is.numbers (enum_row of false e given) _) short tt (omega arith, tt)

  plain-fits : (given : Bool) → IsShortName (element_size e) (own_name e) → Fits (element_size e) options (suc blocks) (cond given (Item.declares (constant_row e) ∷ []) [] ++ entry_of e ∷ [])
  plain-fits false short = fits-lists _
  plain-fits true short =
      fits-both options (suc blocks) e (Item.declares (constant_row e)) (entry_of e) (λ count is. is.declares (constant_row e) _) (constant-small e short) tt (omega arith, tt)

  astray-fits : (given : Bool) → Fits (element_size e) options (suc blocks) (cond given [] (entry_of e ∷ []))
  astray-fits true = fits-none options (suc blocks) (element_size e)
  astray-fits false = fits-lists _

  role-fits : (role : Role) (number : Option ℕ) → IsShortName (element_size e) (own_name e) → Fits (element_size e) options (suc blocks) (role_items role number e)
  role-fits (standing.Base of) number short = base-fits options (suc blocks) e of number short
  role-fits standing.Constant number short = constant-fits options (suc blocks) e number short
  role-fits standing.Lost number short = fits-none options (suc blocks) (element_size e)
  role-fits (standing.Extending of) number short = extending-fits of (given_of number e) short
  role-fits standing.Astray number short = astray-fits (is_some (given_of number e))
  role-fits standing.Plain number short = plain-fits (is_some (given_of number e)) short

  -- an `enum` behind a block of an option
  pub listed-fits : (api : List ℕ) (is_enum : List ℕ → Bool) (role : Role) (number : Option ℕ) → Fits (element_size e) options (suc blocks) (enum_items api is_enum role number e)
  listed-fits api is_enum role number = enum-fits options (suc blocks) e api is_enum role number (role-fits role number)

module _ (options blocks : ℕ) (api : List ℕ) (is_enum : List ℕ → Bool) where
  grouped-fits : (role : Role) → ((e : Element) → IsShortName (element_size e) (own_name e) → Fits (element_size e) options blocks (role_items role None e)) → (e : Element) → Fits (element_size e) options blocks (grouped_items api is_enum role e)
  grouped-fits role fits e =
      cond_both (is_lost is_enum role e) standing.Lost role (λ stands. Fits (element_size e) options blocks (enum_items api is_enum stands None e))
      (λ _. enum-fits options blocks e api is_enum standing.Lost None (λ short. fits-none options blocks (element_size e)))
      (λ _. enum-fits options blocks e api is_enum role None (fits e))

  group-fits : (name : List ℕ) (role : Role) (e : Element) → ((inner : Element) → IsShortName (element_size inner) (own_name inner) → Fits (element_size inner) options blocks (role_items role None inner)) → Fits (element_size e) options blocks (group_items api is_enum name role e)
  group-fits name role e fits =
      fits-unless options blocks (element_size e) e (group_words e) _
      (λ none. fits-groups (content_size e.content) (element_size e) options blocks _ _ (omega arith)
      (fits-kept options blocks (grouped_items api is_enum role) (grouped-fits role fits) _ e.content))

  named-fits : (e : Element) (name : List ℕ) → Fits (element_size e) options blocks (named_group api is_enum e name)
  named-fits e name =
      cond_both (bytes_eq name (codes "API Constants")) (group_items api is_enum name standing.Constant e) _ (Fits (element_size e) options blocks)
      (λ _. group-fits name standing.Constant e (λ inner. constant-fits options blocks inner None))
      (λ _. cond_both (not (is_name name)) (bad_at e (codes "name") ∷ []) _ (Fits (element_size e) options blocks) (λ _. fits-wrong options blocks (element_size e) _)
      (λ _. fits-if options blocks (element_size e) (is_enum name) (group_items api is_enum name (standing.Base name) e)
      (group-fits name (standing.Base name) e (λ inner. base-fits options blocks inner name None))))

  enums-fit-named : (e : Element) (o : Option (List ℕ)) → Fits (element_size e) options blocks (option_map_or (named_group api is_enum e) o (bad_at e (codes "name") ∷ []))
  enums-fit-named e None = fits-wrong options blocks (element_size e) _
  enums-fit-named e (Some name) = named-fits e name

  pub enums-fit : (e : Element) → Fits (element_size e) options blocks (enums_items api is_enum e)
  enums-fit e = enums-fit-named e (value_of (codes "name") e)
