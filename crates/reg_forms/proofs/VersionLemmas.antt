-- No two features of a registry have one number: each is offered only where no feature before it has its number.
use Rattle.std.proofs.Common.{◌≡◌, ℕ, zero, suc, Bool, true, List, [], ◌∷◌, ◌++◌, map, slice_get, Option, Some, None, cond, refl, sym, ap, subst, ◌∙◌}
use Rattle.std.specs.Prelude.{◌==◌, codes, false}
use Rattle.std.specs.List.{flat_map, list_any}
use Rattle.std.specs.Option.{option_map_or, option_to_list}
use Rattle.std.proofs.lemmas.Bool.{and_from, both_ways, cond-true, cond_both, eq-eqb, or_from, or_left, or_parts, or_right, true≢false}
use Rattle.std.proofs.lemmas.Grind.{flat_map-append}
use Rattle.std.proofs.lemmas.List.{append-nil, append_assoc}
use Rattle.std.proofs.lemmas.List.Folds.{list_any-append}
use Rattle.std.proofs.lemmas.Option.{none-some, same_Some}
use Rattle.reg_reader.specs.Views.{Element, elements_in}
use Rattle.reg_forms.specs.declared.forms.Forms.{Forms}
use Rattle.reg_forms.specs.declared.forms.OptionForm.{OptionForm}
use Rattle.reg_forms.specs.declared.forms.RowCode.TheVariants.{ApiType}
use Rattle.reg_forms.specs.Attributes.{children, has, is_named, word_if}
use Rattle.reg_forms.specs.Declarations.{command_items, is_enum_type, type_items, type_rows}
use Rattle.reg_forms.specs.Enums.{enums_items, own_name}
use Rattle.reg_forms.specs.Forms.{child_items, children_items, forms_of, items_of, no_forms, tag_items, with_item, with_items, with_version}
use Rattle.reg_forms.specs.Items.{Item, bad_at, unless_bad, wrong_at}
use Rattle.reg_forms.specs.Options.{blocks_of, extension_items, feature_items, feature_words, is_bad_name, is_feature, is_same_version, is_taken, version_of}
use Rattle.reg_forms.specs.Sizes.{VersionsDiffer}
use Rattle.reg_forms.proofs.EnumSizeLemmas.{word-none, words-none}
use Rattle.reg_forms.proofs.SilentLemmas.{IsSilent, blocks-silent, command-silent, enums-silent, extension-silent, number_said, silent-bad, silent-each, silent-if, tag-silent, type-silent, versions_in}

same-version : (version : ℕ × ℕ) → is_same_version version version ≡ true
same-version version =
    and_from (version.0 == version.0) (version.1 == version.1) (eq-eqb version.0 version.0 refl) (eq-eqb version.1 version.1 refl)

-- these numbers have it
abbrev is_known : List (ℕ × ℕ) → ℕ × ℕ → Bool
is_known earlier version = list_any (is_same_version version) earlier

-- none of the numbers is one before it, nor one of some earlier ones
abbrev AreNew : List (ℕ × ℕ) → List (ℕ × ℕ) → Type 0
AreNew earlier [] = Unit {0}
AreNew earlier (version ∷ more) = (is_known earlier version ≡ false) × AreNew (earlier ++ version ∷ []) more

-- what is none of the later ones is none of the earlier ones
abbrev AreAmong : List (ℕ × ℕ) → List (ℕ × ℕ) → Type 0
AreAmong earlier later = (version : ℕ × ℕ) → is_known later version ≡ false → is_known earlier version ≡ false

among-more : (earlier more : List (ℕ × ℕ)) → AreAmong earlier (earlier ++ more)
among-more earlier more version new =
    (or_parts (is_known earlier version) (is_known more version) (sym (list_any-append (is_same_version version) earlier more) ∙ new)).0

among-push : (earlier later : List (ℕ × ℕ)) → AreAmong earlier later → (put : ℕ × ℕ) → AreAmong (earlier ++ put ∷ []) (later ++ put ∷ [])
among-push earlier later among put version new =
    let parts = or_parts (is_known later version) (is_known (put ∷ []) version) (sym (list_any-append (is_same_version version) later (put ∷ [])) ∙ new) in
    list_any-append (is_same_version version) earlier (put ∷ [])
    ∙ or_from (is_known earlier version) (is_known (put ∷ []) version) (among version parts.0) parts.1

new-less : (earlier later : List (ℕ × ℕ)) → AreAmong earlier later → (versions : List (ℕ × ℕ)) → AreNew later versions → AreNew earlier versions
new-less earlier later among [] new = tt
new-less earlier later among (version ∷ more) new =
    (among version new.0, new-less (earlier ++ version ∷ []) (later ++ version ∷ []) (among-push earlier later among version) more new.1)

-- behind these things only those numbers are new that are none of the later ones
abbrev Leads : List (ℕ × ℕ) → List (ℕ × ℕ) → List Item → Type 0
Leads earlier later items = (rest : List (ℕ × ℕ)) → AreNew later rest → AreNew earlier (versions_in items ++ rest)

silent-leads : (earlier later : List (ℕ × ℕ)) → AreAmong earlier later → (items : List Item) → IsSilent items → Leads earlier later items
silent-leads earlier later among items silent rest new =
    subst (λ versions. AreNew earlier (versions ++ rest)) (sym silent) (new-less earlier later among rest new)

-- a number that isn't taken
untaken-leads : (earlier : List (ℕ × ℕ)) (o : Option (ℕ × ℕ)) → option_map_or (λ version. is_known earlier version) o true ≡ false
    → (rest : List (ℕ × ℕ)) → AreNew (earlier ++ option_to_list o) rest → AreNew earlier ((option_to_list o ++ []) ++ rest)
untaken-leads earlier None untaken rest new = absurd (true≢false untaken)
untaken-leads earlier (Some version) untaken rest new = (untaken, new)

module _ (api : List ℕ) (is_enum : List ℕ → Bool) where
  among-later : (earlier : List (ℕ × ℕ)) (e : Element) → AreAmong earlier (with_version api earlier e)
  among-later earlier e =
      cond_both (is_feature api e) (earlier ++ option_to_list (version_of e)) earlier (AreAmong earlier)
      (λ _. among-more earlier (option_to_list (version_of e)))
      (λ _. λ version new. new)

  module _ (earlier : List (ℕ × ℕ)) (e : Element) where
    quiet : (items : List Item) → IsSilent items → Leads earlier (with_version api earlier e) items
    quiet = silent-leads earlier (with_version api earlier e) (among-later earlier e)

    -- what a feature says in which nothing is bad
    abbrev mark : List Item
    mark = cond (has (codes "apitype") e) (wrong_at ApiType e (own_name e) ∷ []) []

    abbrev offered : List Item
    offered = Item.offers e.place (own_name e) (version_of e) None ∷ blocks_of api is_enum None e

    offered-one : versions_in (mark ++ offered) ≡ option_to_list (version_of e) ++ []
    offered-one =
        flat_map-append number_said mark offered
        ∙ ap (λ versions. versions ++ versions_in offered) (silent-if (has (codes "apitype") e) (wrong_at ApiType e (own_name e) ∷ []) refl)
        ∙ ap (λ versions. option_to_list (version_of e) ++ versions) (blocks-silent api is_enum None e)

    offered-leads : is_feature api e ≡ true → is_taken earlier e ≡ false → Leads earlier (with_version api earlier e) (mark ++ offered)
    offered-leads feature untaken rest new =
        subst (λ versions. AreNew earlier (versions ++ rest)) (sym offered-one)
        (untaken-leads earlier (version_of e) untaken rest
        (subst (λ later. AreNew later rest) (cond-true (is_feature api e) (earlier ++ option_to_list (version_of e)) earlier feature) new))

    words-lead : is_feature api e ≡ true → (words : List (List ℕ)) → (words ≡ [] → is_taken earlier e ≡ false)
        → Leads earlier (with_version api earlier e) (unless_bad e words (mark ++ offered))
    words-lead feature [] untaken = offered-leads feature (untaken refl)
    words-lead feature (word ∷ words) untaken = quiet (map (bad_at e) (word ∷ words)) (silent-bad e (word ∷ words))

    feature-leads : is_feature api e ≡ true → Leads earlier (with_version api earlier e) (feature_items api is_enum earlier e)
    feature-leads feature =
        words-lead feature (feature_words earlier e)
        (λ none. word-none (is_taken earlier e) (codes "number")
        (words-none (word_if (is_bad_name e) (codes "name")) (word_if (is_taken earlier e) (codes "number")) none).1)

    -- what a child of the root says
    child-leads : Leads earlier (with_version api earlier e) (child_items api is_enum earlier e)
    child-leads =
        let Holds : List Item → Type 0 = Leads earlier (with_version api earlier e) in
        let tags : List Item = flat_map tag_items (children (codes "tag") e) in
        let types : List Item = flat_map (type_items api) (children (codes "type") e) in
        let commands : List Item = flat_map (command_items api) (children (codes "command") e) in
        let extensions : List Item = flat_map (extension_items api is_enum) (children (codes "extension") e) in
        cond_both (is_named (codes "tags") e) tags _ Holds (λ _. quiet tags (silent-each tag_items tag-silent (children (codes "tag") e)))
        (λ _. cond_both (is_named (codes "types") e) types _ Holds (λ _. quiet types (silent-each (type_items api) (type-silent api) (children (codes "type") e)))
        (λ _. cond_both (is_named (codes "enums") e) (enums_items api is_enum e) _ Holds (λ _. quiet (enums_items api is_enum e) (enums-silent api is_enum e))
        (λ _. cond_both (is_named (codes "commands") e) commands _ Holds
        (λ _. quiet commands (silent-each (command_items api) (command-silent api) (children (codes "command") e)))
        (λ _. cond_both (is_feature api e) (feature_items api is_enum earlier e) _ Holds feature-leads
        (λ _. quiet (cond (is_named (codes "extensions") e) extensions [])
        (silent-if (is_named (codes "extensions") e) extensions
        (silent-each (extension_items api is_enum) (extension-silent api is_enum) (children (codes "extension") e))))))))

  children-new : (es : List Element) (earlier : List (ℕ × ℕ)) → AreNew earlier (versions_in (children_items api is_enum earlier es))
  children-new [] earlier = tt
  children-new (e ∷ more) earlier =
      let later : List (ℕ × ℕ) = with_version api earlier e in
      subst (AreNew earlier) (sym (flat_map-append number_said (child_items api is_enum earlier e) (children_items api is_enum later more)))
      (child-leads earlier e (versions_in (children_items api is_enum later more)) (children-new more later))

items-new : (api : List ℕ) (root : Element) → AreNew [] (versions_in (items_of api root))
items-new api root =
    let is_enum : List ℕ → Bool = is_enum_type (type_rows api root) in
    cond_both (is_named (codes "registry") root) (children_items api is_enum [] (elements_in root.content)) (bad_at root (codes "registry") ∷ [])
    (λ items. AreNew [] (versions_in items)) (λ _. children-new api is_enum (elements_in root.content) []) (λ _. tt)

-- the numbers of features
abbrev versions_of : List OptionForm → List (ℕ × ℕ)
versions_of options = flat_map (λ o. option_to_list o.version) options

item-put : (f : Forms) (item : Item) → versions_of (with_item f item).options ≡ versions_of f.options ++ number_said item
item-put f (Item.offers place name version depends) =
    flat_map-append (λ (o : OptionForm). option_to_list o.version) f.options _
    ∙ ap (λ versions. versions_of f.options ++ versions) (append-nil (option_to_list version))
item-put f _ = sym (append-nil (versions_of f.options))

items-put : (items : List Item) (f : Forms) → versions_of (with_items f items).options ≡ versions_of f.options ++ versions_in items
items-put [] f = sym (append-nil (versions_of f.options))
items-put (item ∷ items) f =
    items-put items (with_item f item) ∙ ap (λ versions. versions ++ versions_in items) (item-put f item)
    ∙ append_assoc (versions_of f.options) (number_said item) (versions_in items)

-- with the first of some numbers, if there is one, among the earlier ones
behind : (o : Option (ℕ × ℕ)) (earlier rest : List (ℕ × ℕ)) → AreNew earlier (option_to_list o ++ rest) → AreNew earlier rest
behind None earlier rest new = new
behind (Some version) earlier rest new = new-less earlier (earlier ++ version ∷ []) (among-more earlier (version ∷ [])) rest new.1

-- the number of an option is none of the earlier ones
number-new : (options : List OptionForm) (earlier : List (ℕ × ℕ)) → AreNew earlier (versions_of options) → (place : ℕ) (o : OptionForm) (version : ℕ × ℕ)
    → slice_get options place ≡ Some o → o.version ≡ Some version → is_known earlier version ≡ false
number-new [] earlier new place o version here is = absurd (none-some o here)
number-new (first ∷ more) earlier new zero o version here is =
    let number : first.version ≡ Some version = ap (λ (o : OptionForm). o.version) (same_Some first o here) ∙ is in
    (subst (λ found. AreNew earlier (option_to_list found ++ versions_of more)) number new).0
number-new (first ∷ more) earlier new (suc place) o version here is = number-new more earlier (behind first.version earlier (versions_of more) new) place o version here is

-- the first of options has the number of none behind it
number-once : (first : OptionForm) (more : List OptionForm) (earlier : List (ℕ × ℕ)) → AreNew earlier (versions_of (first ∷ more)) → (o p : OptionForm) (version : ℕ × ℕ)
    → first ≡ o → o.version ≡ Some version → (place : ℕ) → slice_get more place ≡ Some p → p.version ≡ Some version → ⊥
number-once first more earlier new o p version same is place there also =
    let number : first.version ≡ Some version = ap (λ (o : OptionForm). o.version) same ∙ is in
    let rest = (subst (λ found. AreNew earlier (option_to_list found ++ versions_of more)) number new).1 in
    both_ways (is_known (earlier ++ version ∷ []) version) (number-new more (earlier ++ version ∷ []) rest place p version there also)
    (list_any-append (is_same_version version) earlier (version ∷ [])
    ∙ or_right (is_known earlier version) (is_known (version ∷ []) version) (or_left (is_same_version version version) false (same-version version)))

numbers-apart : (options : List OptionForm) (earlier : List (ℕ × ℕ)) → AreNew earlier (versions_of options) → (place other : ℕ) (o p : OptionForm) (version : ℕ × ℕ)
    → slice_get options place ≡ Some o → slice_get options other ≡ Some p → o.version ≡ Some version → p.version ≡ Some version → place ≡ other
numbers-apart [] earlier new place other o p version here there is also = absurd (none-some o here)
numbers-apart (first ∷ more) earlier new zero zero o p version here there is also = refl
numbers-apart (first ∷ more) earlier new zero (suc other) o p version here there is also =
    absurd (number-once first more earlier new o p version (same_Some first o here) is other there also)
numbers-apart (first ∷ more) earlier new (suc place) zero o p version here there is also =
    absurd (number-once first more earlier new p o version (same_Some first p there) also place here is)
numbers-apart (first ∷ more) earlier new (suc place) (suc other) o p version here there is also =
    ap suc (numbers-apart more earlier (behind first.version earlier (versions_of more) new) place other o p version here there is also)

-- no two features that a registry comes to have one number
pub versions-differ : (api : List ℕ) (root : Element) → VersionsDiffer (forms_of api root).options
versions-differ api root =
    numbers-apart (forms_of api root).options [] (subst (AreNew []) (sym (items-put (items_of api root) no_forms)) (items-new api root))
