-- What elements say, put in piece by piece.
use Rattle.std.proofs.Common.{◌≡◌, ℕ, List, [], ◌∷◌, ◌++◌, Bool, true, false, map, filter, refl, sym, ap, ◌∙◌}
use Rattle.std.specs.List.{flat_map}
use Rattle.std.proofs.lemmas.Bool.{cond-true, cond-false}
use Rattle.std.proofs.lemmas.List.{map-append}
use Rattle.reg_reader.specs.Views.{Element}
use Rattle.reg_forms.specs.declared.forms.Forms.{Forms}
use Rattle.reg_forms.specs.Forms.{with_item, with_items}
use Rattle.reg_forms.specs.Items.{Item, bad_at, unless_bad}

-- what is said before, and what is said behind it
pub with_items-append : (forms : Forms) (xs ys : List Item) → with_items forms (xs ++ ys) ≡ with_items (with_items forms xs) ys
with_items-append forms [] ys = refl
with_items-append forms (x ∷ xs) ys = with_items-append (with_item forms x) xs ys

-- one thing more behind the rest
pub with_items-push : (forms : Forms) (xs : List Item) (x : Item) → with_items forms (xs ++ x ∷ []) ≡ with_item (with_items forms xs) x
with_items-push forms xs x = with_items-append forms xs (x ∷ [])

-- a call that puts in `xs`, and one after it that puts in `ys`
pub with_both : (old middle now : Forms) (xs ys : List Item) → middle ≡ with_items old xs → now ≡ with_items middle ys → now ≡ with_items old (xs ++ ys)
with_both old middle now xs ys first second = second ∙ ap (λ f. with_items f ys) first ∙ sym (with_items-append old xs ys)

-- things are put in one by one, each said by a word or the like
pub put_mapped : {A : Type 0} (say : A → Item) (old before now : Forms) (xs : List A) (x : A) → before ≡ with_items old (map say xs) → now ≡ with_item before (say x) → now ≡ with_items old (map say (xs ++ x ∷ []))
put_mapped say old before now xs x so_far put =
    put ∙ ap (λ f. with_item f (say x)) so_far ∙ sym (with_items-push old (map say xs) (say x)) ∙ ap (with_items old) (sym (map-append say xs (x ∷ [])))

-- the first element that is ahead counts
pub flat_map-counted : {A B : Type 0} (f : A → List B) (test : A → Bool) (x : A) (xs : List A) → test x ≡ true → flat_map f (filter test (x ∷ xs)) ≡ f x ++ flat_map f (filter test xs)
flat_map-counted f test x xs is_so = ap (flat_map f) (cond-true (test x) (x ∷ filter test xs) (filter test xs) is_so)

-- the first element that is ahead is passed over
pub flat_map-passed : {A B : Type 0} (f : A → List B) (test : A → Bool) (x : A) (xs : List A) → test x ≡ false → flat_map f (filter test (x ∷ xs)) ≡ flat_map f (filter test xs)
flat_map-passed f test x xs not_so = ap (flat_map f) (cond-false (test x) (x ∷ filter test xs) (filter test xs) not_so)

-- A loop over elements: what is ahead, put behind what is there, is all. The first element says `said`, and the rest `ahead`.
pub put_step : (before now whole : Forms) (said ahead all : List Item) → all ≡ said ++ ahead → now ≡ with_items before said → with_items before all ≡ whole → with_items now ahead ≡ whole
put_step before now whole said ahead all cut put so_far =
    ap (λ f. with_items f ahead) put ∙ sym (with_items-append before said ahead) ∙ ap (with_items before) (sym cut) ∙ so_far

-- The step over an element that counts. `old` is what was ahead before it.
pub put_counted : (say : Element → List Item) (test : Element → Bool) (before now whole : Forms) (e : Element) (old ahead : List Element) → old ≡ e ∷ ahead → test e ≡ true → now ≡ with_items before (say e) → with_items before (flat_map say (filter test old)) ≡ whole → with_items now (flat_map say (filter test ahead)) ≡ whole
put_counted say test before now whole e old ahead first is_so put so_far =
    put_step before now whole (say e) (flat_map say (filter test ahead)) (flat_map say (filter test old))
    (ap (λ es. flat_map say (filter test es)) first ∙ flat_map-counted say test e ahead is_so)
    put
    so_far

-- the step over an element that doesn't count
pub put_passed : (say : Element → List Item) (test : Element → Bool) (before whole : Forms) (e : Element) (old ahead : List Element) → old ≡ e ∷ ahead → test e ≡ false → with_items before (flat_map say (filter test old)) ≡ whole → with_items before (flat_map say (filter test ahead)) ≡ whole
put_passed say test before whole e old ahead first not_so so_far =
    ap (with_items before) (sym (ap (λ es. flat_map say (filter test es)) first ∙ flat_map-passed say test e ahead not_so)) ∙ so_far

-- the step over an element where each counts
pub put_each : (say : Element → List Item) (before now whole : Forms) (e : Element) (old ahead : List Element) → old ≡ e ∷ ahead → now ≡ with_items before (say e) → with_items before (flat_map say old) ≡ whole → with_items now (flat_map say ahead) ≡ whole
put_each say before now whole e old ahead first put so_far =
    put_step before now whole (say e) (flat_map say ahead) (flat_map say old) (ap (flat_map say) first) put so_far

-- nothing bad is told of
pub unless_bad-none : (e : Element) (words : List (List ℕ)) (items : List Item) → words ≡ [] → unless_bad e words items ≡ items
unless_bad-none e words items none = ap (λ ws. unless_bad e ws items) none

-- something bad is told of, and nothing else is said
pub unless_bad-some : (e : Element) (words : List (List ℕ)) (items : List Item) → (words ≡ [] → ⊥) → unless_bad e words items ≡ map (bad_at e) words
unless_bad-some e [] items some = absurd (some refl)
unless_bad-some e (word ∷ words) items some = refl
