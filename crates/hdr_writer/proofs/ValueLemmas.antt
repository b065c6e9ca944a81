-- The names at the ends of aliases, value by value.
use Rattle.std.proofs.Common.{◌≡◌, ◌∙◌, ◌++◌, ◌+◌, ◌<◌, ℕ, Bool, true, false, cond, ◌&&◌, ◌||◌, List, [], ◌∷◌, Option, Some, None, is_some, option_map, length, get_or, take, refl, sym, ap}
use Rattle.std.proofs.Math.Bool.{or-false, or-true}
use Rattle.std.proofs.lemmas.List.Folds.{list_any_more}
use Rattle.std.specs.Cmp.Lexicographic.{bytes_decides}
use Rattle.std.specs.List.{list_any}
use Rattle.std.specs.Option.{option_map_or}
use Rattle.vkb_formula.specs.Names.{is_same_name, place_of, with_name}
use Rattle.reg_registry.specs.declared.registry.Enumerant.{Enumerant}
use Rattle.hdr_writer.specs.Values.{ends_at, is_end, is_left}

is_some-cond : (b : Bool) (o : Option ℕ) → is_some (cond b (Some 0) (option_map (λ k. k + 1) o)) ≡ (b || is_some o)
is_some-cond true o = refl
is_some-cond false None = refl
is_some-cond false (Some k) = refl

regrouped : (a b c : Bool) → (a || (b || c)) ≡ ((a || b) || c)
regrouped true b c = refl
regrouped false b c = refl

-- a name is in a table with one more where it was there or is the new one
place_of-append : (other name : List ℕ) (names : List (List ℕ)) → is_some (place_of other (names ++ name ∷ [])) ≡ (is_some (place_of other names) || is_same_name other name)
place_of-append other name [] = is_some-cond (is_same_name other name) None ∙ or-false (is_same_name other name)
place_of-append other name (first ∷ names) =
    is_some-cond (is_same_name other first) (place_of other (names ++ name ∷ []))
    ∙ ap (λ b. is_same_name other first || b) (place_of-append other name names)
    ∙ regrouped (is_same_name other first) (is_some (place_of other names)) (is_same_name other name)
    ∙ ap (λ b. b || is_same_name other name) (sym (is_some-cond (is_same_name other first) (place_of other names)))

held-too : (other name : List ℕ) (names : List (List ℕ)) → is_some (place_of name names) ≡ true → (same : Bool) → is_same_name other name ≡ same
    → is_some (place_of other names) ≡ (is_some (place_of other names) || same)
held-too other name names held false e = sym (or-false (is_some (place_of other names)))
held-too other name names held true e =
    ap (λ n. is_some (place_of n names)) ((bytes_decides other name).0 e) ∙ held ∙ sym (or-true (is_some (place_of other names)))

with_name-at : (other name : List ℕ) (names : List (List ℕ)) (held : Bool) → is_some (place_of name names) ≡ held
    → is_some (place_of other (cond held names (names ++ name ∷ []))) ≡ (is_some (place_of other names) || is_same_name other name)
with_name-at other name names true e = held-too other name names e (is_same_name other name) refl
with_name-at other name names false e = place_of-append other name names

-- a name is in a table where it was there or was put in
place_of-with : (other name : List ℕ) (names : List (List ℕ)) → is_some (place_of other (with_name name names)) ≡ (is_some (place_of other names) || is_same_name other name)
place_of-with other name names = with_name-at other name names (is_some (place_of name names)) refl

-- one value more
end-more : (active : List Bool) (values : List Enumerant) (i : ℕ) (e : Enumerant) (name : List ℕ) → i < length values → e ≡ get_or values i e
    → is_end active (take (i + 1) values) name ≡ (is_end active (take i values) name || (is_left active e && ends_at name e))
end-more active values i e name h here =
    list_any_more (λ v. is_left active v && ends_at name v) values i e h
    ∙ ap (λ v. list_any (λ v. is_left active v && ends_at name v) (take i values) || (is_left active v && ends_at name v)) (sym here)

-- one alias more that is left
pub end-put : (active : List Bool) (values : List Enumerant) (i : ℕ) (e : Enumerant) (ends new : List (List ℕ)) (end : List ℕ) → i < length values → e ≡ get_or values i e
    → ((name : List ℕ) → is_some (place_of name ends) ≡ is_end active (take i values) name) → e.end ≡ Some end → is_left active e ≡ true → new ≡ with_name end ends
    → (name : List ℕ) → is_some (place_of name new) ≡ is_end active (take (i + 1) values) name
end-put active values i e ends new end h here before is left put name =
    ap (λ n. is_some (place_of name n)) put ∙ place_of-with name end ends ∙ ap (λ b. b || is_same_name name end) (before name)
    ∙ ap (λ o. is_end active (take i values) name || option_map_or (is_same_name name) o false) (sym is)
    ∙ ap (λ b. is_end active (take i values) name || (b && ends_at name e)) (sym left)
    ∙ sym (end-more active values i e name h here)

and-false : (b : Bool) → (b && false) ≡ false
and-false true = refl
and-false false = refl

not-more : (active : List Bool) (values : List Enumerant) (i : ℕ) (e : Enumerant) (ends : List (List ℕ)) → i < length values → e ≡ get_or values i e
    → ((name : List ℕ) → is_some (place_of name ends) ≡ is_end active (take i values) name) → ((name : List ℕ) → (is_left active e && ends_at name e) ≡ false)
    → (name : List ℕ) → is_some (place_of name ends) ≡ is_end active (take (i + 1) values) name
not-more active values i e ends h here before none name =
    before name ∙ sym (or-false (is_end active (take i values) name)) ∙ ap (λ b. is_end active (take i values) name || b) (sym (none name))
    ∙ sym (end-more active values i e name h here)

-- one value more that isn't left
pub end-gone : (active : List Bool) (values : List Enumerant) (i : ℕ) (e : Enumerant) (ends : List (List ℕ)) → i < length values → e ≡ get_or values i e
    → ((name : List ℕ) → is_some (place_of name ends) ≡ is_end active (take i values) name) → is_left active e ≡ false
    → (name : List ℕ) → is_some (place_of name ends) ≡ is_end active (take (i + 1) values) name
end-gone active values i e ends h here before gone = not-more active values i e ends h here before (λ name. ap (λ b. b && ends_at name e) gone)

-- one value more that is no alias
pub end-plain : (active : List Bool) (values : List Enumerant) (i : ℕ) (e : Enumerant) (ends : List (List ℕ)) → i < length values → e ≡ get_or values i e
    → ((name : List ℕ) → is_some (place_of name ends) ≡ is_end active (take i values) name) → e.end ≡ None
    → (name : List ℕ) → is_some (place_of name ends) ≡ is_end active (take (i + 1) values) name
end-plain active values i e ends h here before plain =
    not-more active values i e ends h here before
    (λ name. ap (λ o. is_left active e && option_map_or (is_same_name name) o false) plain ∙ and-false (is_left active e))
