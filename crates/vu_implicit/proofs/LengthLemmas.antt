-- What a loop over members puts into a table of names.
use Rattle.std.proofs.Common.{◌≡◌, ℕ, ◌+◌, ◌<◌, Bool, true, false, not, ◌&&◌, ◌||◌, cond, List, [], ◌∷◌, ◌++◌, length, take, get_or, Option, Some, None, is_some, option_map, refl, sym, ap, ◌∙◌}
use Rattle.std.specs.List.{list_any}
use Rattle.std.specs.Str.{bytes_eq}
use Rattle.std.specs.Cmp.Lexicographic.{bytes_decides}
use Rattle.std.proofs.Math.Bool.{or-false}
use Rattle.std.proofs.lemmas.List.Folds.{list_any_more}
use Rattle.vkb_formula.specs.Names.{place_of, with_name}
use Rattle.reg_registry.specs.declared.registry.Member.{Member}
use Rattle.vu_implicit.specs.Pointers.{has_length}

raised : (b c : Bool) (o p : Option ℕ) → is_some p ≡ (is_some o || c) → is_some (cond b (Some 0) (option_map (λ k. k + 1) p)) ≡ (is_some (cond b (Some 0) (option_map (λ k. k + 1) o)) || c)
raised true c o p e = refl
raised false c None None e = e
raised false c None (Some j) e = e
raised false c (Some k) None e = e
raised false c (Some k) (Some j) e = e

alone : (b : Bool) → is_some (cond b (Some 0) (option_map (λ k. k + 1) None)) ≡ b
alone true = refl
alone false = refl

-- whether a name is in a table where another was put last
push-has : (name last : List ℕ) (names : List (List ℕ)) → is_some (place_of name (names ++ last ∷ [])) ≡ (is_some (place_of name names) || bytes_eq name last)
push-has name last [] = alone (bytes_eq name last)
push-has name last (first ∷ names) = raised (bytes_eq name first) (bytes_eq name last) (place_of name names) (place_of name (names ++ last ∷ [])) (push-has name last names)

with_name-cases : (known : Bool) (last name : List ℕ) (table : List (List ℕ)) → is_some (place_of last table) ≡ known → (same : Bool) → bytes_eq name last ≡ same
    → is_some (place_of name (cond known table (table ++ last ∷ []))) ≡ (is_some (place_of name table) || same)
with_name-cases false last name table k same s = push-has name last table ∙ ap (λ (b : Bool). is_some (place_of name table) || b) s
with_name-cases true last name table k true s =
    let there : is_some (place_of name table) ≡ true = ap (λ n. is_some (place_of n table)) ((bytes_decides name last).0 s) ∙ k in
    there ∙ sym (ap (λ (b : Bool). b || true) there)
with_name-cases true last name table k false s = sym (or-false (is_some (place_of name table)))

-- a name is in a table that another was put into
with_name-has : (last name : List ℕ) (table : List (List ℕ)) → is_some (place_of name (with_name last table)) ≡ (is_some (place_of name table) || bytes_eq name last)
with_name-has last name table = with_name-cases (is_some (place_of last table)) last name table refl (bytes_eq name last) refl

module _ (text_of : Member → List ℕ) (passes : Member → Bool) (members : List Member) where
  module _ (i : ℕ) (m : Member) (h : i < length members) (is : m ≡ get_or members i m) (name : List ℕ) where
    one_more : (passed : Bool) → passes m ≡ passed
        → list_any (λ m. passes m && bytes_eq name (text_of m)) (take (i + 1) members)
        ≡ (list_any (λ m. passes m && bytes_eq name (text_of m)) (take i members) || (passed && bytes_eq name (text_of m)))
    one_more passed p =
        list_any_more (λ m. passes m && bytes_eq name (text_of m)) members i m h
        ∙ ap (λ (b : Bool). list_any (λ m. passes m && bytes_eq name (text_of m)) (take i members) || b)
        (ap (λ m. passes m && bytes_eq name (text_of m)) (sym is) ∙ ap (λ (b : Bool). b && bytes_eq name (text_of m)) p)

    -- a member that passes was put in
    pub passed-more : (table : List (List ℕ)) → is_some (place_of name table) ≡ list_any (λ m. passes m && bytes_eq name (text_of m)) (take i members) → passes m ≡ true
        → is_some (place_of name (with_name (text_of m) table)) ≡ list_any (λ m. passes m && bytes_eq name (text_of m)) (take (i + 1) members)
    passed-more table e p =
        with_name-has (text_of m) name table ∙ ap (λ (b : Bool). b || bytes_eq name (text_of m)) e ∙ sym (one_more true p)

    -- a member that doesn't pass was left out
    pub failed-more : (b : Bool) → b ≡ list_any (λ m. passes m && bytes_eq name (text_of m)) (take i members) → passes m ≡ false
        → b ≡ list_any (λ m. passes m && bytes_eq name (text_of m)) (take (i + 1) members)
    failed-more b e p = e ∙ sym (or-false (list_any (λ m. passes m && bytes_eq name (text_of m)) (take i members))) ∙ sym (one_more false p)

own-one : (len own name : List ℕ) → len ≡ own → (b : Bool) → bytes_eq len name ≡ b → (b && not (bytes_eq own name)) ≡ false
own-one len own name e false b = refl
own-one len own name e true b = ap (λ (c : Bool). not c) (ap (λ (x : List ℕ). bytes_eq x name) (sym e) ∙ b)

own-has : (len own : List ℕ) (members : List Member) → len ≡ own → list_any (λ o. bytes_eq len o.name && not (bytes_eq own o.name)) members ≡ false
own-has len own [] e = refl
own-has len own (m ∷ members) e =
    ap (λ (b : Bool). b || list_any (λ o. bytes_eq len o.name && not (bytes_eq own o.name)) members) (own-one len own m.name e (bytes_eq len m.name) refl)
    ∙ own-has len own members e

same-by : (len own : List ℕ) (b : Bool) → bytes_eq len own ≡ b → not b ≡ false → len ≡ own
same-by len own true e f = (bytes_decides len own).0 e
same-by len own false e f = absurd (cc)

-- no other member has the member's own name
pub none-has : (m : Member) (members : List Member) → not (bytes_eq m.len m.name) ≡ false → has_length members m ≡ false
none-has m members e = own-has m.len m.name members (same-by m.len m.name (bytes_eq m.len m.name) refl e)
