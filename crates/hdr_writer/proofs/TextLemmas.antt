-- Texts that grow by one element of a list at a time.
use Rattle.std.proofs.Common.{◌≡◌, ◌∙◌, ◌++◌, ◌+◌, ◌<◌, ℕ, Bool, true, false, cond, List, [], ◌∷◌, length, get_or, map, take, sym, ap, append_assoc, arith}
use Rattle.std.proofs.lemmas.List.{append-nil, map-id, map_push, take_more}
use Rattle.std.proofs.lemmas.List.FromFn.{filter_of_map_range_with_len_more}
use Rattle.std.proofs.lemmas.List.Elements.{filter_more}
use Rattle.std.proofs.lemmas.List.Folds.{concat-append}
use Rattle.std.proofs.lemmas.Grind.{flat_map-append}
use Rattle.std.specs.List.{concat, filter, flat_map, range_with_len}

-- one part more of those that are joined
pub concat-more : {X : Type 0} (f : X → List ℕ) (xs : List X) (i : ℕ) (d : X) → i < length xs
    → concat (map f (take (i + 1) xs)) ≡ concat (map f (take i xs)) ++ f (get_or xs i d)
concat-more f xs i d h =
    ap (λ ys. concat (map f ys)) (take_more xs i d h) ∙ ap concat (map_push f (take i xs) (get_or xs i d))
    ∙ concat-append (map f (take i xs)) (f (get_or xs i d) ∷ []) ∙ ap (λ ys. concat (map f (take i xs)) ++ ys) (append-nil (f (get_or xs i d)))

pub part-more : {X : Type 0} (f : X → List ℕ) (old text new : List ℕ) (xs : List X) (i : ℕ) (d : X) → i < length xs
    → text ≡ old ++ concat (map f (take i xs)) → new ≡ text ++ f (get_or xs i d) → new ≡ old ++ concat (map f (take (i + 1) xs))
part-more f old text new xs i d h before after =
    let x : List ℕ = f (get_or xs i d) in
    after ∙ ap (λ t. t ++ x) before ∙ append_assoc old (concat (map f (take i xs))) x ∙ ap (λ t. old ++ t) (sym (concat-more f xs i d h))

-- five texts, one behind the other
pub texts-joined : (t0 t1 t2 t3 t4 t5 a b c d e : List ℕ) → t0 ≡ [] → t1 ≡ t0 ++ a → t2 ≡ t1 ++ b → t3 ≡ t2 ++ c → t4 ≡ t3 ++ d → t5 ≡ t4 ++ e
    → t5 ≡ a ++ b ++ (c ++ d) ++ e
texts-joined t0 t1 t2 t3 t4 t5 a b c d e e0 e1 e2 e3 e4 e5 =
    let first : t2 ≡ a ++ b = e2 ∙ ap (λ t. t ++ b) (e1 ∙ ap (λ t. t ++ a) e0) in
    e5 ∙ ap (λ t. t ++ e) (e4 ∙ ap (λ t. t ++ d) e3 ∙ append_assoc t2 c d ∙ ap (λ t. t ++ (c ++ d)) first)

-- one element more that passes
pub kept-more : {X : Type 0} (f : X → List ℕ) (p : X → Bool) (old text new : List ℕ) (xs : List X) (i : ℕ) (x : X) → i < length xs → x ≡ get_or xs i x
    → p x ≡ true → text ≡ old ++ flat_map f (filter p (take i xs)) → new ≡ text ++ f x → new ≡ old ++ flat_map f (filter p (take (i + 1) xs))
kept-more f p old text new xs i x h here passes before after =
    let kept : filter p (take (i + 1) xs) ≡ filter p (take i xs) ++ x ∷ [] =
    filter_more p xs i x h ∙ ap (λ y. filter p (take i xs) ++ cond (p y) (y ∷ []) []) (sym here) ∙ ap (λ b. filter p (take i xs) ++ cond b (x ∷ []) []) passes in
    let joined : flat_map f (filter p (take (i + 1) xs)) ≡ flat_map f (filter p (take i xs)) ++ f x =
    ap (flat_map f) kept ∙ flat_map-append f (filter p (take i xs)) (x ∷ []) ∙ ap (λ ys. flat_map f (filter p (take i xs)) ++ ys) (append-nil (f x)) in
    after ∙ ap (λ ys. ys ++ f x) before ∙ append_assoc old (flat_map f (filter p (take i xs))) (f x) ∙ ap (λ ys. old ++ ys) (sym joined)

-- one element more that doesn't
pub left-more : {X : Type 0} (f : X → List ℕ) (p : X → Bool) (old text : List ℕ) (xs : List X) (i : ℕ) (x : X) → i < length xs → x ≡ get_or xs i x
    → p x ≡ false → text ≡ old ++ flat_map f (filter p (take i xs)) → text ≡ old ++ flat_map f (filter p (take (i + 1) xs))
left-more f p old text xs i x h here fails before =
    let kept : filter p (take (i + 1) xs) ≡ filter p (take i xs) =
    filter_more p xs i x h ∙ ap (λ y. filter p (take i xs) ++ cond (p y) (y ∷ []) []) (sym here) ∙ ap (λ b. filter p (take i xs) ++ cond b (x ∷ []) []) fails
    ∙ append-nil (filter p (take i xs)) in
    before ∙ ap (λ ys. old ++ flat_map f ys) (sym kept)

-- one number more of those from 0 on
range-more : (p : ℕ → Bool) (n : ℕ) → filter p (range_with_len 0 (n + 1)) ≡ filter p (range_with_len 0 n) ++ cond (p n) (n ∷ []) []
range-more p n =
    ap (filter p) (sym (map-id (range_with_len 0 (n + 1)))) ∙ filter_of_map_range_with_len_more p (λ (x : ℕ). x) 0 n n (omega arith)
    ∙ ap (λ xs. filter p xs ++ cond (p n) (n ∷ []) []) (map-id (range_with_len 0 n))

pub number-kept : (f : ℕ → List ℕ) (p : ℕ → Bool) (old text new : List ℕ) (n : ℕ) → p n ≡ true → text ≡ old ++ flat_map f (filter p (range_with_len 0 n))
    → new ≡ text ++ f n → new ≡ old ++ flat_map f (filter p (range_with_len 0 (n + 1)))
number-kept f p old text new n passes before after =
    let all = filter p (range_with_len 0 n) in
    let joined : flat_map f (filter p (range_with_len 0 (n + 1))) ≡ flat_map f all ++ f n =
    ap (flat_map f) (range-more p n ∙ ap (λ b. all ++ cond b (n ∷ []) []) passes) ∙ flat_map-append f all (n ∷ [])
    ∙ ap (λ ys. flat_map f all ++ ys) (append-nil (f n)) in
    after ∙ ap (λ ys. ys ++ f n) before ∙ append_assoc old (flat_map f all) (f n) ∙ ap (λ ys. old ++ ys) (sym joined)

pub number-left : (f : ℕ → List ℕ) (p : ℕ → Bool) (old text : List ℕ) (n : ℕ) → p n ≡ false → text ≡ old ++ flat_map f (filter p (range_with_len 0 n))
    → text ≡ old ++ flat_map f (filter p (range_with_len 0 (n + 1)))
number-left f p old text n fails before =
    let all = filter p (range_with_len 0 n) in
    before ∙ ap (λ ys. old ++ flat_map f ys) (sym (range-more p n ∙ ap (λ b. all ++ cond b (n ∷ []) []) fails ∙ append-nil all))
