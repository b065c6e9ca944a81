-- What is put behind a list or a text, one piece after another.
use Rattle.std.proofs.Common.{◌≡◌, ◌∙◌, ℕ, ◌+◌, ◌-◌, ◌<◌, List, [], ◌∷◌, ◌++◌, length, get_or, map, take, drop, sym, ap, arith}
use Rattle.std.specs.List.{concat}
use Rattle.std.proofs.lemmas.List.{append-nil, length-drop, map_push, take_all, take_more}
use Rattle.std.proofs.lemmas.List.Folds.{concat-append}

-- one part more of those that are joined
pub part-more : {X : Type 0} (f : X → List ℕ) (text new : List ℕ) (xs : List X) (i : ℕ) (d : X) → i < length xs
    → text ≡ concat (map f (take i xs)) → new ≡ text ++ f (get_or xs i d) → new ≡ concat (map f (take (i + 1) xs))
part-more f text new xs i d h before after =
    let x = f (get_or xs i d) in
    let more : concat (map f (take (i + 1) xs)) ≡ concat (map f (take i xs)) ++ x =
    ap (λ ys. concat (map f ys)) (take_more xs i d h) ∙ ap concat (map_push f (take i xs) (get_or xs i d))
    ∙ concat-append (map f (take i xs)) (x ∷ []) ∙ ap (λ ys. concat (map f (take i xs)) ++ ys) (append-nil x) in
    after ∙ ap (λ t. t ++ x) before ∙ sym more

-- what stands from a place on
pub rest-is : (xs : List ℕ) (at : ℕ) → take (length xs - at) (drop at xs) ≡ drop at xs
rest-is xs at = take_all (length xs - at) (drop at xs) (omega (arith, length-drop at xs))
