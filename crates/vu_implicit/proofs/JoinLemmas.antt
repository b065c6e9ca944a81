-- What is put behind a list, one piece after another.
use Rattle.std.proofs.Common.{◌≡◌, ℕ, ◌+◌, ◌<◌, List, [], ◌∷◌, ◌++◌, length, map, take, get_or, sym, ap, ◌∙◌, append_assoc}
use Rattle.std.specs.List.{flat_map}
use Rattle.std.proofs.lemmas.List.{flat_map_more, map_more, take_more}

-- two pieces are one
pub joined : {A : Type 0} (start middle end one two : List A) → middle ≡ start ++ one → end ≡ middle ++ two → end ≡ start ++ (one ++ two)
joined start middle end one two e f = f ∙ ap (λ (l : List _). l ++ two) e ∙ append_assoc start one two

module _ {X : Type 0} (xs : List X) (i : ℕ) (x : X) (h : i < length xs) (is : x ≡ get_or xs i x) where
  so_far : take i xs ++ x ∷ [] ≡ take (i + 1) xs
  so_far = ap (λ (y : X). take i xs ++ y ∷ []) is ∙ sym (take_more xs i x h)

  -- what is put for one more element
  pub flat-more : {A : Type 0} (f : X → List A) (start old new : List A) → old ≡ start ++ flat_map f (take i xs) → new ≡ old ++ f x
      → new ≡ start ++ flat_map f (take (i + 1) xs)
  flat-more f start old new e g =
      g ∙ ap (λ (l : List _). l ++ f x) e ∙ flat_map_more f start (take i xs) x ∙ ap (λ (l : List X). start ++ flat_map f l) so_far

-- one thing for one more element
pub map-more : {X A : Type 0} (f : X → A) (xs : List X) (i : ℕ) (d : X) (start old new : List A) → i < length xs → old ≡ start ++ map f (take i xs)
    → new ≡ old ++ f (get_or xs i d) ∷ [] → new ≡ start ++ map f (take (i + 1) xs)
map-more f xs i d start old new h e g =
    g ∙ ap (λ (l : List _). l ++ f (get_or xs i d) ∷ []) e ∙ append_assoc start (map f (take i xs)) (f (get_or xs i d) ∷ [])
    ∙ ap (λ (l : List _). start ++ l) (sym (map_more f xs i d h))
