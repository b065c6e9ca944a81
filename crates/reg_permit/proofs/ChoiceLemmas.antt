-- The options that words name.
use Rattle.std.proofs.Common.{◌≡◌, ℕ, zero, suc, ◌+◌, ◌<◌, Bool, true, false, ◌||◌, List, [], ◌∷◌, ◌++◌, length, take, set, cond, get_or, replicate, Option, Some, None, slice_get, refl, sym, ap, ◌∙◌, arith}
use Rattle.std.specs.List.{find, list_any}
use Rattle.std.specs.Option.{is_none}
use Rattle.std.specs.Str.{bytes_eq}
use Rattle.std.proofs.lemmas.Bool.{false_from_ne_true}
use Rattle.std.proofs.lemmas.List.Folds.{list_any-append}
use Rattle.std.proofs.lemmas.List.{length-map, take_more}
use Rattle.std.proofs.lemmas.Option.{none-some, same_Some, slice_get-get_or}
use Rattle.std.proofs.lemmas.Slice.Eq.{bytes_eq-Decides}
use Rattle.vkb_formula.specs.Names.{AreDifferent, place_of}
use Rattle.reg_permit.specs.Choices.{chosen_by, unknown_in}

same-bytes : (xs ys : List ℕ) → bytes_eq xs ys ≡ true → xs ≡ ys
same-bytes xs ys e = (bytes_eq-Decides xs ys).0 e

itself : (xs : List ℕ) → bytes_eq xs xs ≡ true
itself xs = (bytes_eq-Decides xs xs).1 refl

any-push : (test : List ℕ → Bool) (ws : List (List ℕ)) (w : List ℕ) → list_any test (ws ++ w ∷ []) ≡ (list_any test ws || (test w || false))
any-push test ws w = list_any-append test ws (w ∷ [])

or-false : (x y : Bool) → y ≡ false → (x || (y || false)) ≡ x
or-false true y e = refl
or-false false y e = ap (λ (b : Bool). b || false) e

or-true : (x y : Bool) → y ≡ true → (x || (y || false)) ≡ true
or-true true y e = refl
or-true false y e = ap (λ (b : Bool). b || false) e

module _ (ws : List (List ℕ)) (w : List ℕ) where
  unnamed : (option : List ℕ) → (option ≡ w → ⊥) → list_any (bytes_eq option) (ws ++ w ∷ []) ≡ list_any (bytes_eq option) ws
  unnamed option n =
      any-push (bytes_eq option) ws w
      ∙ or-false (list_any (bytes_eq option) ws) (bytes_eq option w) (false_from_ne_true (bytes_eq option w) (λ e. n (same-bytes option w e)))

  named : (option : List ℕ) → option ≡ w → list_any (bytes_eq option) (ws ++ w ∷ []) ≡ true
  named option e =
      any-push (bytes_eq option) ws w
      ∙ or-true (list_any (bytes_eq option) ws) (bytes_eq option w) (ap (λ (x : List ℕ). bytes_eq option x) (sym e) ∙ itself option)

  others : (options : List (List ℕ)) → ((k : ℕ) → slice_get options k ≡ Some w → ⊥) → chosen_by options (ws ++ w ∷ []) ≡ chosen_by options ws
  others [] n = refl
  others (option ∷ options) n =
      ap (λ (b : Bool). b ∷ chosen_by options (ws ++ w ∷ [])) (unnamed option (λ e. n 0 (ap (λ (x : List ℕ). Some x) e)))
      ∙ ap (λ (bs : List Bool). list_any (bytes_eq option) ws ∷ bs) (others options (λ k. n (suc k)))

  rest-differ : (option : List ℕ) (options : List (List ℕ)) → AreDifferent (option ∷ options) → AreDifferent options
  rest-differ option options d i j name a b = omega (arith, d (suc i) (suc j) name a b)

  pub chosen-more : (options : List (List ℕ)) (place : ℕ) → AreDifferent options → slice_get options place ≡ Some w
      → set (chosen_by options ws) place true ≡ chosen_by options (ws ++ w ∷ [])
  chosen-more [] place d at = absurd (none-some w at)
  chosen-more (option ∷ options) zero d at =
      sym (ap (λ (b : Bool). b ∷ chosen_by options (ws ++ w ∷ [])) (named option (same_Some option w at))
      ∙ ap (λ (bs : List Bool). true ∷ bs) (others options (λ k e. let none : 0 ≡ suc k = d 0 (suc k) w at e in omega (arith, none))))
  chosen-more (option ∷ options) (suc place) d at =
      ap (λ (bs : List Bool). list_any (bytes_eq option) ws ∷ bs) (chosen-more options place (rest-differ option options d) at)
      ∙ ap (λ (b : Bool). b ∷ chosen_by options (ws ++ w ∷ []))
      (sym (unnamed option (λ e. let none : 0 ≡ suc place = d 0 (suc place) w (ap (λ (x : List ℕ). Some x) e) at in omega (arith, none))))

pub chosen-none : (options : List (List ℕ)) → replicate (length options) false ≡ chosen_by options []
chosen-none [] = refl
chosen-none (option ∷ options) = ap (λ (bs : List Bool). false ∷ bs) (chosen-none options)

module _ (test : List ℕ → Bool) where
  push-by : (b : Bool) (x : List ℕ) (old new : Option (List ℕ)) → cond b (Some x) old ≡ None → (old ≡ None → new ≡ None) → cond b (Some x) new ≡ None
  push-by true x old new e more = absurd (none-some x (sym e))
  push-by false x old new e more = more e

  pub find-push : (ws : List (List ℕ)) (w : List ℕ) → find test ws ≡ None → test w ≡ false → find test (ws ++ w ∷ []) ≡ None
  find-push [] w none e = ap (λ (b : Bool). cond b (Some w) None) e
  find-push (x ∷ ws) w none e = push-by (test x) x (find test ws) (find test (ws ++ w ∷ [])) none (λ n. find-push ws w n e)

  here-by : (b : Bool) (x w : List ℕ) (old new : Option (List ℕ)) → cond b (Some x) old ≡ None → (old ≡ None → new ≡ Some w) → cond b (Some x) new ≡ Some w
  here-by true x w old new e more = absurd (none-some x (sym e))
  here-by false x w old new e more = more e

  pub find-here : (ws : List (List ℕ)) (i : ℕ) (w : List ℕ) → slice_get ws i ≡ Some w → find test (take i ws) ≡ None → test w ≡ true → find test ws ≡ Some w
  find-here [] i w at none e = absurd (none-some w at)
  find-here (x ∷ ws) zero w at none e =
      let same : x ≡ w = same_Some x w at in
      ap (λ (b : Bool). cond b (Some x) (find test ws)) (ap test same ∙ e) ∙ ap (λ (y : List ℕ). Some y) same
  find-here (x ∷ ws) (suc i) w at none e = here-by (test x) x w (find test (take i ws)) (find test ws) none (λ n. find-here ws i w at n e)

-- the words one by one
module _ (options words : List (List ℕ)) (i : ℕ) (w : List ℕ) (l : i < length words) (at : w ≡ get_or words i w) where
  so-far : take (i + 1) words ≡ take i words ++ w ∷ []
  so-far = take_more words i w l ∙ ap (λ (x : List ℕ). take i words ++ x ∷ []) (sym at)

  here : slice_get words i ≡ Some w
  here = slice_get-get_or words i w l ∙ ap (λ (x : List ℕ). Some x) (sym at)

  pub known-more : (place : ℕ) → Some place ≡ place_of w options → unknown_in options (take i words) ≡ None → unknown_in options (take (i + 1) words) ≡ None
  known-more place e none =
      ap (unknown_in options) so-far
      ∙ find-push (λ word. is_none (place_of word options)) (take i words) w none (ap (λ (o : Option ℕ). is_none o) (sym e))

  pub named-more : (place : ℕ) (chosen : List Bool) → AreDifferent options → slice_get options place ≡ Some w → chosen ≡ chosen_by options (take i words)
      → set chosen place true ≡ chosen_by options (take (i + 1) words)
  named-more place chosen differ held e =
      ap (λ (bs : List Bool). set bs place true) e ∙ chosen-more (take i words) w options place differ held ∙ ap (chosen_by options) (sym so-far)

  pub unknown-here : None ≡ place_of w options → unknown_in options (take i words) ≡ None → unknown_in options words ≡ Some w
  unknown-here e none = find-here (λ word. is_none (place_of word options)) words i w here none (ap (λ (o : Option ℕ). is_none o) (sym e))

pub chosen-count : (options words : List (List ℕ)) → length (chosen_by options words) ≡ length options
chosen-count options words = length-map options (λ option. list_any (bytes_eq option) words)
