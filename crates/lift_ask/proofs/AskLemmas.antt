-- Questions in two halves.
use Rattle.std.proofs.Common.{◌≡◌, ◌∙◌, refl, sym, ap, subst, ℕ, zero, suc, ◌+◌, ◌-◌, ◌<◌, ◌≤◌, Bool, List, [], ◌∷◌, ◌++◌, length, take, drop, All, Some, slice_get, arith}
use Rattle.std.proofs.lemmas.List.{length-drop, take-append-drop, take_all}
use Rattle.std.proofs.lemmas.List.Elements.{All-append}
use Rattle.std.proofs.lemmas.Option.{slice_get_within}
use Rattle.vkb_formula.specs.declared.pool.NodeId.{NodeId}
use Rattle.vkb_formula.specs.declared.pool.PoolNode.{PoolNode}
use Rattle.sat_ask.specs.declared.meeting.Met.{Met}
use Rattle.sat_ask.specs.Meeting.{AreNeverMet, IsFirstMet, IsTrueAt}

-- what stands at a place of a front stands there in all
pub get-front : {X : Type 0} (n : ℕ) (xs : List X) (i : ℕ) (x : X) → slice_get (take n xs) i ≡ Some x → slice_get xs i ≡ Some x
get-front zero xs i x at = absurd (omega (arith, slice_get_within (take 0 xs) i x at))
get-front (suc n) [] i x at = at
get-front (suc n) (y ∷ xs) zero x at = at
get-front (suc n) (y ∷ xs) (suc i) x at = get-front n xs i x at

take-front : {X : Type 0} (i n : ℕ) (xs : List X) → i ≤ n → take i (take n xs) ≡ take i xs
take-front zero n xs few = refl
take-front (suc i) zero xs few = absurd (omega (arith, few))
take-front (suc i) (suc n) [] few = refl
take-front {X = X} (suc i) (suc n) (x ∷ xs) few = ap (λ (ys : List X). x ∷ ys) (take-front i n xs (omega (arith, few)))

get-back : {X : Type 0} (n : ℕ) (xs : List X) (i : ℕ) → slice_get xs (n + i) ≡ slice_get (drop n xs) i
get-back zero xs i =
    let e : 0 + i ≡ i = omega arith in
    ap (slice_get xs) e
get-back (suc n) [] i = refl
get-back (suc n) (x ∷ xs) i =
    let e : suc n + i ≡ suc (n + i) = omega arith in
    ap (slice_get (x ∷ xs)) e ∙ get-back n xs i

take-nothing : {X : Type 0} (i : ℕ) (xs : List X) → xs ≡ [] → take i xs ≡ []
take-nothing zero xs none = refl
take-nothing (suc i) [] none = refl
take-nothing (suc i) (x ∷ xs) none = absurd (cc)

take-back : {X : Type 0} (n : ℕ) (xs : List X) (i : ℕ) → take (n + i) xs ≡ take n xs ++ take i (drop n xs)
take-back zero xs i =
    let e : 0 + i ≡ i = omega arith in
    ap (λ (k : ℕ). take k xs) e
take-back {X = X} (suc n) [] i = take-nothing (suc n + i) [] refl ∙ sym (take-nothing i [] refl)
take-back {X = X} (suc n) (x ∷ xs) i =
    let e : suc n + i ≡ suc (n + i) = omega arith in
    ap (λ (k : ℕ). take k (x ∷ xs)) e ∙ ap (λ (ys : List X). x ∷ ys) (take-back n xs i)

pub second-half : {X : Type 0} (half : ℕ) (xs : List X) → take (length xs - half) (drop half xs) ≡ drop half xs
second-half half xs = take_all (length xs - half) (drop half xs) (omega (arith, length-drop half xs))

module _ (nodes : List PoolNode) (rule : ℕ) (questions : List NodeId) (vars half : ℕ) where
  abbrev Fails : List Bool → NodeId → Type 0
  Fails set question = ¬ IsTrueAt nodes set question.0

  pub never-both : AreNeverMet nodes rule (take half questions) vars → AreNeverMet nodes rule (drop half questions) vars → AreNeverMet nodes rule questions vars
  never-both first second set fits holds =
      subst (All (Fails set)) (take-append-drop half questions)
      (All-append (Fails set) (take half questions) (drop half questions) (first set fits holds) (second set fits holds))

  pub met-first : (met : Met) → IsFirstMet nodes rule (take half questions) vars met → IsFirstMet nodes rule questions vars met
  met-first met is =
      let within : met.question < length (take half questions) = slice_get_within (take half questions) met.question is.holds.0 is.holds.1 in
      record {
        each = is.each;
        rule_holds = is.rule_holds;
        holds = (is.holds.0, get-front half questions met.question is.holds.0 is.holds.1, is.holds.2);
        none_before = λ set fits holds.
            subst (All (Fails set)) (take-front met.question half questions (omega (arith, within, length-take-few half questions))) (is.none_before set fits holds);
      }
    where
      length-take-few : {X : Type 0} (n : ℕ) (xs : List X) → length (take n xs) ≤ n
      length-take-few zero xs = omega arith
      length-take-few (suc n) [] = omega arith
      length-take-few (suc n) (x ∷ xs) = omega (arith, length-take-few n xs)

  pub met-second : (met : Met) → AreNeverMet nodes rule (take half questions) vars → IsFirstMet nodes rule (drop half questions) vars met
      → IsFirstMet nodes rule questions vars (record { question = half + met.question; set = met.set })
  met-second met first is = record {
    each = is.each;
    rule_holds = is.rule_holds;
    holds = (is.holds.0, get-back half questions met.question ∙ is.holds.1, is.holds.2);
    none_before = λ set fits holds.
        subst (All (Fails set)) (sym (take-back half questions met.question))
        (All-append (Fails set) (take half questions) (take met.question (drop half questions)) (first set fits holds) (is.none_before set fits holds));
  }
