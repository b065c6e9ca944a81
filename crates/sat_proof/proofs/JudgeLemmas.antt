-- What a clause is as its literals are read, and what the clauses that are left decide.
use Rattle.std.proofs.Common.{◌≡◌, ℕ, zero, suc, ◌+◌, ◌<◌, ◌↔◌, Option, Some, None, List, [], ◌∷◌, ◌++◌, length, map, take, drop, slice_index_or, Contains, refl, sym, ap, subst, ◌∙◌, ◌⊎◌, inl, inr, ⊎_elim, arith, add-one}
use Rattle.std.proofs.Math.Seq.{take-suc, drop-cons}
use Rattle.std.proofs.lemmas.List.{length-append, length-map, map-append, take-append-drop}
use Rattle.std.proofs.lemmas.List.Elements.{All-contains, All-push, All-weaker, Contains-append_left, Contains-push, Contains-push_cases}
use Rattle.sat_cnf.specs.declared.lit.Lit.{Lit}
use Rattle.sat_cnf.specs.Lits.{negation_of}
use Rattle.sat_proof.specs.Propagation.{IsFalse, IsFalsified, IsUndecided, IsUnit, Refutes}
use Rattle.sat_proof.specs.Refutations.{IsConsistent, held_with, hinted}
use Rattle.sat_proof.specs.declared.step.Step.{Step}
use Rattle.sat_proof.specs.Trails.{HasSame, IsOpen}
use Rattle.sat_proof.proofs.LitLemmas.{negation-negation, negation-differs}

pub take-more : {X : Type 0} (xs : List X) (i : ℕ) (d : X) → i < length xs → take (i + 1) xs ≡ take i xs ++ slice_index_or xs i d ∷ []
take-more xs i d h = rw add-one (take-suc xs i d h)

pub drop-more : {X : Type 0} (xs : List X) (i : ℕ) (d : X) → i < length xs → drop i xs ≡ slice_index_or xs i d ∷ drop (i + 1) xs
drop-more xs i d h = rw add-one (drop-cons xs i d h)

pub Contains-take : {X : Type 0} (xs : List X) (i : ℕ) (x : X) → Contains (take i xs) x → Contains xs x
Contains-take xs i x c = subst (λ all. Contains all x) (take-append-drop i xs) (Contains-append_left (take i xs) (drop i xs) x c)

pub Contains-map : {X Y : Type 0} (f : X → Y) (xs : List X) (y : Y) → Contains (map f xs) y → (x : X) × Contains xs x × (f x ≡ y)
Contains-map f [] y (k, within, e) = absurd (omega arith)
Contains-map f (x ∷ xs) y (zero, within, e) = (x, (0, omega arith, refl), e)
Contains-map f (x ∷ xs) y (suc k, within, e) =
    let (z, (j, below, there), same) = Contains-map f xs y (k, omega arith, e) in (z, (suc j, omega arith, there), same)

Contains-map_of : {X Y : Type 0} (f : X → Y) (xs : List X) (x : X) → Contains xs x → Contains (map f xs) (f x)
Contains-map_of f [] x (k, within, e) = absurd (omega arith)
Contains-map_of f (y ∷ xs) x (zero, within, e) = (0, omega arith, ap f e)
Contains-map_of f (y ∷ xs) x (suc k, within, e) =
    let (j, below, there) = Contains-map_of f xs x (k, omega arith, e) in (suc j, omega arith, there)

module _ (known : List Lit) where
  -- a false literal more
  pub IsOpen-false : (clause : List Lit) (lit : Lit) (o : Option Lit) → IsFalse known lit → IsOpen known clause o → IsOpen known (clause ++ lit ∷ []) o
  IsOpen-false clause lit None f h = All-push (IsFalse known) clause lit h f
  IsOpen-false clause lit (Some other) f h = record {
    stands = Contains-append_left clause (lit ∷ []) other h.stands;
    undecided = h.undecided;
    alone = All-push (λ l. (l ≡ other) ⊎ IsFalse known l) clause lit h.alone (inr f);
  }

  -- an undecided literal more, which is the only one
  pub IsOpen-undecided : (clause : List Lit) (lit : Lit) (o : Option Lit) → IsUndecided known lit
      → ((other : Lit) → o ≡ Some other → other ≡ lit) → IsOpen known clause o → IsUnit known (clause ++ lit ∷ []) lit
  IsOpen-undecided clause lit None u same h = record {
    stands = Contains-push clause lit;
    undecided = u;
    alone = All-push (λ l. (l ≡ lit) ⊎ IsFalse known l) clause lit
        (All-weaker (IsFalse known) (λ l. (l ≡ lit) ⊎ IsFalse known l) (λ l f. inr f) clause h) (inl refl);
  }
  IsOpen-undecided clause lit (Some other) u same h =
      let e : other ≡ lit = same other refl in
      record {
        stands = Contains-push clause lit;
        undecided = u;
        alone = All-push (λ l. (l ≡ lit) ⊎ IsFalse known l) clause lit
            (All-weaker (λ l. (l ≡ other) ⊎ IsFalse known l) (λ l. (l ≡ lit) ⊎ IsFalse known l)
            (λ l. ⊎_elim (λ p. inl (p ∙ e)) (λ f. inr f)) clause h.alone) (inl refl);
      }

  -- a clause with a true literal that isn't false
  pub neither-true : (clause : List Lit) (lit : Lit) → Contains clause lit → ¬ IsFalse known lit → Contains known lit
      → ¬ IsFalsified known clause × ((other : Lit) → ¬ IsUnit known clause other)
  neither-true clause lit stands not_false known_lit = (
    λ f. not_false (All-contains (IsFalse known) clause lit f stands),
    λ other u. ⊎_elim (λ e. u.undecided.0 (subst (Contains known) e known_lit)) not_false
        (All-contains (λ l. (l ≡ other) ⊎ IsFalse known l) clause lit u.alone stands),
  )

  -- a clause with two literals that aren't false
  pub neither-two : (clause : List Lit) (lit other : Lit) → Contains clause lit → ¬ IsFalse known lit → Contains clause other → ¬ IsFalse known other
      → ¬ (other ≡ lit) → ¬ IsFalsified known clause × ((open_lit : Lit) → ¬ IsUnit known clause open_lit)
  neither-two clause lit other stands not_false other_stands other_not_false differ = (
    λ f. not_false (All-contains (IsFalse known) clause lit f stands),
    λ l u.
        ⊎_elim (λ e. ⊎_elim (λ f. differ (f ∙ sym e)) other_not_false
        (All-contains (λ x. (x ≡ l) ⊎ IsFalse known x) clause other u.alone other_stands))
        not_false (All-contains (λ x. (x ≡ l) ⊎ IsFalse known x) clause lit u.alone stands),
  )

  pub refutes-unit : (clause : List Lit) (lit : Lit) (rest : List (List Lit)) → IsUnit known clause lit
      → Refutes known (clause ∷ rest) ↔ Refutes (known ++ lit ∷ []) rest
  refutes-unit clause lit rest u = (
    ⊎_elim (λ f. absurd (u.undecided.1 (All-contains (IsFalse known) clause lit f u.stands)))
        (λ r. subst (λ l. Refutes (known ++ l ∷ []) rest)
        (⊎_elim (λ e. e) (λ f. absurd (r.1.undecided.1 f)) (All-contains (λ x. (x ≡ lit) ⊎ IsFalse known x) clause r.0 u.alone r.1.stands)) r.2),
    λ r. inr (lit, u, r),
  )

HasSame-push : (a b : List Lit) (x : Lit) → HasSame a b → HasSame (a ++ x ∷ []) (b ++ x ∷ [])
HasSame-push a b x h lit = (
  λ c. ⊎_elim (λ old. Contains-append_left b (x ∷ []) lit ((h lit).0 old)) (λ e. subst (Contains (b ++ x ∷ [])) e (Contains-push b x)) (Contains-push_cases a x lit c),
  λ c. ⊎_elim (λ old. Contains-append_left a (x ∷ []) lit ((h lit).1 old)) (λ e. subst (Contains (a ++ x ∷ [])) e (Contains-push a x)) (Contains-push_cases b x lit c),
)

HasSame-again : (a b : List Lit) (x : Lit) → Contains a x → HasSame a b → HasSame a (b ++ x ∷ [])
HasSame-again a b x there h lit = (
  λ c. Contains-append_left b (x ∷ []) lit ((h lit).0 c),
  λ c. ⊎_elim (λ old. (h lit).1 old) (λ e. subst (Contains a) e there) (Contains-push_cases b x lit c),
)

module _ (known clause : List Lit) (lit : Lit) (same : HasSame known (map negation_of clause)) where
  pub HasSame-deny : HasSame (known ++ negation_of lit ∷ []) (map negation_of (clause ++ lit ∷ []))
  HasSame-deny = subst (HasSame (known ++ negation_of lit ∷ [])) (sym (map-append negation_of clause (lit ∷ []))) (HasSame-push known (map negation_of clause) (negation_of lit) same)

  pub HasSame-denied : Contains known (negation_of lit) → HasSame known (map negation_of (clause ++ lit ∷ []))
  HasSame-denied there = subst (HasSame known) (sym (map-append negation_of clause (lit ∷ []))) (HasSame-again known (map negation_of clause) (negation_of lit) there same)

  -- a literal is known where the clause has its negation
  denied : (other : Lit) → Contains known other → Contains clause (negation_of other)
  denied other c =
      let (x, there, e) = Contains-map negation_of clause other ((same other).0 c) in
      subst (Contains clause) (sym (negation-negation x) ∙ ap negation_of e) there

  deny : (other : Lit) → Contains clause (negation_of other) → Contains known other
  deny other c = subst (Contains known) (negation-negation other) ((same (negation_of (negation_of other))).1 (Contains-map_of negation_of clause (negation_of other) c))

  pub inconsistent : (whole : List Lit) → Contains known lit → ((x : Lit) → Contains clause x → Contains whole x) → Contains whole lit → IsConsistent whole → ⊥
  inconsistent whole there within stands consistent = consistent lit stands (within (negation_of lit) (denied lit there))

  pub IsConsistent-push : IsConsistent clause → ¬ Contains known lit → IsConsistent (clause ++ lit ∷ [])
  IsConsistent-push consistent fresh x c n =
      ⊎_elim
      (λ old. ⊎_elim (λ neg. consistent x old neg)
      (λ e. fresh (deny lit (subst (Contains clause) (sym (negation-negation x) ∙ ap negation_of (sym e)) old)))
      (Contains-push_cases clause lit (negation_of x) n))
      (λ e. ⊎_elim (λ neg. fresh (deny lit (subst (λ l. Contains clause (negation_of l)) (sym e) neg)))
      (λ f. negation-differs x (sym f ∙ e))
      (Contains-push_cases clause lit (negation_of x) n))
      (Contains-push_cases clause lit x c)

-- the order in which literals became true is nothing to a refutation
pub Refutes-same : (clauses : List (List Lit)) (a b : List Lit) → HasSame a b → Refutes a clauses → Refutes b clauses
Refutes-same [] a b h r = r
Refutes-same (clause ∷ clauses) a b h r =
    ⊎_elim
    (λ f. inl (All-weaker (IsFalse a) (IsFalse b) (λ l. (h (negation_of l)).0) clause f))
    (λ u. inr (
      u.0,
      record {
        stands = u.1.stands;
        undecided = (λ c. u.1.undecided.0 ((h u.0).1 c), λ c. u.1.undecided.1 ((h (negation_of u.0)).1 c));
        alone = All-weaker (λ l. (l ≡ u.0) ⊎ IsFalse a l) (λ l. (l ≡ u.0) ⊎ IsFalse b l)
            (λ l. ⊎_elim (λ e. inl e) (λ f. inr ((h (negation_of l)).0 f))) clause u.1.alone;
      },
      Refutes-same clauses (a ++ u.0 ∷ []) (b ++ u.0 ∷ []) (HasSame-push a b u.0 h) u.2,
    ))
    r

pub next-hinted : (held : List (List Lit)) (hints : List ℕ) (i : ℕ) → i < length hints
    → map (hinted held) (drop i hints) ≡ hinted held (slice_index_or hints i 0) ∷ map (hinted held) (drop (i + 1) hints)
next-hinted held hints i h = ap (map (hinted held)) (drop-more hints i 0 h)

pub length-held : (clauses : List (List Lit)) (steps : List Step) → length (held_with clauses steps) ≡ length clauses + length steps
length-held clauses steps = simp (length-append, length-map) refl
