-- A watcher that is visited.
use Rattle.std.proofs.Common.{◌≡◌, ◌≢◌, ℕ, ◌<◌, Bool, true, false, List, [], ◌∷◌, ◌++◌, length, get_or, set, Option, Some, None, Contains, All, refl, sym, subst, ◌∙◌, ◌⊎◌, inl, inr, ⊎_elim, arith}
use Rattle.std.specs.Bool.{beq}
use Rattle.std.specs.Option.{option_eq}
use Rattle.std.proofs.lemmas.List.Elements.{All-weaker, Contains-push}
use Rattle.std.proofs.lemmas.Option.{slice_get-get_or}
use Rattle.sat_cnf.specs.declared.lit.Lit.{Lit}
use Rattle.sat_cnf.specs.Clauses.{IsWithin}
use Rattle.sat_proof.specs.Propagation.{IsFalse, IsUndecided, IsUnit}
use Rattle.sat_proof.specs.Refutations.{hinted}
use Rattle.sat_watch.specs.Watching.{StandsAt, StandsBehind, Watched, list_at}
use Rattle.sat_core.specs.declared.entry.Entry.{Entry}
use Rattle.sat_core.specs.declared.pair.Pair.{Pair}
use Rattle.sat_core.specs.declared.phase.Phase.TheVariants.{Fresh}
use Rattle.sat_core.specs.Trails.{IsValueOf, lits_of}
use Rattle.sat_core.specs.Watching.{IsPairOf}
use Rattle.sat_core.specs.Searching.{IsSearch, State, held_in}
use Rattle.sat_core.specs.Walking.{ComesTo, Grows, HasLit, IsBlocked, IsOther, IsPassed, IsPassedAt, IsReplacement, IsStruck, clause_of}
use Rattle.sat_core.proofs.KnownLemmas.{undecided-from_none}
use Rattle.sat_core.proofs.TrailLemmas.{lit-of}
use Rattle.sat_core.proofs.EntryLemmas.{true-more}
use Rattle.sat_core.proofs.WatchLemmas.{moved, same, some-within, watched-has}
use Rattle.sat_core.proofs.PropagationLemmas.{grows-put-at, implied, search-put-at, clause-within, comes-false, comes-known, comes-within, other-two, search-move, passed-move}

-- A watcher of a literal to which propagation comes is visited. It is for the clause of a number.
pub record IsVisit (s : State) (lit : Lit) (before : Option ℕ) (watcher number : ℕ) : Type 0 where
  pub is : IsSearch s
  pub fresh : s.phase ≡ Fresh
  pub comes : ComesTo s lit
  pub place : StandsBehind (list_at s.watches.lists lit.0) before watcher
  pub clause : number ≡ clause_of s.watches watcher

module _ {s : State} {lit : Lit} {before : Option ℕ} {watcher number : ℕ} (v : IsVisit s lit before watcher number) where
  visited-pair : (pair : Pair) × (get_or s.pairs number None ≡ Some pair) × HasLit pair lit
  visited-pair =
      subst (λ n. (pair : Pair) × (get_or s.pairs n None ≡ Some pair) × HasLit pair lit) (sym v.clause)
      (watched-has s.vars s.watches s.pairs v.is.watched.lists lit watcher v.place.passed v.place.rest (comes-within s lit v.is v.comes) v.place.split)

  pub visited-below : number < length s.pairs
  visited-below = some-within s.pairs number visited-pair.0 visited-pair.1

  pub visited-held : number < length (held_in s)
  visited-held = omega (arith, visited-below, v.is.watched.each)

  visited-is : (found : Option Pair) (pair : Pair) → found ≡ get_or s.pairs number found → found ≡ Some pair → get_or s.pairs number None ≡ Some pair
  visited-is found pair at e =
      let a : Some (get_or s.pairs number None) ≡ Some (get_or s.pairs number found) =
      sym (slice_get-get_or s.pairs number None visited-below) ∙ slice_get-get_or s.pairs number found visited-below in
      cc

  -- the pair has the literal
  pub visited-has : (found : Option Pair) (pair : Pair) → found ≡ get_or s.pairs number found → found ≡ Some pair → HasLit pair lit
  visited-has found pair at e =
      let one : Some visited-pair.0 ≡ Some pair = sym visited-pair.1 ∙ visited-is found pair at e in
      let same : visited-pair.0 ≡ pair = cc in
      subst (λ p. HasLit p lit) same visited-pair.2

  module _ {pair : Pair} {other : Lit} {found : Option Pair} (at : found ≡ get_or s.pairs number found) (found-is : found ≡ Some pair) (o : IsOther pair lit other) where
    pair-is : get_or s.pairs number None ≡ Some pair
    pair-is = visited-is found pair at found-is

    pair-two : IsPairOf (hinted (held_in s) number) (Some pair)
    pair-two = subst (IsPairOf (hinted (held_in s) number)) pair-is (v.is.watched.two number visited-held)

    two : Contains (hinted (held_in s) number) lit × Contains (hinted (held_in s) number) other × (lit ≢ other)
    two = other-two (hinted (held_in s) number) pair lit other o pair-two

    pub other-within : IsWithin s.vars other
    other-within = clause-within s number other v.is visited-held two.1

    passed-by : (known : List Lit) → Contains known other → IsPassed known lit (Some pair)
    passed-by known yes' =
        ⊎_elim
        (λ p. (λ _. subst (Contains known) p.1 yes', λ e. absurd (pair-two.2 (p.0 ∙ sym e))))
        (λ p. (λ e. absurd (pair-two.2 (e ∙ sym p.0)), λ _. subst (Contains known) p.1 yes'))
        o

    -- where the other literal is true
    pub visit-stays : Contains (lits_of s.trail) other → IsPassedAt s lit (clause_of s.watches watcher)
    visit-stays yes' = subst (IsPassedAt s lit) v.clause (subst (IsPassed (lits_of s.trail) lit) (sym pair-is) (passed-by (lits_of s.trail) yes'))

    -- where all other literals are false
    module _ (all : All (IsBlocked (lits_of s.trail) lit other) (hinted (held_in s) number)) where
      pub visit-strikes : IsFalse (lits_of s.trail) other → IsStruck s number
      visit-strikes false' = (
        visited-held,
        (
          All-weaker (IsBlocked (lits_of s.trail) lit other) (IsFalse (lits_of s.trail))
              (λ l b.
              ⊎_elim (λ e. subst (IsFalse (lits_of s.trail)) (sym e) false')
              (λ r. ⊎_elim (λ e. subst (IsFalse (lits_of s.trail)) (sym e) (comes-known s lit v.is v.comes)) (λ f. f) r)
              b)
              (hinted (held_in s) number) all,
          λ _. (lit, two.0, comes-false s lit v.is v.comes),
        ),
      )

      module _ (undecided : IsUndecided (lits_of s.trail) other) (trail : List Entry) (trail-is : trail ≡ s.trail ++ implied s.trail other number ∷ []) where
        unit : IsUnit (lits_of s.trail) (hinted (held_in s) number) other
        unit = record {
          stands = two.1;
          undecided = undecided;
          alone = All-weaker (IsBlocked (lits_of s.trail) lit other) (λ l. (l ≡ other) ⊎ IsFalse (lits_of s.trail) l)
              (λ l b.
              ⊎_elim (λ e. inl e)
              (λ r. ⊎_elim (λ e. inr (subst (IsFalse (lits_of s.trail)) (sym e) (comes-known s lit v.is v.comes))) (λ f. inr f) r)
              b)
              (hinted (held_in s) number) all;
        }

        pub visit-puts : IsSearch (record s { trail = trail })
        visit-puts = search-put-at s v.is v.fresh other number other-within visited-held unit trail trail-is

        pub visit-grows : Grows s (record s { trail = trail })
        visit-grows = grows-put-at s v.is v.fresh other number other-within visited-held unit trail trail-is

    pub visit-put : (trail : List Entry) → trail ≡ s.trail ++ implied s.trail other number ∷ [] → IsPassedAt (record s { trail = trail }) lit (clause_of s.watches watcher)
    visit-put trail e =
        let known : Contains (lits_of trail) other =
        subst (λ t. Contains (lits_of t) other) (sym e)
        (lit-of (s.trail ++ implied s.trail other number ∷ []) (implied s.trail other number) (Contains-push s.trail (implied s.trail other number))) in
        subst (IsPassedAt (record s { trail = trail }) lit) v.clause (subst (IsPassed (lits_of trail) lit) (sym pair-is) (passed-by (lits_of trail) known))

    -- where there is another literal that isn't false
    module _ {to : Lit} (free : IsReplacement (lits_of s.trail) (hinted (held_in s) number) lit other (Some to)) where
      pub to-within : IsWithin s.vars to
      to-within = clause-within s number to v.is visited-held free.0

      pair-there : get_or s.pairs (clause_of s.watches watcher) None ≡ Some pair
      pair-there = subst (λ n. get_or s.pairs n None ≡ Some pair) v.clause pair-is

      free-there : IsReplacement (lits_of s.trail) (hinted (held_in s) (clause_of s.watches watcher)) lit other (Some to)
      free-there = subst (λ n. IsReplacement (lits_of s.trail) (hinted (held_in s) n) lit other (Some to)) v.clause free

      pub visit-moves : (watches : Watched)
          → ((passed rest : List ℕ) → StandsAt s.watches.lists lit.0 passed watcher rest → watches ≡ record s.watches { lists = moved s.watches.lists lit.0 (passed ++ rest) watcher to.0 })
          → IsSearch (record s { watches = watches; pairs = set s.pairs number (Some (record { first = other; second = to })) })
      visit-moves watches w =
          subst (λ x. IsSearch (record s { watches = x; pairs = set s.pairs number (Some (record { first = other; second = to })) })) (sym (w v.place.passed v.place.rest v.place.split))
          (subst
          (λ n. IsSearch (record s { watches = record s.watches { lists = moved s.watches.lists lit.0 (v.place.passed ++ v.place.rest) watcher to.0 }; pairs = set s.pairs n (Some (record { first = other; second = to })) }))
          (sym v.clause)
          (search-move s v.is v.fresh lit other to v.comes watcher v.place.passed v.place.rest pair v.place.split pair-there o free-there to-within))

      pub visit-keeps : ¬ Contains (lits_of s.trail) other → (n : ℕ) → IsPassedAt s lit n
          → IsPassed (lits_of s.trail) lit (get_or (set s.pairs number (Some (record { first = other; second = to }))) n None)
      visit-keeps untrue n p =
          subst (λ k. IsPassed (lits_of s.trail) lit (get_or (set s.pairs k (Some (record { first = other; second = to }))) n None)) (sym v.clause)
          (passed-move s v.is v.fresh lit other to v.comes watcher v.place.passed v.place.rest pair v.place.split pair-there o free-there to-within untrue n p)

passed-more : (entries more : List Entry) (lit : Lit) (pair : Option Pair) → IsPassed (lits_of entries) lit pair → IsPassed (lits_of (entries ++ more)) lit pair
passed-more entries more lit None p = tt
passed-more entries more lit (Some pair) p = (λ e. true-more entries more pair.second (p.0 e), λ e. true-more entries more pair.first (p.1 e))

pub passed-put : (s : State) → IsSearch s → (lit : Lit) (trail more : List Entry) → trail ≡ s.trail ++ more → (number : ℕ) → IsPassedAt s lit number → IsPassedAt (record s { trail = trail }) lit number
passed-put s is lit trail more e number p =
    subst (λ t. IsPassed (lits_of t) lit (get_or s.pairs number None)) (sym e) (passed-more s.trail more lit (get_or s.pairs number None) p)

pub undecided-of : (known : List Lit) (lit : Lit) (value : Option Bool) → value ≡ None → IsValueOf known lit value → IsUndecided known lit
undecided-of known lit value e v = undecided-from_none known lit (subst (IsValueOf known lit) e v)

pub true-by : (known : List Lit) (lit : Lit) (value : Option Bool) → true ≡ option_eq beq value (Some true) → IsValueOf known lit value → Contains known lit
true-by known lit None e v = absurd (cc)
true-by known lit (Some true) e v = v.when_true.0 refl
true-by known lit (Some false) e v = absurd (cc)

pub untrue-by : (known : List Lit) (lit : Lit) (value : Option Bool) → false ≡ option_eq beq value (Some true) → IsValueOf known lit value → ¬ Contains known lit
untrue-by known lit None e v = λ up. let t : None ≡ Some true = v.when_true.1 up in absurd (cc)
untrue-by known lit (Some true) e v = λ up. absurd (cc)
untrue-by known lit (Some false) e v = λ up. let t : Some false ≡ Some true = v.when_true.1 up in absurd (cc)

pub false-by : (known : List Lit) (lit : Lit) (value : Option Bool) (is : Bool) → value ≡ Some is → false ≡ option_eq beq value (Some true) → IsValueOf known lit value → IsFalse known lit
false-by known lit None is same e v = absurd (cc)
false-by known lit (Some true) is same e v = absurd (cc)
false-by known lit (Some false) is same e v = v.when_false.0 refl
