-- What a literal is where all of several are, as clauses.
use Rattle.std.proofs.Common.{◌≡◌, ℕ, zero, suc, ◌+◌, ◌*◌, ◌/◌, ◌%◌, ◌-◌, ◌<◌, ◌≤◌, Bool, true, false, not, cond, eqb, ◌&&◌, ◌||◌, List, [], ◌∷◌, ◌++◌, length, map, get_or, refl, sym, ap, subst, ◌∙◌, ⊎_elim, ◌⊎◌, inl, inr, arith}
use Rattle.std.specs.List.{list_all, AllByRecursion}
use Rattle.std.proofs.lemmas.List.{get_or_append_left}
use Rattle.std.proofs.lemmas.List.Folds.{list_all-append}
use Rattle.std.proofs.lemmas.Bool.{cases_Bool}
use Rattle.std.proofs.lemmas.Bool.Decides.{nat_tests}
use Rattle.sat_cnf.specs.declared.lit.Lit.{Lit}
use Rattle.sat_cnf.specs.Lits.{negation_of}
use Rattle.sat_cnf.specs.Clauses.{IsWithin}
use Rattle.sat_cnf.specs.Models.{lit_value, clause_value, clauses_value}
use Rattle.sat_cnf.specs.Coding.{gate_clauses, positive, negative}

-- ---- values of literals

half-even : (v : ℕ) → (2 * v) / 2 ≡ v
half-even v = omega arith

half-odd : (v : ℕ) → (2 * v + 1) / 2 ≡ v
half-odd v = omega arith

rest-even : (v : ℕ) → eqb ((2 * v) % 2) 1 ≡ false
rest-even v = grind (arith, nat_tests)

rest-odd : (v : ℕ) → eqb ((2 * v + 1) % 2) 1 ≡ true
rest-odd v = grind (arith, nat_tests)

pub value-positive : (set : List Bool) (v : ℕ) → lit_value set (positive v) ≡ get_or set v false
value-positive set v =
    ap (λ b. cond b (not (get_or set ((2 * v) / 2) false)) (get_or set ((2 * v) / 2) false)) (rest-even v)
    ∙ ap (λ w. get_or set w false) (half-even v)

pub value-negative : (set : List Bool) (v : ℕ) → lit_value set (negative v) ≡ not (get_or set v false)
value-negative set v =
    ap (λ b. cond b (not (get_or set ((2 * v + 1) / 2) false)) (get_or set ((2 * v + 1) / 2) false)) (rest-odd v)
    ∙ ap (λ w. not (get_or set w false)) (half-odd v)

parity : (n : ℕ) → (n ≡ 2 * (n / 2)) ⊎ (n ≡ 2 * (n / 2) + 1)
parity n = ⊎_elim (λ (e : n % 2 ≡ 0). inl (omega arith)) (λ (o : n % 2 ≡ 1). inr (omega arith)) (two (n % 2) (omega arith))
  where
    two : (r : ℕ) → r < 2 → (r ≡ 0) ⊎ (r ≡ 1)
    two zero h = inl refl
    two (suc zero) h = inr refl
    two (suc (suc r)) h = absurd (omega arith)

negated-even : (v : ℕ) → negation_of (positive v) ≡ negative v
negated-even v = ap (λ b. record { 0 = cond b (2 * v - 1) (2 * v + 1) }) (rest-even v)

negated-odd : (v : ℕ) → negation_of (negative v) ≡ positive v
negated-odd v =
    ap (λ b. record { 0 = cond b (2 * v + 1 - 1) (2 * v + 1 + 1) }) (rest-odd v) ∙ ap (λ n. record { 0 = n }) (let e : 2 * v + 1 - 1 ≡ 2 * v = omega arith in e)

not-not : (b : Bool) → not (not b) ≡ b
not-not true = refl
not-not false = refl

-- each literal is one of the two of its variable
lit-cases : (P : Lit → Type 0) → ((v : ℕ) → P (positive v)) → ((v : ℕ) → P (negative v)) → (l : Lit) → P l
lit-cases P even odd l =
    ⊎_elim (λ e. subst (λ n. P (record { 0 = n })) (sym e) (even (l.0 / 2))) (λ o. subst (λ n. P (record { 0 = n })) (sym o) (odd (l.0 / 2))) (parity l.0)

pub value-negation : (set : List Bool) (l : Lit) → lit_value set (negation_of l) ≡ not (lit_value set l)
value-negation set =
    lit-cases (λ l. lit_value set (negation_of l) ≡ not (lit_value set l))
    (λ v. ap (lit_value set) (negated-even v) ∙ value-negative set v ∙ ap not (sym (value-positive set v)))
    (λ v. ap (lit_value set) (negated-odd v) ∙ value-positive set v ∙ sym (not-not (get_or set v false)) ∙ ap not (sym (value-negative set v)))

pub negation-within : (vars : ℕ) (l : Lit) → IsWithin vars l → IsWithin vars (negation_of l)
negation-within vars =
    lit-cases (λ l. IsWithin vars l → IsWithin vars (negation_of l))
    (λ v h. subst (λ n. IsWithin vars n) (sym (negated-even v)) (omega arith))
    (λ v h. subst (λ n. IsWithin vars n) (sym (negated-odd v)) (omega arith))

-- ---- sets that get longer

pub value-more : (set more : List Bool) (l : Lit) → IsWithin (length set) l → lit_value (set ++ more) l ≡ lit_value set l
value-more set more =
    lit-cases (λ l. IsWithin (length set) l → lit_value (set ++ more) l ≡ lit_value set l)
    (λ v h. value-positive (set ++ more) v ∙ get_or_append_left set more false v (omega arith) ∙ sym (value-positive set v))
    (λ v h. value-negative (set ++ more) v ∙ ap not (get_or_append_left set more false v (omega arith)) ∙ sym (value-negative set v))

clause-more : (set more : List Bool) (c : List Lit) → AllByRecursion (IsWithin (length set)) c → clause_value (set ++ more) c ≡ clause_value set c
clause-more set more [] h = refl
clause-more set more (l ∷ ls) h = ap (λ b. b || clause_value (set ++ more) ls) (value-more set more l h.0) ∙ ap (λ b. lit_value set l || b) (clause-more set more ls h.1)

pub clauses-more : (set more : List Bool) (cs : List (List Lit)) → AllByRecursion (AllByRecursion (IsWithin (length set))) cs → clauses_value (set ++ more) cs ≡ clauses_value set cs
clauses-more set more [] h = refl
clauses-more set more (c ∷ cs) h = ap (λ b. b && clauses_value (set ++ more) cs) (clause-more set more c h.0) ∙ ap (λ b. clause_value set c && b) (clauses-more set more cs h.1)

-- ---- gates

abbrev pub agree : Bool → Bool → Bool
agree true a = a
agree false a = not a

pub agree-same : (h a : Bool) → agree h a ≡ true → h ≡ a
agree-same true true e = refl
agree-same true false e = sym e
agree-same false true e = e
agree-same false false e = refl

pub same-agree : (h a : Bool) → h ≡ a → agree h a ≡ true
same-agree true true e = refl
same-agree true false e = sym e
same-agree false true e = e
same-agree false false e = refl

pairs-true : (set : List Bool) (head : Lit) (inputs : List Lit) → lit_value set head ≡ true → list_all (clause_value set) (map (λ input. negation_of head ∷ input ∷ []) inputs) ≡ list_all (lit_value set) inputs
pairs-true set head [] e = refl
pairs-true set head (i ∷ is) e =
    let no : lit_value set (negation_of head) ≡ false = value-negation set head ∙ ap not e in
    ap (λ b. (b || (lit_value set i || false)) && list_all (clause_value set) (map (λ input. negation_of head ∷ input ∷ []) is)) no
    ∙ ap (λ b. b && list_all (clause_value set) (map (λ input. negation_of head ∷ input ∷ []) is)) (or-false (lit_value set i))
    ∙ ap (λ b. lit_value set i && b) (pairs-true set head is e)
  where
    or-false : (b : Bool) → (b || false) ≡ b
    or-false true = refl
    or-false false = refl

pairs-false : (set : List Bool) (head : Lit) (inputs : List Lit) → lit_value set head ≡ false → list_all (clause_value set) (map (λ input. negation_of head ∷ input ∷ []) inputs) ≡ true
pairs-false set head [] e = refl
pairs-false set head (i ∷ is) e =
    let yes : lit_value set (negation_of head) ≡ true = value-negation set head ∙ ap not e in
    ap (λ b. (b || (lit_value set i || false)) && list_all (clause_value set) (map (λ input. negation_of head ∷ input ∷ []) is)) yes
    ∙ pairs-false set head is e

negated-any : (set : List Bool) (inputs : List Lit) → clause_value set (map negation_of inputs) ≡ not (list_all (lit_value set) inputs)
negated-any set [] = refl
negated-any set (i ∷ is) =
    ap (λ b. b || clause_value set (map negation_of is)) (value-negation set i) ∙ ap (λ b. not (lit_value set i) || b) (negated-any set is)
    ∙ morgan (lit_value set i) (list_all (lit_value set) is)
  where
    morgan : (a b : Bool) → (not a || not b) ≡ not (a && b)
    morgan true b = refl
    morgan false b = refl

-- the clauses of a gate are true exactly where its head is what its inputs are together
pub gate-value : (set : List Bool) (head : Lit) (inputs : List Lit) → clauses_value set (gate_clauses head inputs) ≡ agree (lit_value set head) (list_all (lit_value set) inputs)
gate-value set head inputs =
    list_all-append (clause_value set) (map (λ input. negation_of head ∷ input ∷ []) inputs) ((head ∷ map negation_of inputs) ∷ [])
    ∙ ⊎_elim
    (λ (e : lit_value set head ≡ true).
    ap (λ b. b && ((lit_value set head || clause_value set (map negation_of inputs)) && true)) (pairs-true set head inputs e)
    ∙ ap (λ h. list_all (lit_value set) inputs && ((h || clause_value set (map negation_of inputs)) && true)) e
    ∙ and-true (list_all (lit_value set) inputs)
    ∙ ap (λ h. agree h (list_all (lit_value set) inputs)) (sym e))
    (λ (e : lit_value set head ≡ false).
    ap (λ b. b && ((lit_value set head || clause_value set (map negation_of inputs)) && true)) (pairs-false set head inputs e)
    ∙ ap (λ h. (h || clause_value set (map negation_of inputs)) && true) e
    ∙ and-true (clause_value set (map negation_of inputs))
    ∙ negated-any set inputs
    ∙ ap (λ h. agree h (list_all (lit_value set) inputs)) (sym e))
    (cases_Bool (lit_value set head))
  where
    and-true : (b : Bool) → (b && true) ≡ b
    and-true true = refl
    and-true false = refl

-- ---- where the literals of a gate lie

pub within-wider : (less more : ℕ) (ls : List Lit) → less ≤ more → AllByRecursion (IsWithin less) ls → AllByRecursion (IsWithin more) ls
within-wider less more [] le h = tt
within-wider less more (l ∷ ls) le h = (let a : l.0 < 2 * less = h.0 in omega arith, within-wider less more ls le h.1)

pub list-wider : (less more : ℕ) (cs : List (List Lit)) → less ≤ more → AllByRecursion (AllByRecursion (IsWithin less)) cs → AllByRecursion (AllByRecursion (IsWithin more)) cs
list-wider less more [] le h = tt
list-wider less more (c ∷ cs) le h = (within-wider less more c le h.0, list-wider less more cs le h.1)

pub list-append : (vars : ℕ) (xs ys : List (List Lit)) → AllByRecursion (AllByRecursion (IsWithin vars)) xs → AllByRecursion (AllByRecursion (IsWithin vars)) ys → AllByRecursion (AllByRecursion (IsWithin vars)) (xs ++ ys)
list-append vars [] ys h g = g
list-append vars (x ∷ xs) ys h g = (h.0, list-append vars xs ys h.1 g)

negations-within : (vars : ℕ) (ls : List Lit) → AllByRecursion (IsWithin vars) ls → AllByRecursion (IsWithin vars) (map negation_of ls)
negations-within vars [] h = tt
negations-within vars (l ∷ ls) h = (negation-within vars l h.0, negations-within vars ls h.1)

pub gate-within : (vars : ℕ) (head : Lit) (inputs : List Lit) → IsWithin vars head → AllByRecursion (IsWithin vars) inputs → AllByRecursion (AllByRecursion (IsWithin vars)) (gate_clauses head inputs)
gate-within vars head inputs h g =
    list-append vars (map (λ input. negation_of head ∷ input ∷ []) inputs) ((head ∷ map negation_of inputs) ∷ []) (pairs inputs g) ((h, negations-within vars inputs g), tt)
  where
    pairs : (is : List Lit) → AllByRecursion (IsWithin vars) is → AllByRecursion (AllByRecursion (IsWithin vars)) (map (λ input. negation_of head ∷ input ∷ []) is)
    pairs [] k = tt
    pairs (i ∷ is) k = ((negation-within vars head h, (k.0, tt)), pairs is k.1)
