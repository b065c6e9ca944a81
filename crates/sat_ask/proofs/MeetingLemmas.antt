-- The first literal that is true in sets that satisfy the clauses of a rule and questions is that of the first question that is met.
use Rattle.std.proofs.Common.{◌≡◌, ℕ, ◌+◌, ◌-◌, ◌<◌, ◌≤◌, Bool, true, false, ◌||◌, ◌&&◌, List, [], ◌∷◌, ◌++◌, length, map, take, drop, slice_get, slice_index_or, Option, Some, None, All, refl, sym, ap, subst, ◌∙◌, arith}
use Rattle.std.proofs.lemmas.List.{get_or-map, length-map, length-take-le, take-append-drop, take-map, take_all, take_more}
use Rattle.std.proofs.lemmas.List.Elements.{All-map, All-nil, All-push, All-tail}
use Rattle.std.proofs.lemmas.List.Folds.{list_all-append}
use Rattle.std.proofs.lemmas.Option.{get_or_from_slice_get, none-some, same_Some, slice_get-map}
use Rattle.std.specs.Option.{option_map}
use Rattle.vkb_formula.specs.Pools.{pool_values}
use Rattle.vkb_formula.specs.declared.pool.NodeId.{NodeId}
use Rattle.vkb_formula.specs.declared.pool.PoolNode.{PoolNode}
use Rattle.sat_cnf.specs.declared.lit.Lit.{Lit}
use Rattle.sat_cnf.specs.Clauses.{Cnf}
use Rattle.sat_cnf.specs.Encoding.{IsEncoding}
use Rattle.sat_cnf.specs.Models.{Satisfies, clause_value, lit_value}
use Rattle.sat_core.specs.Asking.{IsAnswer}
use Rattle.sat_ask.specs.declared.meeting.Met.{Met}
use Rattle.sat_ask.specs.Finding.{AreNeverTrue, IsFirstTrue, IsFound}
use Rattle.sat_ask.specs.Meeting.{AreNeverMet, IsFirstOf, roots_of}

-- Questions that were asked so far.

pub never-none : (cnf : Cnf) (lits : List Lit) → AreNeverTrue cnf (take 0 lits)
never-none cnf lits set satisfied k d below = absurd (omega (arith, below, length-take-le 0 lits (omega arith)))

pub never-more : (cnf : Cnf) (lits : List Lit) (count : ℕ) (lit : Lit) → AreNeverTrue cnf (take count lits) → slice_get lits count ≡ Some lit → count < length lits
    → IsAnswer cnf lit None → AreNeverTrue cnf (take (count + 1) lits)
never-more cnf lits count lit none at below answer set satisfied =
    let P : Lit → Type 0 = λ l. ¬ (lit_value set l ≡ true) in
    let e : take (count + 1) lits ≡ take count lits ++ lit ∷ [] =
    take_more lits count lit below ∙ ap (λ l. take count lits ++ l ∷ []) (get_or_from_slice_get lits count lit lit at) in
    subst (All P) (sym e) (All-push P (take count lits) lit (none set satisfied) (answer set satisfied))

pub first-here : (cnf : Cnf) (lits : List Lit) (vars count : ℕ) (lit : Lit) (values first : List Bool) → AreNeverTrue cnf (take count lits) → slice_get lits count ≡ Some lit
    → vars ≤ cnf.vars → IsAnswer cnf lit (Some values) → first ≡ take vars values → IsFirstTrue cnf lits vars (record { question = count; set = first })
first-here cnf lits vars count lit values first none at few answer e =
    let whole : first ++ drop vars values ≡ values = ap (λ xs. xs ++ drop vars values) e ∙ take-append-drop vars values in
    record {
      each = ap length e ∙ length-take-le vars values (omega (arith, few, answer.0));
      more = drop vars values;
      satisfies = subst (λ set. Satisfies set cnf.list) (sym whole) answer.1;
      holds = (lit, at, ap (λ set. lit_value set lit) whole ∙ answer.2);
      none_before = none;
    }

pub never-all : (cnf : Cnf) (lits : List Lit) (count : ℕ) → length lits ≤ count → AreNeverTrue cnf (take count lits) → AreNeverTrue cnf lits
never-all cnf lits count all none = subst (AreNeverTrue cnf) (take_all count lits all) none

-- Two lists with the same values.

unmapped : {Y : Type 0} (P : Bool → Type 0) (g : Y → Bool) (ys : List Y) → All P (map g ys) → All (λ y. P (g y)) ys
unmapped P g ys h = λ k d below. subst P (get_or-map g ys k d (g d) below) (h k (g d) (omega (arith, below, length-map ys g)))

mapped : {Y : Type 0} (g : Y → Bool) (o : Option Y) (b : Bool) → option_map g o ≡ Some b → (y : Y) × (o ≡ Some y) × (g y ≡ b)
mapped g None b e = absurd (none-some b e)
mapped g (Some y) b e = (y, refl, same_Some (g y) b e)

module _ {X Y : Type 0} (f : X → Bool) (g : Y → Bool) where
  fails-there : (xs : List X) (ys : List Y) → map f xs ≡ map g ys → All (λ x. ¬ (f x ≡ true)) xs → All (λ y. ¬ (g y ≡ true)) ys
  fails-there xs ys same fails =
      let P : Bool → Type 0 = λ b. ¬ (b ≡ true) in
      unmapped P g ys (subst (All P) same (All-map P f xs fails))

  fails-before : (n : ℕ) (xs : List X) (ys : List Y) → map f xs ≡ map g ys → All (λ x. ¬ (f x ≡ true)) (take n xs) → All (λ y. ¬ (g y ≡ true)) (take n ys)
  fails-before n xs ys same = fails-there (take n xs) (take n ys) (sym (take-map f n xs) ∙ ap (take n) same ∙ take-map g n ys)

  holds-there : (xs : List X) (ys : List Y) → map f xs ≡ map g ys → (place : ℕ) (x : X) → slice_get xs place ≡ Some x
      → (y : Y) × (slice_get ys place ≡ Some y) × (g y ≡ f x)
  holds-there xs ys same place x at =
      mapped g (slice_get ys place) (f x)
      (sym (slice_get-map g ys place) ∙ ap (λ bs. slice_get bs place) (sym same) ∙ slice_get-map f xs place ∙ ap (option_map f) at)

-- Clauses with the literal of a rule, and the literals of questions.

both-true : (a b : Bool) → (a && ((b || false) && true)) ≡ true → (a ≡ true) × (b ≡ true)
both-true true true e = (refl, refl)
both-true true false e = absurd (cc)
both-true false b e = absurd (cc)

behind : List Bool → List Bool
behind [] = []
behind (x ∷ xs) = xs

module _ (nodes : List PoolNode) (rule : ℕ) (questions : List NodeId) (vars : ℕ) (before : Cnf) (lit : Lit) (asked : List Lit)
    (encoding : IsEncoding nodes (roots_of rule questions) vars before (lit ∷ asked)) (cnf : Cnf) (same : cnf.list ≡ before.list ++ (lit ∷ []) ∷ []) where
  abbrev value : List Bool → NodeId → Bool
  value set question = slice_index_or (pool_values set nodes) question.0 false

  with-rule : (set : List Bool) → Satisfies set before.list → lit_value set lit ≡ true → Satisfies set cnf.list
  with-rule set a b =
      subst (Satisfies set) (sym same)
      (list_all-append (clause_value set) before.list ((lit ∷ []) ∷ [])
      ∙ ap (λ x. x && ((lit_value set lit || false) && true)) a
      ∙ ap (λ v. (v || false) && true) b)

  without-rule : (set : List Bool) → Satisfies set cnf.list → Satisfies set before.list × (lit_value set lit ≡ true)
  without-rule set h =
      let whole : Satisfies set (before.list ++ (lit ∷ []) ∷ []) = subst (Satisfies set) same h in
      both-true _ (lit_value set lit) (sym (list_all-append (clause_value set) before.list ((lit ∷ []) ∷ [])) ∙ whole)

  rule-value : (set more : List Bool) → length set ≡ vars → Satisfies (set ++ more) before.list
      → lit_value (set ++ more) lit ≡ slice_index_or (pool_values set nodes) rule false
  rule-value set more each satisfied = ap (λ bs. slice_index_or bs 0 false) (encoding.means set more each satisfied)

  through : (set : List Bool) (qs : List NodeId) → map (λ root. slice_index_or (pool_values set nodes) root false) (map (λ (q : NodeId). q.0) qs) ≡ map (value set) qs
  through set [] = refl
  through set (q ∷ qs) = ap (λ bs. value set q ∷ bs) (through set qs)

  values : (set more : List Bool) → length set ≡ vars → Satisfies (set ++ more) before.list → map (lit_value (set ++ more)) asked ≡ map (value set) questions
  unfolding behind
  values set more each satisfied = ap behind (encoding.means set more each satisfied) ∙ through set questions

  never-met : (n : ℕ) → AreNeverTrue cnf (take n asked) → AreNeverMet nodes rule (take n questions) vars
  never-met n none set each holds =
      let (more, long, satisfied) = encoding.extends set each in
      let whole = with-rule (set ++ more) satisfied (rule-value set more each satisfied ∙ holds) in
      fails-before (lit_value (set ++ more)) (value set) n asked questions (values set more each satisfied) (none (set ++ more) whole)

  first-met : (answer : Option Met) → IsFound cnf asked vars answer → IsFirstOf nodes rule questions vars answer
  first-met None none =
      λ set each holds.
      let (more, long, satisfied) = encoding.extends set each in
      let whole = with-rule (set ++ more) satisfied (rule-value set more each satisfied ∙ holds) in
      fails-there (lit_value (set ++ more)) (value set) asked questions (values set more each satisfied) (none (set ++ more) whole)
  first-met (Some met) first =
      let (satisfied, rule_true) = without-rule (met.set ++ first.more) first.satisfies in
      let (asked_lit, at, holds) = first.holds in
      let (question, there, is) =
      holds-there (lit_value (met.set ++ first.more)) (value met.set) asked questions (values met.set first.more first.each satisfied) met.question asked_lit at in
      record {
        each = first.each;
        rule_holds = sym (rule-value met.set first.more first.each satisfied) ∙ rule_true;
        holds = (question, there, is ∙ holds);
        none_before = never-met met.question first.none_before;
      }

-- what holds of all literals holds of those behind the first
pub all-behind : {X : Type 0} (P : X → Type 0) (xs : List X) → All P xs → All P (take (length xs - 1) (drop 1 xs))
all-behind P [] all = All-nil P
all-behind P (x ∷ xs) all = subst (All P) (sym (take_all (length (x ∷ xs) - 1) xs (omega arith))) (All-tail P x xs all)

-- the same of the literals as one list
pub first-of : (nodes : List PoolNode) (rule : ℕ) (questions : List NodeId) (vars : ℕ) (before cnf : Cnf) (lits clause asked : List Lit)
    → IsEncoding nodes (roots_of rule questions) vars before lits → cnf.list ≡ before.list ++ clause ∷ [] → clause ≡ take 1 lits
    → asked ≡ take (length lits - 1) (drop 1 lits) → (answer : Option Met) → IsFound cnf asked vars answer → IsFirstOf nodes rule questions vars answer
first-of nodes rule questions vars before cnf [] clause asked encoding list is e answer found = absurd (omega (arith, encoding.count))
first-of nodes rule questions vars before cnf (lit ∷ lits) clause asked encoding list is e answer found =
    first-met nodes rule questions vars before lit lits encoding cnf (list ∙ ap (λ c. before.list ++ c ∷ []) is) answer
    (subst (λ ls. IsFound cnf ls vars answer) (e ∙ take_all (length (lit ∷ lits) - 1) lits (omega arith)) found)
