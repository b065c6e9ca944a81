-- There is one answer for a registry, but for which of several circles through the first name on any is told.
use Rattle.std.proofs.Common.{◌≡◌, ◌⊎◌, ℕ, ◌<◌, Bool, true, false, List, [], ◌∷◌, length, map, slice_get, Option, Some, None, All, Contains, Ordering, Less, Equal, Greater, refl, sym, ap, subst, ◌∙◌, inl, inr, ⊎_elim, arith}
use Rattle.std.specs.Prelude.{Ok, Err, Result}
use Rattle.std.specs.Cmp.Lexicographic.{slice_cmp}
use Rattle.std.specs.Ordering.{is_lt, nat_cmp, ordering_then}
use Rattle.std.proofs.lemmas.Bool.{cases_order, true≢false}
use Rattle.std.proofs.lemmas.List.Elements.{All-contains, All-cons, All-head, All-nil, All-tail}
use Rattle.std.proofs.lemmas.Option.{none-some, same_Some}
use Rattle.vkb_bytes.specs.First.{first_of, IsFirst as IsFirstPlace}
use Rattle.vkb_formula.specs.Expressions.{Expression, Spells}
use Rattle.reg_registry.specs.Naming.{IsCircle, IsNamingCycle, IsOnCircle}
use Rattle.reg_registry.specs.Rows.{Rows}
use Rattle.reg_forms.specs.declared.forms.DependsText.{DependsText}
use Rattle.reg_forms.specs.declared.forms.Fault.{Fault}
use Rattle.reg_forms.specs.declared.forms.Forms.{Forms}
use Rattle.reg_forms.specs.declared.forms.RowCode.{RowCode}
use Rattle.reg_forms.specs.declared.forms.RowCode.TheVariants.{BadAttribute, ApiType, BadExpression, DuplicateName, UnknownName, ValueRange, ValueClash, AliasCircle, NameLimit}
use Rattle.reg_tables.specs.Bits.{Readings}
use Rattle.reg_tables.specs.Tables.{features_in}
use Rattle.reg_tables.specs.Words.{AreReadings, IsReadAs}
use Rattle.reg_rows.specs.Answer.{IsAccepted, IsAnswer}
use Rattle.reg_rows.specs.Faults.{IsFirst, faults_of, rank, stands_before}
use Rattle.reg_rows.specs.Laws.{AnswersAreOne, IsSameAnswer, IsTold}
use Rattle.reg_rows.specs.Rows.{names_in, rows_of}
use Rattle.reg_rows.specs.declared.fault.RowFault.TheVariants.{Bad, Memory, NamingCycle, NoFeature}
use Rattle.reg_rows.specs.declared.fault.RowFault.{RowFault}
use Rattle.reg_rows.proofs.OrderLemmas.{same-fault}

-- two first faults are one
first-one : (faults : List Fault) (a b : Fault) → IsFirst faults a → IsFirst faults b → a ≡ b
first-one faults a b first other =
    same-fault a b (All-contains (λ one. stands_before one b ≡ false) faults a other.first first.one) (All-contains (λ one. stands_before one a ≡ false) faults b first.first other.one)

none-first : (faults : List Fault) (a : Fault) → faults ≡ [] → IsFirst faults a → ⊥
none-first faults a none first = let c : Contains [] a = subst (λ (fs : List Fault). Contains fs a) none first.one in omega (arith, c.1)

head-of : (names : List (List ℕ)) (o : Option (List ℕ)) (os : List (Option (List ℕ))) → map Some names ≡ o ∷ os → first_of names ≡ o
head-of [] o os e = absurd (cc)
head-of (name ∷ names) o os e = cc

first-same : (P : ℕ → Type 0) (a b : ℕ) → IsFirstPlace P a → IsFirstPlace P b → a ≡ b
first-same P a b first other =
    ⊎_elim (λ (e : a ≡ b). e) (λ o. ⊎_elim (λ (l : a < b). absurd (other.first a l first.here)) (λ (l : b < a). absurd (first.first b l other.here)) o) (cases_order a b)

module _ (one-expression : (e f : Expression) (text : List ℕ) → Spells e text → Spells f text → e ≡ f) where
  read-same : (text : List ℕ) (a b : Option Expression) → IsReadAs text a → IsReadAs text b → a ≡ b
  read-same text None None a b = refl
  read-same text None (Some e) a b = absurd (a e b)
  read-same text (Some e) None a b = absurd (b e a)
  read-same text (Some e) (Some f) a b = ap Some (one-expression e f text a b)

  readings-same : (one other : Readings) → map (λ reading. reading.0) one ≡ map (λ reading. reading.0) other → All (λ reading. IsReadAs reading.0.text reading.1) one
      → All (λ reading. IsReadAs reading.0.text reading.1) other → one ≡ other
  readings-same [] [] e a b = refl
  readings-same [] (y ∷ ys) e a b = absurd (cc)
  readings-same (x ∷ xs) [] e a b = absurd (cc)
  readings-same (x ∷ xs) (y ∷ ys) e a b =
      let texts : x.0 ≡ y.0 = cc in
      let rest : map (λ reading. reading.0) xs ≡ map (λ reading. reading.0) ys = cc in
      let read : x.1 ≡ y.1 = read-same x.0.text x.1 y.1 (All-head (λ reading. IsReadAs reading.0.text reading.1) x xs a)
      (subst (λ (t : DependsText). IsReadAs t.text y.1) (sym texts) (All-head (λ reading. IsReadAs reading.0.text reading.1) y ys b)) in
      let first : x ≡ y = λ i. (texts i, read i) in
      ap (λ r. r ∷ xs) first ∙ ap (λ rs. y ∷ rs) (readings-same xs ys rest (All-tail (λ reading. IsReadAs reading.0.text reading.1) x xs a) (All-tail (λ reading. IsReadAs reading.0.text reading.1) y ys b))

  module _ (f : Forms) where
    same : (one other : Readings) → AreReadings f one → AreReadings f other → one ≡ other
    same one other a b = readings-same one other (a.texts ∙ sym b.texts) a.each b.each

    -- a fault is none where nothing is wrong
    sound-first : (one other : Readings) (fault : Fault) → AreReadings f one → AreReadings f other → faults_of f one ≡ [] → IsFirst (faults_of f other) fault → ⊥
    sound-first one other fault a b none first =
        none-first (faults_of f other) fault (subst (λ (r : Readings). faults_of f r ≡ []) (same one other a b) none) first

    circle-none : (one other : Readings) (r : Rows) (names : List (List ℕ)) → AreReadings f one → AreReadings f other → r ≡ rows_of f one
        → ((place : ℕ) → IsOnCircle r.rows place → ⊥) → IsNamingCycle (rows_of f other) names → ⊥
    circle-none one other r names a b are none cycle =
        none cycle.first (subst (λ (r : Rows). IsOnCircle r.rows cycle.first) (sym (are ∙ ap (rows_of f) (same one other a b))) cycle.is_circle.is_first.here)

    first-name : (r : Rows) (names others : List (List ℕ)) → IsNamingCycle r names → IsNamingCycle r others → first_of names ≡ first_of others
    first-name r names others a b =
        head-of names (slice_get r.names a.first) (map (slice_get r.names) a.others) a.named ∙ ap (slice_get r.names) (first-same (IsOnCircle r.rows) a.first b.first a.is_circle.is_first b.is_circle.is_first)
        ∙ sym (head-of others (slice_get r.names b.first) (map (slice_get r.names) b.others) b.named)

    one-answer : (answer other : Result Rows RowFault) → IsTold answer → IsTold other → IsAnswer f answer → IsAnswer f other → IsSameAnswer answer other
    one-answer (Ok x) (Ok y) t u a b = ap Ok (a.2 ∙ ap (rows_of f) (same a.0 b.0 a.1.read b.1.read) ∙ sym b.2)
    one-answer (Ok x) (Err (Bad code at word)) t u a b = absurd (sound-first a.0 b.0 _ a.1.read b.1 a.1.sound b.2)
    one-answer (Ok x) (Err NoFeature) t u a b = absurd (a.1.offered b.3)
    one-answer (Ok x) (Err (NamingCycle names)) t u a b = absurd (circle-none a.0 b.0 x names a.1.read b.1.read a.2 a.3 b.2)
    one-answer (Ok x) (Err Memory) t u a b = absurd u
    one-answer (Err (Bad code at word)) (Ok y) t u a b = absurd (sound-first b.0 a.0 _ b.1.read a.1 b.1.sound a.2)
    one-answer (Err (Bad code at word)) (Err (Bad code' at' word')) t u a b =
        ap (λ (fault : Fault). Bad fault.code fault.at fault.word)
        (first-one (faults_of f a.0) _ _ a.2 (subst (λ (r : Readings). IsFirst (faults_of f r) _) (same b.0 a.0 b.1 a.1) b.2))
    one-answer (Err (Bad code at word)) (Err NoFeature) t u a b = absurd (sound-first b.0 a.0 _ b.1 a.1 b.2 a.2)
    one-answer (Err (Bad code at word)) (Err (NamingCycle names)) t u a b = absurd (sound-first b.0 a.0 _ b.1.read a.1 b.1.sound a.2)
    one-answer (Err (Bad code at word)) (Err Memory) t u a b = absurd u
    one-answer (Err NoFeature) (Ok y) t u a b = absurd (b.1.offered a.3)
    one-answer (Err NoFeature) (Err (Bad code at word)) t u a b = absurd (sound-first a.0 b.0 _ a.1 b.1 a.2 b.2)
    one-answer (Err NoFeature) (Err NoFeature) t u a b = refl
    one-answer (Err NoFeature) (Err (NamingCycle names)) t u a b = absurd (b.1.offered a.3)
    one-answer (Err NoFeature) (Err Memory) t u a b = absurd u
    one-answer (Err (NamingCycle names)) (Ok y) t u a b = absurd (circle-none b.0 a.0 y names b.1.read a.1.read b.2 b.3 a.2)
    one-answer (Err (NamingCycle names)) (Err (Bad code at word)) t u a b = absurd (sound-first a.0 b.0 _ a.1.read b.1 a.1.sound b.2)
    one-answer (Err (NamingCycle names)) (Err NoFeature) t u a b = absurd (a.1.offered b.3)
    one-answer (Err (NamingCycle names)) (Err (NamingCycle others)) t u a b =
        first-name (rows_of f a.0) names others a.2 (subst (λ (r : Readings). IsNamingCycle (rows_of f r) others) (same b.0 a.0 b.1.read a.1.read) b.2)
    one-answer (Err (NamingCycle names)) (Err Memory) t u a b = absurd u
    one-answer (Err Memory) other t u a b = absurd t

pub answers-one : ((e f : Expression) (text : List ℕ) → Spells e text → Spells f text → e ≡ f) → AnswersAreOne
answers-one one-expression f = one-answer one-expression f
