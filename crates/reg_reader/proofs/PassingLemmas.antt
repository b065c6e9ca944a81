-- Bytes that stand for themselves leave the reader as it is.
use Rattle.std.proofs.Common.{◌≡◌, ℕ, zero, suc, ◌+◌, ◌-◌, ◌<◌, ◌≤◌, inl, inr, Bool, true, false, not, ◌||◌, List, drop, Option, Some, None, refl, ap, subst, ◌∙◌, arith}
use Rattle.std.specs.Prelude.{slice_index, ◌==◌}
use Rattle.std.specs.Option.{option_map}
use Rattle.std.proofs.lemmas.Bool.{cond-false, cases_lt}
use Rattle.memchr.specs.Find.{Nowhere, Passes, is_byte3}
use Rattle.std.proofs.lemmas.List.{get_or-drop}
use Rattle.reg_reader.specs.Markup.{Each}
use Rattle.reg_reader.specs.Machine.{State, Next, run, step, move_of, fresh_run, run_after}
use Rattle.reg_reader.specs.Reading.{ending_of, is_plain}
use Rattle.reg_reader.specs.declared.markup.Part.{Part}
use Rattle.reg_reader.specs.declared.markup.Node.{Node}
use Rattle.reg_reader.specs.declared.phase.Phase.{Phase}
use Rattle.reg_reader.specs.declared.phase.Phase.TheVariants as phase
use Rattle.reg_reader.specs.declared.phase.Act.TheVariants as act
use Rattle.reg_reader.specs.declared.reader.Open.{Open}
use Rattle.reg_reader.proofs.Tokens.{state, stays}

none-of : (p q r : Bool) → not (p || q || r) ≡ true → (p ≡ false) × (q ≡ false) × (r ≡ false)
none-of false false false e = (refl, refl, refl)
none-of false false true e = cc
none-of false true r e = cc
none-of true q r e = cc

is-not : {P : Type 0} {x : ℕ} → None ≡ Some x → P
is-not e = cc

some-is : {x y : ℕ} → Some x ≡ Some y → x ≡ y
some-is e = cc

module _ (b : List ℕ) (n ending : ℕ) (plain : is_plain ending (slice_index b n) ≡ true) where
  run-same : (from : ℕ) → run_after b n from None ≡ Some (fresh_run from)
  run-same from =
      let not_here = none-of (slice_index b n == 60) (slice_index b n == 38) (slice_index b n == ending) plain in
      cond-false (slice_index b n == 60) _ _ not_here.0 ∙ cond-false (slice_index b n == 38) _ _ not_here.1

  text-same : (from : ℕ) (reference : Option ℕ) (opens : List Open) (root : Option Node) → ending_of (phase.Text (record { from = from; reference = reference })) ≡ Some ending → step 32 b n (state (phase.Text (record { from = from; reference = reference })) opens root) ≡ Next (state (phase.Text (record { from = from; reference = reference })) opens root)
  text-same from (Some place) opens root e = is-not e
  text-same from None opens root e =
      let not_here = none-of (slice_index b n == 60) (slice_index b n == 38) (slice_index b n == ending) plain in
      ap (move_of n opens root) (cond-false (slice_index b n == 60) _ _ not_here.0 ∙ ap (option_map (λ run. act.Go (phase.Text run))) (run-same from))

  value-same : (name : Part) (quote from : ℕ) (reference : Option ℕ) (opens : List Open) (root : Option Node) → ending_of (phase.Value name quote (record { from = from; reference = reference })) ≡ Some ending → step 32 b n (state (phase.Value name quote (record { from = from; reference = reference })) opens root) ≡ Next (state (phase.Value name quote (record { from = from; reference = reference })) opens root)
  value-same name quote from (Some place) opens root e = is-not e
  value-same name quote from None opens root e =
      let not_here = none-of (slice_index b n == 60) (slice_index b n == 38) (slice_index b n == ending) plain in
      let other : (slice_index b n == quote) ≡ false = ap (λ x. slice_index b n == x) (some-is e) ∙ not_here.2 in
      ap (move_of n opens root) (cond-false (slice_index b n == quote) _ _ other ∙ ap (option_map (λ run. act.Go (phase.Value name quote run))) (run-same from))

  step-same : (p : Phase) (opens : List Open) (root : Option Node) → ending_of p ≡ Some ending → step 32 b n (state p opens root) ≡ Next (state p opens root)
  step-same phase.Outside opens root e = is-not e
  step-same (phase.Text run) opens root e = text-same run.from run.reference opens root e
  step-same phase.Markup opens root e = is-not e
  step-same (phase.Comment from) opens root e = is-not e
  step-same phase.Declaration opens root e = is-not e
  step-same (phase.Name from) opens root e = is-not e
  step-same phase.Tag opens root e = is-not e
  step-same (phase.Attribute from) opens root e = is-not e
  step-same (phase.Equals name) opens root e = is-not e
  step-same (phase.Quote name) opens root e = is-not e
  step-same (phase.Value name quote run) opens root e = value-same name quote run.from run.reference opens root e
  step-same phase.ValueEnd opens root e = is-not e
  step-same phase.Slash opens root e = is-not e
  step-same (phase.EndName from) opens root e = is-not e
  step-same phase.EndWhite opens root e = is-not e

-- plain bytes leave the state as it is
pub passes-plain : (b : List ℕ) (n m ending : ℕ) (s : State) → ending_of s.phase ≡ Some ending → Each b (is_plain ending) n m → run 32 b n ≡ Next s → run 32 b m ≡ Next s
passes-plain b n m ending s e each at = stays 32 b (is_plain ending) s (λ k plain. step-same b k ending plain s.phase s.opens s.root e) each at

each-from : (b : List ℕ) (p : ℕ → Bool) (i m : ℕ) → ((k : ℕ) → i ≤ k → k < i + m → p (slice_index b k) ≡ true) → Each b p i (i + m)
each-from b p i zero h = subst (Each b p i) (let e : i ≡ i + zero = omega arith in e) Each.none
each-from b p i (suc m) h =
    subst (Each b p i) (let e : i + m + 1 ≡ i + suc m = omega arith in e)
    (Each.more (each-from b p i m (λ k low high. h k low (omega (arith, high)))) (h (i + m) (omega arith) (omega arith)))

plain-not : (p : Bool) → (p ≡ true → ⊥) → not p ≡ true
plain-not true h = absurd (h refl)
plain-not false h = refl

-- bytes before the first that isn't plain are plain
pub plain-before : (b : List ℕ) (ending m : ℕ) → Nowhere (Passes (is_byte3 60 38 ending) b) 0 m → Each b (is_plain ending) 0 m
plain-before b ending m none =
    subst (Each b (is_plain ending) 0) (let e : 0 + m ≡ m = omega arith in e)
    (each-from b (is_plain ending) 0 m (λ k low high. plain-not (is_byte3 60 38 ending (slice_index b k)) (none k low (omega (arith, high)))))

each-at : {b : List ℕ} {p : ℕ → Bool} {i j : ℕ} → Each b p i j → (k : ℕ) → i ≤ k → k < j → p (slice_index b k) ≡ true
each-at Each.none k low high = absurd (omega arith)
each-at {b} {p} (Each.more {j = j} each e) k low high =
    elim (cases_lt k j) [
      | inl lt ↦ each-at each k low lt
      | inr ge ↦ subst (λ x. p (slice_index b x) ≡ true) (let h : j ≡ k = omega (arith, ge, high) in h) e
    ]

-- plain bytes of what is left of a text
pub plain-behind : (b : List ℕ) (ending n m : ℕ) → Each (drop n b) (is_plain ending) 0 m → Each b (is_plain ending) n (n + m)
plain-behind b ending n m each =
    each-from b (is_plain ending) n m (λ k low high.
    let place : n + (k - n) ≡ k = omega (arith, low) in
    subst (λ x. is_plain ending x ≡ true) (get_or-drop n b (k - n) 0 ∙ ap (slice_index b) place) (each-at each (k - n) (omega arith) (omega (arith, low, high))))
