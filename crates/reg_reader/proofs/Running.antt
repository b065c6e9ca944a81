-- Runs over whole texts.
use Rattle.std.proofs.Common.{◌≡◌, ℕ, zero, suc, ◌+◌, ◌<◌, ◌≤◌, List, length, Some, refl, sym, ap, subst, ◌∙◌, arith}
use Rattle.std.specs.Prelude.{Result, Ok, Err, IfOk}
use Rattle.reg_reader.specs.Bounds.{IsWithin}
use Rattle.reg_reader.specs.Markup.{Spells}
use Rattle.reg_reader.specs.Reading.{Gives, IsRead, IsFaultAt, IsEndOf}
use Rattle.reg_reader.specs.declared.markup.Node.{Node}
use Rattle.reg_reader.specs.declared.markup.MarkupFault.{MarkupFault}
use Rattle.reg_reader.specs.declared.markup.MarkupFault.TheVariants as fault
use Rattle.reg_reader.specs.declared.phase.Phase.TheVariants as phase
use Rattle.reg_reader.specs.declared.reader.Stop.{Stop}
use Rattle.reg_reader.specs.declared.reader.Stop.TheVariants as stop
use Rattle.reg_reader.specs.Machine.{State, Move, Next, Bad, Deep, step, run, then_step}
use Rattle.reg_reader.proofs.Reached.{IsReached, Leads}
use Rattle.reg_reader.proofs.SoundSteps.{sound, begins, ends}
use Rattle.reg_reader.proofs.WithinLemmas.{reached-within}

module _ (most : ℕ) (b : List ℕ) where
  then-leads : (n : ℕ) (m : Move) → n < length b → Leads b most m n → Leads b most (then_step most b n m) (n + 1)
  then-leads n (Next s) lt leads = sound b most lt leads
  then-leads n Bad lt leads = tt
  then-leads n Deep lt leads = tt

  run-leads : (n : ℕ) → n ≤ length b → Leads b most (run most b n) n
  run-leads zero le = begins b most
  run-leads (suc n) le =
      subst (Leads b most (run most b (suc n))) (let e : n + 1 ≡ suc n = omega arith in e) (then-leads n (run most b n) (omega arith) (run-leads n (omega arith)))

  pub run-reached : (n : ℕ) (s : State) → n ≤ length b → run most b n ≡ Next s → IsReached b most s n
  run-reached n s le e = subst (λ m. Leads b most m n) e (run-leads n le)

  pub run-within : (n : ℕ) (s : State) → n ≤ length b → run most b n ≡ Next s → IsWithin n s
  run-within n s le e = reached-within (run-reached n s le e)

  pub run-next : (n : ℕ) (s : State) → run most b n ≡ Next s → run most b (n + 1) ≡ step most b n s
  run-next n s e = ap (run most b) (let h : n + 1 ≡ suc n = omega arith in h) ∙ ap (then_step most b n) e

-- a stop is a fault of the whole reading
pub stopped : (b : List ℕ) (n : ℕ) (s new : State) (why : Stop) (f : MarkupFault) → n < length b → run 32 b n ≡ Next s → Gives (Err why) (step 32 b n s) new → IsFaultAt n why f → IsRead b (Err f)
stopped b n s new stop.Wrong f lt at gives is =
    subst (λ x. IsRead b (Err x)) (sym is) (omega arith, (s, at, ((λ _. gives), (λ e root p r. absurd (omega arith)))))
stopped b n s new stop.TooDeep f lt at gives is = subst (λ x. IsRead b (Err x)) (sym is) (n, lt, refl, (s, at, gives))
stopped b n s new stop.Memory f lt at gives is = subst (λ x. IsRead b (Err x)) (sym is) tt

-- what is whole at the end
whole-state : (s : State) (root : Node) (m : Move) → m ≡ Next s → s.phase ≡ phase.Outside → s.root ≡ Some root → m ≡ Next (record { phase = phase.Outside; opens = s.opens; root = Some root })
whole-state s root m e p r =
    e ∙ ap (λ x. Next (record { phase = x; opens = s.opens; root = s.root })) p ∙ ap (λ x. Next (record { phase = phase.Outside; opens = s.opens; root = x })) r

pub ended : (b : List ℕ) (n : ℕ) (s : State) (r : Result Node MarkupFault) → n ≡ length b → run 32 b n ≡ Next s → IsEndOf (length b) s r → IsRead b r
ended b n s (Ok root) e at is = (s.opens, whole-state s root _ (ap (run 32 b) (sym e) ∙ at) is.0 is.1)
ended b n s (Err (fault.BadMarkup place)) e at is = (omega (arith, is.0), (s, ap (run 32 b) (is.0 ∙ sym e) ∙ at, ((λ lt. absurd (omega (arith, is.0))), (λ _. is.1))))
ended b n s (Err (fault.TooDeep place)) e at is = absurd is
ended b n s (Err fault.Memory) e at is = absurd is

-- what is read is spelled so
pub read-spells : (b : List ℕ) (root : Node) → IsRead b (Ok root) → Spells 32 root b
read-spells b root read = ends b 32 (run-reached 32 b (length b) _ (omega arith) read.1)

pub found : (b : List ℕ) (r : Result Node MarkupFault) → IsRead b r → IfOk r (λ root. Spells 32 root b)
found b (Ok root) read = read-spells b root read
found b (Err f) read = tt
