use Rattle.std.proofs.Common.{◌≡◌, ◌+◌, ◌<◌, length, None, ap, sym, subst, ◌∙◌, arith}
use Rattle.sat_core.specs.declared.phase.Phase.TheVariants.{Quiet, Struck}
use Rattle.sat_core.specs.Searching.{IsNotStruck, IsSearch, Propagates, State}
use Rattle.sat_core.specs.Walking.{ComesTo, Grows}
use Rattle.sat_core.proofs.GrowthLemmas.{grows-gone, grows-then}
use Rattle.sat_core.proofs.PropagationLemmas.{search-go, search-phase}
use Rattle.sat_core.proofs.WalkLemmas.{comes-later, comes-to, fresh-there, propagates-quiet, propagates-struck}
use Rattle.sat_core.proofs.search.Search.propagate.Goals as goal

pub invariant_of-self : goal.invariant_of-self
invariant_of-self c =
    let struck = rw (← c.self-then-not-self.view_is) at c.in-Some.ensures.found in
    let is = search-phase _ (Struck c.in-Some.number) c.self-then-not-self.invariant.1 struck in
    (c.self-then-not-self.invariant.0, is)

pub returns-in-Some : goal.returns-in-Some
returns-in-Some c =
    let propagates = propagates-struck c.args.self.now c.settle.new.self c.in-Some.number c.in-Some.ensures.grows c.in-Some.ensures.found in
    rw (← c.self-then-not-self.view_is) at propagates

pub walk-requires-clause-comes : goal.walk-requires-clause-comes
walk-requires-clause-comes c =
    rw (← c.self-in-loop-self.view_is)
    (comes-to c.self-in-loop-self.inside.trail.entries c.self-in-loop-self.inside.gone c.entries-in-loop-self.result.now _ c.negation-lit.result c.entries-in-loop-self.ensures.entries
    (omega (arith, c.loop-self-test.true, ap length c.entries.ensures.entries, ap length c.entries-in-loop-self.ensures.entries)) c.negation-lit.ensures)

pub invariant_of-self-in-Some-walk : goal.invariant_of-self-in-Some-walk
invariant_of-self-in-Some-walk c =
    let struck = rw (← c.self-in-loop-self-2.view_is) at c.in-Some-walk.ensures.found in
    let is = search-phase _ (Struck c.in-Some-walk.number) c.self-in-loop-self-2.invariant.1 struck in
    (c.self-in-loop-self-2.invariant.0, is)

pub returns-in-Some-walk : goal.returns-in-Some-walk
returns-in-Some-walk c =
    let grows = grows-then _ _ _ c.loop-self.invariant.grows c.in-Some-walk.ensures.grows in
    let propagates = propagates-struck c.args.self.now c.walk.new.self c.in-Some-walk.number grows c.in-Some-walk.ensures.found in
    rw (← c.self-in-loop-self-2.view_is) at propagates

pub invariant_of-self-in-loop-self : goal.invariant_of-self-in-loop-self
invariant_of-self-in-loop-self c =
    let is : IsSearch c.loop-self.self = subst IsSearch c.self-in-loop-self.view_is c.self-in-loop-self.invariant.1 in
    let ahead : c.loop-self.self.gone < length c.loop-self.self.trail =
    omega (
      arith,
      c.loop-self-test.true,
      ap length c.entries.ensures.entries,
      ap (λ (s : State). s.gone) c.self-in-loop-self.view_is,
      ap (λ (s : State). length s.trail) c.self-in-loop-self.view_is,
    ) in
    let fresh = c.in_default-walk.ensures.waits.phase_same ∙ fresh-there c.loop-self.self is c.loop-self.invariant.phase ahead in
    let comes : ComesTo c.loop-self.self c.negation-lit.result =
    rw (← c.self-in-loop-self.view_is)
    (comes-to c.self-in-loop-self.inside.trail.entries c.self-in-loop-self.inside.gone c.entries-in-loop-self.result.now _ c.negation-lit.result c.entries-in-loop-self.ensures.entries
    (omega (arith, c.loop-self-test.true, ap length c.entries.ensures.entries, ap length c.entries-in-loop-self.ensures.entries)) c.negation-lit.ensures) in
    let later = comes-later c.loop-self.self c.walk.new.self c.negation-lit.result c.in_default-walk.ensures.grows c.in_default-walk.ensures.waits comes in
    let new : IsSearch c.walk.new.self = subst IsSearch c.self-in-loop-self-2.view_is c.self-in-loop-self-2.invariant.1 in
    let gone = search-go c.walk.new.self c.negation-lit.result new fresh later c.in_default-walk.ensures.found in
    (c.self-in-loop-self-2.invariant.0, rw (← c.self-in-loop-self-2.view_is) at gone)

pub loop-self-preserved : goal.loop-self-preserved
loop-self-preserved c =
    let grows = grows-then _ _ _ c.loop-self.invariant.grows c.in_default-walk.ensures.grows in
    let here : Grows c.args.self.now _ = rw (← c.self-in-loop-self-2.view_is) at grows in
    record {
      grows = grows-gone _ _ (c.self-in-loop-self-2.inside.gone + 1) here;
      begun = ap (λ (s : State). s.begun) c.self-in-loop-self-2.view_is ∙ c.in_default-walk.ensures.waits.begun_same ∙ c.loop-self.invariant.begun;
      phase = subst IsNotStruck (sym (ap (λ (s : State). s.phase) c.self-in-loop-self-2.view_is ∙ c.in_default-walk.ensures.waits.phase_same)) c.loop-self.invariant.phase;
    }

pub returns : goal.returns
returns c =
    let is : IsSearch c.loop-self.self = subst IsSearch c.self-in-loop-self.view_is c.self-in-loop-self.invariant.1 in
    let all : c.loop-self.self.gone ≡ length c.loop-self.self.trail =
    omega (
      arith,
      is.gone,
      c.loop-self-test.false,
      ap length c.entries.ensures.entries,
      ap (λ (s : State). s.gone) c.self-in-loop-self.view_is,
      ap (λ (s : State). length s.trail) c.self-in-loop-self.view_is,
    ) in
    subst (λ (s : State). Propagates c.args.self.now (record s { phase = Quiet }) None) (sym c.self-2.view_is)
    (propagates-quiet c.args.self.now c.loop-self.self c.loop-self.invariant.grows is c.loop-self.invariant.begun all)
