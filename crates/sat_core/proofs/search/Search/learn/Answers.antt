use Rattle.std.proofs.Common.{◌≡◌, ℕ, ◌+◌, ◌<◌, ◌^◌, List, All, length, ap, sym, subst, ◌∙◌, arith}
use Rattle.sat_cnf.specs.declared.lit.Lit.{Lit}
use Rattle.sat_cnf.specs.Clauses.{IsWithin}
use Rattle.sat_proof.specs.Refutations.{Follows}
use Rattle.sat_core.specs.Searching.{IsAsserting, IsLearnedPair, State, held_in}
use Rattle.sat_core.specs.Trails.{Assigned}
use Rattle.sat_core.specs.Watching.{IsPairOf}
use Rattle.sat_core.proofs.LearnLemmas.{learned-search, unlearned}
use Rattle.sat_core.proofs.search.Search.learn.Goals as goal

pub invariant_of-self-in_err-watch : goal.invariant_of-self-in_err-watch
invariant_of-self-in_err-watch c =
    let s : State = record {
      vars = c.self.inside.clauses.now.vars;
      clauses = c.self.inside.clauses.now.list;
      steps = c.self.inside.steps.items;
      trail = c.self.inside.trail.entries;
      watches = c.self.inside.watches;
      pairs = c.self.inside.pairs.items;
      gone = c.self.inside.gone;
      begun = c.self.inside.begun;
      phase = c.self.inside.phase;
    } in (
      c.self.invariant.0,
      unlearned s c.reserve.new.self.items c.watch.new.watches c.reserve-2.new.self.items c.self.invariant.1 c.reserve.ensures.items c.reserve-2.ensures.items
          c.in_err-watch.ensures.lists (λ lit other h. c.in_err-watch.ensures.same lit other (omega (arith, h, c.vars.ensures))),
    )

pub invariant_of-self-2 : goal.invariant_of-self-2
invariant_of-self-2 c =
    let s : State = record {
      vars = c.self.inside.clauses.now.vars;
      clauses = c.self.inside.clauses.now.list;
      steps = c.self.inside.steps.items;
      trail = c.self.inside.trail.entries;
      watches = c.self.inside.watches;
      pairs = c.self.inside.pairs.items;
      gone = c.self.inside.gone;
      begun = c.self.inside.begun;
      phase = c.self.inside.phase;
    } in
    let is : s ≡ c.args.self.now = c.self.view_is in
    let good : Follows (held_in s) c.args.step = subst (λ (t : State). Follows (held_in t) c.args.step) (sym is) c.requires.good in
    let within : All (IsWithin s.vars) c.args.step.clause = subst (λ (t : State). All (IsWithin t.vars) c.args.step.clause) (sym is) c.requires.within in
    let asserts : IsAsserting s.trail c.args.step.clause c.asserted_by-asserted.result.lit =
    subst (λ (clause : List Lit). IsAsserting s.trail clause c.asserted_by-asserted.result.lit) c.as_slice-2.ensures c.asserted_by-asserted.ensures.lit in
    let of : IsPairOf c.args.step.clause c.asserted_by-asserted.result.pair =
    subst (λ (clause : List Lit). IsPairOf clause c.asserted_by-asserted.result.pair) c.as_slice-2.ensures c.asserted_by-asserted.ensures.pair in
    let learned : IsLearnedPair s.trail c.args.step.clause c.asserted_by-asserted.result.lit c.asserted_by-asserted.result.pair =
    subst (λ (clause : List Lit). IsLearnedPair s.trail clause c.asserted_by-asserted.result.lit c.asserted_by-asserted.result.pair) c.as_slice-2.ensures
    c.asserted_by-asserted.ensures.learned in
    let number : ℕ = c.len.result + length c.as_slice.result.now in
    let number_is : number ≡ length s.clauses + length s.steps = omega (arith, c.len.ensures, ap length c.as_slice.ensures.value) in
    let few : number + 1 < 2 ^ 63 = omega (arith, c.as_slice.type_inv.1, c.self.invariant.1.few_clauses, c.len.ensures) in (
      ap (λ (t : Assigned). t.vars) c.imply.ensures ∙ c.self.invariant.0,
      rw (
        c.push_reserved-2.ensures.items,
        c.reserve.ensures.items,
        c.push_reserved.ensures.items,
        c.reserve-2.ensures.items,
        ap (λ (t : Assigned). t.entries) c.imply.ensures,
      ) (
          learned-search s c.args.step c.asserted_by-asserted.result.lit number c.asserted_by-asserted.result.pair c.watch.new.watches c.self.invariant.1 good within asserts of learned
          number_is few c.in_ok-watch.ensures.lists (λ lit other h. c.in_ok-watch.ensures.ok lit other (omega (arith, h, c.vars.ensures)))
          ),
    )
