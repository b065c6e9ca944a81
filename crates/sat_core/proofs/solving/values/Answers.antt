use Rattle.std.proofs.Common.{arith, ◌∙◌, length, sym, subst, ◌≡◌, ℕ, ◌*◌, ◌<◌, List, Bool, false, true, slice_index_or, Contains}
use Rattle.sat_cnf.specs.declared.lit.Lit.{Lit}
use Rattle.sat_cnf.specs.Clauses.{IsWithin}
use Rattle.sat_cnf.specs.Models.{Satisfies, lit_value}
use Rattle.sat_core.specs.Solving.{IsTruthOf}
use Rattle.sat_core.specs.Trails.{lits_of}
use Rattle.sat_core.proofs.SolvingLemmas.{lit-true, satisfied, truths-push}
use Rattle.sat_core.proofs.solving.values.Goals as goal

pub loop-variable-preserved : goal.loop-variable-preserved
loop-variable-preserved c =
    truths-push _ c.loop-variable.values.items c.push.new.self.items c.is_true.result c.loop-variable.variable c.in_ok-push.ensures.items c.loop-variable.invariant c.is_true.ensures

pub returns-clause-each : goal.returns-clause-each
returns-clause-each c =
    let all : c.loop-variable.variable ≡ c.args.search.now.vars = omega (arith, c.loop-variable-test.false, c.loop-variable.auto.variable-end, c.requires.vars) in
    subst (λ (set : List Bool). length set ≡ c.args.search.now.vars) (sym c.from_vec.ensures) (c.loop-variable.invariant.0 ∙ all)

pub returns-clause-satisfies : goal.returns-clause-satisfies
returns-clause-satisfies c =
    let s = c.args.search.now in
    let all : c.loop-variable.variable ≡ s.vars = omega (arith, c.loop-variable-test.false, c.loop-variable.auto.variable-end, c.requires.vars) in
    let values = c.loop-variable.values.items in
    let truths : (variable : ℕ) → variable < s.vars → IsTruthOf (lits_of s.trail) (record { 0 = 2 * variable }) (slice_index_or values variable false) =
    λ variable below. c.loop-variable.invariant.1 variable (omega (arith, below, all)) in
    subst (λ (set : List Bool). Satisfies set s.clauses) (sym c.from_vec.ensures)
    (satisfied values s.vars (lits_of s.trail) truths c.requires.decided s.clauses s.steps c.literals_are_within.ensures c.requires.open)

pub returns-clause-stands : goal.returns-clause-stands
returns-clause-stands c =
    let s = c.args.search.now in
    let all : c.loop-variable.variable ≡ s.vars = omega (arith, c.loop-variable-test.false, c.loop-variable.auto.variable-end, c.requires.vars) in
    let values = c.loop-variable.values.items in
    let truths : (variable : ℕ) → variable < s.vars → IsTruthOf (lits_of s.trail) (record { 0 = 2 * variable }) (slice_index_or values variable false) =
    λ variable below. c.loop-variable.invariant.1 variable (omega (arith, below, all)) in
    subst (λ (set : List Bool). (lit : Lit) → IsWithin s.vars lit → Contains (lits_of s.trail) lit → lit_value set lit ≡ true) (sym c.from_vec.ensures)
    (lit-true values s.vars (lits_of s.trail) truths)
