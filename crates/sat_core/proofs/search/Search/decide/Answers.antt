use Rattle.std.proofs.Common.{◌≡◌, ap, sym, subst, ◌∙◌}
use Rattle.sat_cnf.specs.Clauses.{IsWithin}
use Rattle.sat_proof.specs.Propagation.{IsUndecided}
use Rattle.sat_core.specs.declared.phase.Phase.TheVariants.{Quiet}
use Rattle.sat_core.specs.Searching.{State}
use Rattle.sat_core.specs.Trails.{Assigned, lits_of}
use Rattle.sat_core.proofs.SearchLemmas.{decides}
use Rattle.sat_core.proofs.search.Search.decide.Goals as goal

pub invariant_of-self : goal.invariant_of-self
invariant_of-self c =
    let s : State = record {
      vars = c.self.inside.clauses.now.vars;
      clauses = c.self.inside.clauses.now.list;
      steps = c.self.inside.steps.items;
      trail = c.self.inside.trail.entries;
      watches = c.self.inside.watches;
      pairs = c.self.inside.pairs.items;
      gone = c.self.inside.gone;
      begun = c.self.inside.begun;
      phase = c.self.inside.phase;
    } in
    let is : s ≡ c.args.self.now = c.self.view_is in
    let quiet : s.phase ≡ Quiet = subst (λ (t : State). t.phase ≡ Quiet) (sym is) c.requires.quiet in
    let within : IsWithin s.vars c.args.lit = subst (λ (t : State). IsWithin t.vars c.args.lit) (sym is) c.requires.within in
    let undecided : IsUndecided (lits_of s.trail) c.args.lit = subst (λ (t : State). IsUndecided (lits_of t.trail) c.args.lit) (sym is) c.requires.undecided in
    let entries = ap (λ (t : Assigned). t.entries) c.decide.ensures in
    (ap (λ (t : Assigned). t.vars) c.decide.ensures ∙ c.self.invariant.0, rw entries (decides s c.args.lit c.self.invariant.1 quiet within undecided))
