use Rattle.std.proofs.Common.{◌≡◌, ◌<◌, ap, sym, subst, ◌∙◌}
use Rattle.sat_core.specs.Searching.{State}
use Rattle.sat_core.specs.Trails.{Assigned, decisions_of}
use Rattle.sat_core.proofs.SearchLemmas.{undoes}
use Rattle.sat_core.proofs.search.Search.undo.Goals as goal

pub invariant_of-self : goal.invariant_of-self
invariant_of-self c =
    let s : State = record {
      vars = c.self.inside.clauses.now.vars;
      clauses = c.self.inside.clauses.now.list;
      steps = c.self.inside.steps.items;
      trail = c.self.inside.trail.entries;
      watches = c.self.inside.watches;
      pairs = c.self.inside.pairs.items;
      gone = c.self.inside.gone;
      begun = c.self.inside.begun;
      phase = c.self.inside.phase;
    } in
    let is : s ≡ c.args.self.now = c.self.view_is in
    let earlier : c.args.decisions < decisions_of s.trail = subst (λ (t : State). c.args.decisions < decisions_of t.trail) (sym is) c.requires in
    let entries = ap (λ (t : Assigned). t.entries) c.undo.ensures.kept in (
      ap (λ (t : Assigned). t.vars) c.undo.ensures.kept ∙ c.self.invariant.0,
      rw (c.entries.ensures.entries, entries) (undoes s c.args.decisions c.self.invariant.1 earlier),
    )
