use Rattle.std.proofs.Common.{ap}
use Rattle.std.proofs.lemmas.List.Elements.{All-drop, All-take}
use Rattle.sat_cnf.specs.Clauses.{IsWithin}
use Rattle.sat_core.specs.Trails.{lits_of}
use Rattle.sat_core.proofs.PropagationLemmas.{all-within}
use Rattle.sat_core.proofs.ReplacementLemmas.{free-before, free-behind}
use Rattle.sat_core.proofs.search.Search.replacement.Goals as goal

pub free_among-requires : goal.free_among-requires
free_among-requires c =
    let number = rw (← c.self.view_is) at c.requires in
    let clause = rw (← c.self.view_is) at c.clause-clause.ensures in
    let within = all-within _ c.args.number c.self.invariant.1 number in
    rw (c.self.invariant.0, c.split_at.ensures.back, clause) (All-drop (IsWithin _) c.start_in.result _ within)

pub free_among-requires-in-None : goal.free_among-requires-in-None
free_among-requires-in-None c =
    let number = rw (← c.self.view_is) at c.requires in
    let clause = rw (← c.self.view_is) at c.clause-clause.ensures in
    let within = all-within _ c.args.number c.self.invariant.1 number in
    rw (c.self.invariant.0, c.split_at.ensures.front, clause) (All-take (IsWithin _) c.start_in.result _ within)

pub returns-in-Some : goal.returns-in-Some
returns-in-Some c =
    let found = rw (c.split_at.ensures.back, c.clause-clause.ensures, ap (λ s. s.trail) c.self.view_is) at c.in-Some.ensures in
    free-behind (lits_of c.args.self.now.trail) _ c.args.lit c.args.other c.start_in.result c.in-Some.to found

pub returns-in-None : goal.returns-in-None
returns-in-None c =
    let behind = rw (c.split_at.ensures.back, c.clause-clause.ensures, ap (λ s. s.trail) c.self.view_is) at c.in-None.ensures in
    let before = rw (c.split_at.ensures.front, c.clause-clause.ensures, ap (λ s. s.trail) c.self.view_is) at c.free_among-in-None.ensures in
    free-before (lits_of c.args.self.now.trail) _ c.args.lit c.args.other c.start_in.result c.free_among-in-None.result behind before
