use Rattle.std.proofs.Common.{◌<◌, length, arith, ap}
use Rattle.sat_cnf.proofs.ClauseLemmas.{length-cut_at, slice_get-cut_at}
use Rattle.sat_cnf.proofs.clauses.Clauses.clause.Goals as goal

pub piece-requires-clause-place : goal.piece-requires-clause-place
piece-requires-clause-place c =
    rw c.as_slice-2.ensures.value
    (omega (arith, length-cut_at 0 c.self.inside.ends.items c.self.inside.literals.items, ap (λ v. length v.list) c.self.view_is, c.requires))

pub returns-clause-clause : goal.returns-clause-clause
returns-clause-clause c =
    let within : c.args.place < length c.self.inside.ends.items =
    omega (arith, length-cut_at 0 c.self.inside.ends.items c.self.inside.literals.items, ap (λ v. length v.list) c.self.view_is, c.requires) in
    rw (← c.self.view_is, c.piece.ensures.range, c.as_slice.ensures.value, c.as_slice-2.ensures.value) (slice_get-cut_at 0 _ _ _ within)
