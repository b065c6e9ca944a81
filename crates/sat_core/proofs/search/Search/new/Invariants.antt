use Rattle.std.proofs.Common.{◌≤◌, take, All}
use Rattle.std.specs.Vec.{vec_capacity}
use Rattle.sat_cnf.specs.Clauses.{IsWithin}
use Rattle.sat_core.proofs.SearchLemmas.{AreKept}
use Rattle.sat_core.proofs.search.Search.new.Given as goal

-- the clauses so far are watched, and there is room for the pairs of all
abbrev pub invariant-loop-number : goal.invariant-loop-number
invariant-loop-number l = record {
  kept : AreKept l.clauses.vars (take l.number l.clauses.list) l.watches l.pairs.items;
  within : All (All (IsWithin l.clauses.vars)) (take l.number l.clauses.list);
  room : l.number-end ≤ vec_capacity l.pairs;
}
