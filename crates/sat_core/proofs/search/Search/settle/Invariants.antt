use Rattle.std.proofs.Common.{◌≡◌, ◌<◌, ℕ, false, slice_index_or, None}
use Rattle.sat_proof.specs.Refutations.{hinted}
use Rattle.sat_core.specs.declared.phase.Phase.TheVariants.{Fresh}
use Rattle.sat_core.specs.Searching.{IsSettled, held_in}
use Rattle.sat_core.specs.Walking.{Grows}
use Rattle.sat_core.proofs.search.Search.settle.Given as goal

-- the clauses so far that have one literal are settled
abbrev pub invariant-loop-place : goal.invariant-loop-place
invariant-loop-place l = record {
  grows : Grows l.fn.self l.self;
  begun : l.self.begun ≡ false;
  fresh : l.self.phase ≡ Fresh;
  pairs : l.self.pairs ≡ l.fn.self.pairs;
  settled : (number : ℕ) → number < l.place → slice_index_or l.self.pairs number None ≡ None → IsSettled l.self.trail (hinted (held_in l.self) number);
}
