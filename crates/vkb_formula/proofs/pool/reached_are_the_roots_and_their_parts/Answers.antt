use Rattle.vkb_formula.proofs.ClosureLemmas.{reach-by-parts, reach-down, reach-roots, reach-closed, reach-least, sum-least, sum-exact, one-root}
use Rattle.vkb_formula.proofs.pool.reached_are_the_roots_and_their_parts.Goals as goal

pub returns : goal.returns
returns c = record {
  parts = reach-by-parts;
  down = reach-down;
  roots = reach-roots;
  closed = reach-closed;
  least = reach-least;
  sum = sum-least;
  exact = sum-exact;
  one = one-root;
}
