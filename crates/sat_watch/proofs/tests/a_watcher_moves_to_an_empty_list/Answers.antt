use Rattle.std.proofs.Common.{[], ◌∷◌, ap, refl}
use Rattle.sat_watch.specs.Watching.{list_at}
use Rattle.sat_watch.proofs.tests.a_watcher_moves_to_an_empty_list.Goals as goal

pub move_to-requires-clause-place : goal.move_to-requires-clause-place
move_to-requires-clause-place c t = record {
  passed = 1 ∷ [];
  rest = [];
  split = ap (λ w. list_at w.lists 0) t.in_ok-watches.ensures;
  last = ([], refl);
}
