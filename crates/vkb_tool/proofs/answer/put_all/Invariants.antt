use Rattle.std.proofs.Common.{◌≡◌, List, ◌++◌, map}
use Rattle.std.specs.Vec.Iter.{into_iter_items}
use Rattle.vkb_tool.specs.Answer.{ArePut, put_of}
use Rattle.vkb_tool.specs.Outcome.{Put}
use Rattle.vkb_tool.proofs.answer.put_all.Given as goal

-- the files so far are put, and those that are still to come are the others
abbrev pub invariant-loop-put : goal.invariant-loop-put
invariant-loop-put g l =
    (goal.iterator-loop-put g).can_next l.put-iterator ×
    (goal.iterator-loop-put g).is_finite l.put-iterator ×
    (done : List Put) × (map put_of l.fn.puts.items ≡ done ++ map put_of (into_iter_items l.put-iterator)) × ArePut done (g.S.Shelf.holds l.fn.shelf) (g.S.Shelf.holds l.shelf)
    × (g.S.Shelf.put_faults l.shelf ≡ g.S.Shelf.put_faults l.fn.shelf) × (g.S.Shelf.read_faults l.shelf ≡ g.S.Shelf.read_faults l.fn.shelf)
