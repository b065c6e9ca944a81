use Rattle.std.proofs.Common.{◌≡◌, ◌++◌, take, map}
use Rattle.doc_tree.specs.Flat.{is_among}
use Rattle.doc_build.specs.Choices.{chosen_of}
use Rattle.doc_build.proofs.keeping.names_set.Given as goal

-- the names so far are told of
abbrev pub invariant-loop-id : goal.invariant-loop-id
invariant-loop-id l = l.set.items ≡ map (is_among (l.fixed ++ chosen_of l.options l.chosen)) (take l.id l.names)
