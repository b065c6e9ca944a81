use Rattle.std.proofs.Common.{◌≡◌, ◌+◌, length, IfSome}
use Rattle.std.specs.List.{sum_by}
use Rattle.vkb_tool.specs.Outcome.{most_text}
use Rattle.vkb_tool.proofs.ReadingLemmas.{IsReadTo}
use Rattle.vkb_tool.proofs.tags.read_files.Given as goal

-- the files so far were read, and their bytes and the room are all that there may be
abbrev pub invariant-loop-name : goal.invariant-loop-name
invariant-loop-name g l =
    (length l.texts.items ≡ l.name-index)
    × (sum_by length l.texts.items + l.room ≡ most_text)
    × IfSome (g.S.Shelf.holds l.fn.shelf) (λ files. IsReadTo files l.names most_text l.name-index l.texts.items l.room)
    × (g.S.Shelf.holds l.shelf ≡ g.S.Shelf.holds l.fn.shelf)
    × (g.S.Shelf.read_faults l.shelf ≡ g.S.Shelf.read_faults l.fn.shelf)
    × (g.S.Shelf.put_faults l.shelf ≡ g.S.Shelf.put_faults l.fn.shelf)
