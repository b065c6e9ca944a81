use Rattle.std.proofs.Common.{◌≡◌, ◌+◌, ◌*◌, ◌≤◌, ℕ, [], List, length, slice_index_or}
use Rattle.doc_tree.specs.Loaded.{IsBefore, round_at, rounds_of}
use Rattle.doc_tree.specs.Opening.{AreThere}
use Rattle.doc_tree.specs.Progress.{Extends, Grows}
use Rattle.doc_tree.specs.Running.{Agree, ByReads, IsAt}
use Rattle.doc_tree.specs.Sources.{AreSources, Sources}
use Rattle.doc_tree.specs.Walk.{Step}
use Rattle.doc_tree.proofs.WalkLemmas.{Reached}
use Rattle.doc_tree.proofs.walk.+walk.Given as goal

abbrev pub decreases-walk_file : goal.decreases-walk_file
decreases-walk_file g l = 2 * l.left + 1

abbrev pub decreases-follow : goal.decreases-follow
decreases-follow g l = 2 * l.left

abbrev pub invariant-walk_file-loop-place : goal.invariant-walk_file-loop-place
invariant-walk_file-loop-place g l = record {
  there : AreThere l.text.bytes l.draft l.kept.items;
  few : length l.draft.files ≤ length l.draft.lines + 1;
  grows : Grows l.initial.draft l.draft;
  kept_grows : Extends l.initial.kept.items l.kept.items;
  within : IsBefore (length l.draft.conds) l.within;
  text_grows : Extends l.initial.text.bytes l.text.bytes;
  most : l.text.most ≡ l.initial.text.most;
  holds : g.S.Shelf.holds l.shelf ≡ g.S.Shelf.holds l.initial.shelf;
  puts : g.S.Shelf.put_faults l.shelf ≡ g.S.Shelf.put_faults l.initial.shelf;
  reads : g.S.Shelf.read_faults l.shelf ≡ g.S.Shelf.read_faults l.initial.shelf;
  runs : ByReads (g.S.Shelf.holds l.initial.shelf) l.initial.draft.files (Agree l.draft.files) (λ files. (sources : Sources) → AreSources files sources → (room : ℕ) (before : List Step) → IsAt sources room before l.initial.text l.initial.draft l.initial.kept.items
      → Reached sources room before l.left (slice_index_or l.initial.draft.files l.file []) (round_at (rounds_of l.initial.draft) l.fn.round) l.place l.text l.draft l.kept.items l.within);
}
