use Rattle.std.proofs.Common.{◌≡◌, ℕ, ◌-◌, ◌<◌, ◌≤◌, None}
use Rattle.doc_marks.specs.Marks.{mark_at}
use Rattle.doc_marks.proofs.search.macro_before.Given as goal

-- no mark begins at the places that were tried
abbrev pub invariant-loop-letters : goal.invariant-loop-letters
invariant-loop-letters l =
    (k : ℕ) → 5 ≤ k → k < l.letters → k ≤ l.colon - l.scan → mark_at l.line (l.colon - k) ≡ None
