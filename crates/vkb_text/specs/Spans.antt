-- Parts of a text.
use Rattle.std.specs.Prelude.{ℕ, ◌≤◌, List, length, slice_range}
use Rattle.vkb_text.specs.declared.Span.{Span}

-- the bytes of a span
abbrev pub slice_at : List ℕ → Span → List ℕ
slice_at text span = slice_range text span.from span.to

-- the span lies in the text
pub record IsWithin (text : List ℕ) (span : Span) : Type 0 where
  pub order : span.from ≤ span.to
  pub end : span.to ≤ length text
