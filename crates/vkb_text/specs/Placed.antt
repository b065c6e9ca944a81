-- The lines of a part of the buffer, each with where it stands.
use Rattle.std.specs.Prelude.{◌≡◌, ℕ, ◌+◌, ◌<◌, ◌≤◌, List, length, map, All, AllPairs}
use Rattle.std.specs.List.{range_with_len}
use Rattle.vkb_text.specs.Lines.{lines_of}
use Rattle.vkb_text.specs.Spans.{slice_at}
use Rattle.vkb_text.specs.declared.Line.{Line}
use Rattle.vkb_text.specs.declared.Span.{Span}

-- the inner span lies within the whole
pub record IsPartOf (whole inner : Span) : Type 0 where
  pub start : whole.from ≤ inner.from
  pub order : inner.from ≤ inner.to
  pub end : inner.to ≤ whole.to

-- all lines of the part of the buffer at the whole, in order, as those of that file
pub record AreLines (text : List ℕ) (whole : Span) (file : ℕ) (lines : List Line) : Type 0 where
  pub bytes : map (λ line. slice_at text line.span) lines ≡ lines_of (slice_at text whole)
  pub file_is : All (λ line. line.file ≡ file) lines
  pub numbers : map (λ line. line.number) lines ≡ range_with_len 1 (length lines)
  pub within : All (λ line. IsPartOf whole line.span) lines
  -- a line takes a byte at least, its own or a line feed
  pub few : length lines + whole.from ≤ whole.to
  -- a line ends before the next one begins
  pub order : AllPairs (λ line later. line.span.to < later.span.from) lines
