use Rattle.std.proofs.Common.{◌≡◌, ◌∷◌, true, take, drop, sym, ◌∙◌}
use Rattle.std.specs.List.{concat}
use Rattle.vu_tags.specs.Lines.{lines_of}
use Rattle.vu_tags.specs.Statements.{further_lines}
use Rattle.vu_tags.specs.Progress.{is_untagged_in}
use Rattle.vu_tags.specs.Tagged.{parameter_of, piece_of}
use Rattle.vu_tags.proofs.WritingLemmas.{untagged_long, written}
use Rattle.vu_tags.proofs.writing.put_line.Goals as goal

pub split_at-requires : goal.split_at-requires
split_at-requires c = untagged_long c.args.block (take c.args.len c.args.rest.now) (sym c.needs_tag.ensures ∙ c.if-not-needs_tag.false)

pub returns-clause-line : goal.returns-clause-line
returns-clause-line c =
    let line = take c.args.len c.args.rest.now in
    let lacks : is_untagged_in c.args.block line ≡ true = sym c.needs_tag.ensures ∙ c.if-not-needs_tag.false in
    rw (c.in_ok-extend_from_slice-3.ensures.items, c.in_ok-put_piece.ensures, c.in_ok-extend_from_slice-2.ensures.items, c.split_at.ensures.front, c.split_at.ensures.back, c.parameter_of-parameter.ensures, c.statement_of.ensures, lacks)
    (written c.args.text.now.items line (piece_of c.args.page.now (parameter_of (concat (line ∷ further_lines (lines_of (drop c.args.len c.args.rest.now))))) c.args.number))
