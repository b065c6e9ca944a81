use Rattle.std.proofs.Common.{◌≡◌, ◌∙◌, ◌++◌, List, ℕ, ap, map}
use Rattle.vkb_text.specs.Lines.{lines_of}
use Rattle.hdr_writer.specs.Declarations.{declaration}
use Rattle.doc_build.specs.Pages.{silent_line}
use Rattle.doc_build.specs.Pieces.{page_piece}
use Rattle.doc_build.proofs.UsageLemmas.{listing-put}
use Rattle.doc_build.proofs.pages.put_listing.Goals as goal

pub returns : goal.returns
returns c =
    let number = c.args.number in
    let text = declaration c.args.r.now c.args.c.now.chosen.items c.args.id in
    let read : c.as_slice.result.now ≡ text = c.as_slice.ensures ∙ c.in_ok-declared.ensures in
    listing-put number c.args.name.now text c.args.pieces.now.items c.put_anchor.new.pieces.items c.put_silent.new.pieces.items c.put_silent-2.new.pieces.items c.put_lines.new.pieces.items
    c.put_silent-3.new.pieces.items c.in_ok-put_anchor.ensures c.in_ok-put_silent.ensures c.in_ok-put_silent-2.ensures
    (c.in_ok-put_lines.ensures ∙ ap (λ (t : List ℕ). c.put_silent-2.new.pieces.items ++ map (page_piece number) (map silent_line (lines_of t))) read) c.in_ok-put_silent-3.ensures
