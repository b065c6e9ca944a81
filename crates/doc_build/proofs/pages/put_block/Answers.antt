use Rattle.std.proofs.Common.{◌∙◌, ◌++◌, List, ap, map, sym}
use Rattle.doc_build.specs.Choices.{PageLine}
use Rattle.doc_build.specs.Pages.{block}
use Rattle.doc_build.specs.Pieces.{page_piece}
use Rattle.std.proofs.lemmas.List.{append-nil}
use Rattle.doc_build.proofs.UsageLemmas.{block-put, none-stands, some-stands, standing_from}
use Rattle.doc_build.proofs.pages.put_block.Goals as goal

pub returns-then-not-any_stands : goal.returns-then-not-any_stands
returns-then-not-any_stands c =
    let set = c.args.set.now in
    let all = c.args.all.now in
    let items = c.args.pieces.now.items in
    sym (append-nil items)
    ∙ ap (λ (lines : List PageLine). items ++ map (page_piece c.args.number) (block lines)) (sym (none-stands set 1 all (sym c.if-not-any_stands.ensures)))

pub returns : goal.returns
returns c =
    let set = c.args.set.now in
    let all = c.args.all.now in
    let some = some-stands set 1 all (sym c.if-not-any_stands.ensures) in
    block-put c.args.number c.args.pieces.now.items c.put_silent.new.pieces.items c.put_silent-2.new.pieces.items c.put_standing.new.pieces.items c.put_silent-3.new.pieces.items
    some.0 some.1 (standing_from set 1 all) some.2 c.in_ok-put_silent.ensures c.in_ok-put_silent-2.ensures c.in_ok-put_standing.ensures c.in_ok-put_silent-3.ensures
