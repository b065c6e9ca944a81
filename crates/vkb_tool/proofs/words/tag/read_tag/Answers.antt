use Rattle.std.proofs.Common.{◌<◌, length, arith}
use Rattle.std.proofs.lemmas.List.{length-map}
use Rattle.std.proofs.lemmas.Result.{err_from_is_err_and}
use Rattle.vkb_tool.specs.Words.{items_of}
use Rattle.vkb_tool.proofs.TagWordsLemmas.{misplaced_file, no_file_named, no_number}
use Rattle.vkb_tool.proofs.words.tag.read_tag.Goals as goal

pub returns-in_default-clause-misplaced : goal.returns-in_default-clause-misplaced
returns-in_default-clause-misplaced c = no_number (items_of c.args.words.now) c.requires.first c.in_default.ensures.none

pub returns-then-words-lt3-clause-misplaced : goal.returns-then-words-lt3-clause-misplaced
returns-then-words-lt3-clause-misplaced c =
    let short : length (items_of c.args.words.now) < 3 = omega (arith, length-map c.args.words.now (λ w. w.items)) in
    no_file_named (items_of c.args.words.now) c.in-Some.first c.requires.first c.in-Some.ensures.written short

pub returns-in_err-files-clause-misplaced : goal.returns-in_err-files-clause-misplaced
returns-in_err-files-clause-misplaced c =
    let p = err_from_is_err_and c.from_residual.result c.from_residual.ensures.1 in
    rw (p.1, p.2) (misplaced_file (items_of c.args.words.now) c.in-Some.first c.in_err-files.field-0.0 c.requires.first c.in-Some.ensures.written c.in_err-files.ensures.wrong)
