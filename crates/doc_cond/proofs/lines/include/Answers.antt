use Rattle.std.proofs.Common.{⊎_elim}
use Rattle.doc_cond.proofs.Targets.{other_include, no_target}
use Rattle.doc_cond.proofs.lines.include.Goals as goal

pub returns-in_default : goal.returns-in_default
returns-in_default c = no_target c.args.rest.now c.in_default.ensures.none

pub returns : goal.returns
returns c =
    let no_chapter = rw c.in_default-2.is at c.in_ok-file.ensures in
    let no_appendix = rw c.in_default-3.is at c.in_ok-file-2.ensures in
    other_include c.args.rest.now c.in-Some.target.now c.in-Some.ensures.found (λ file. ⊎_elim (no_chapter file) (no_appendix file)) c.in_default-page_name.ensures.none c.in_default-page_name-2.ensures.none
