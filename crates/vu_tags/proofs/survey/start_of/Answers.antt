use Rattle.std.proofs.Common.{ℕ, List, take, ap, sym, ◌∙◌, refl, arith}
use Rattle.std.specs.List.{fold}
use Rattle.vu_tags.specs.Tags.{has_malformed, numbers_of, past, start_of}
use Rattle.vu_tags.proofs.TagLemmas.{start_more, start_none, well_more_files}
use Rattle.vu_tags.proofs.survey.start_of.Goals as goal

pub loop-file-init : goal.loop-file-init
loop-file-init c = record { small = omega arith; well = refl; start_is = sym (start_none c.args.first) }

pub loop-file-preserved : goal.loop-file-preserved
loop-file-preserved c =
    let files = c.args.files.now in
    let i = c.loop-file.file in
    let file = c.index-files-file.result in
    let read = rw c.as_slice-bytes.ensures at c.in-Ok.ensures.value in
    record {
      small = c.in-Ok.ensures.small;
      well = well_more_files files i file c.loop-file-test.true c.loop-file.invariant.well (ap has_malformed (sym c.index-files-file.is) ∙ read.0);
      start_is =
          read.1
          ∙ ap (λ (start : ℕ). fold past start (numbers_of file)) c.loop-file.invariant.start_is
          ∙ ap (λ (bytes : List ℕ). fold past (start_of c.args.first (take i files)) (numbers_of bytes)) c.index-files-file.is
          ∙ sym (start_more c.args.first files i file c.loop-file-test.true);
    }
