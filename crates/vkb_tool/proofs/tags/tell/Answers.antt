use Rattle.std.proofs.Common.{◌<◌, length, Some, refl, sym, ap, ◌∙◌, arith}
use Rattle.std.proofs.lemmas.Option.{slice_get_read}
use Rattle.vkb_tool.specs.Outcome.{writes_alone}
use Rattle.vkb_tool.specs.Tagging.{bad_tag}
use Rattle.vkb_tool.specs.declared.status.Status.TheVariants.{Refused}
use Rattle.vkb_tool.proofs.MalformedLemmas.{bad_there}
use Rattle.vkb_tool.proofs.TagsLemmas.{length-tagged}
use Rattle.vkb_tool.proofs.tags.tell.Goals as goal

pub changed-requires-clause-news : goal.changed-requires-clause-news
changed-requires-clause-news c =
    let pages = c.pages_are_one.ensures.some in
    ap length (c.into_vec.ensures ∙ c.in-Ok.ensures.files_are pages.0 pages.1) ∙ length-tagged pages.0 c.args.first c.args.texts.now ∙ c.requires.count

pub bounds-names-file : goal.bounds-names-file
bounds-names-file c =
    let there = (bad_there c.args.texts.now c.in-Err-BadTag.file c.in-Err-BadTag.line (rw c.in-Err-BadTag.field-0-is at c.in-Err-BadTag.ensures)).1 in
    let counted = c.requires.count in
    omega arith

pub returns-in_ok-output-in-Err-BadTag-clause-told : goal.returns-in_ok-output-in-Err-BadTag-clause-told
returns-in_ok-output-in-Err-BadTag-clause-told c =
    let names = c.args.names.now in
    let file = c.in-Err-BadTag.file in
    let is = rw c.in-Err-BadTag.field-0-is at c.in-Err-BadTag.ensures in
    let there = (bad_there c.args.texts.now file c.in-Err-BadTag.line is).1 in
    let within : file < length names = let counted = c.requires.count in omega arith in
    bad_tag (record {
      place = file;
      line = c.in-Err-BadTag.line;
      file = c.as_str.result.now;
      named = slice_get_read names (length names) file c.index-names-file.result refl within c.index-names-file.is ∙ ap Some (sym c.as_str.ensures);
      is = is;
      told = c.written.ensures ∙ ap (writes_alone Refused) c.in_ok-output-in-Err-BadTag.ensures;
    })
