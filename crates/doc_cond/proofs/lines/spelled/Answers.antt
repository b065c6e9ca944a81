use Rattle.std.proofs.Common.{◌≡◌, ◌∙◌, sym, ap, true, false}
use Rattle.std.proofs.lemmas.Bool.{or_right, or_from}
use Rattle.vkb_bytes.specs.Bytes.{begins}
use Rattle.doc_cond.specs.Lines.{opening}
use Rattle.doc_cond.proofs.Families.{unspelled_eval}
use Rattle.doc_cond.proofs.lines.spelled.Goals as goal

pub returns-then-begins : goal.returns-then-begins
returns-then-begins c =
    let begun = sym c.begins.ensures ∙ c.if-begins.true in
    record { begun = or_right _ _ begun; unspelled = unspelled_eval c.args.line.now begun }

pub returns : goal.returns
returns c =
    let line = c.args.line.now in
    let no_ifdef : begins line (opening false) ≡ false = sym (ap (begins line) c.opening.ensures) ∙ c.in_default.ensures.none in
    let no_ifndef : begins line (opening true) ≡ false = sym (ap (begins line) c.opening-2.ensures) ∙ c.in_default-after.ensures.none in
    record {
      no_conditional = or_from _ _ (or_from _ _ (or_from _ _ no_ifdef no_ifndef) c.in_default-after-2.ensures.none) (sym c.begins.ensures ∙ c.if-begins.false);
      no_include = c.in_default-after-3.ensures.none;
      no_refpage = c.in_default-refpage_name.ensures.none;
      no_comment = sym c.is_comment.ensures ∙ c.if-is_comment.false;
    }
