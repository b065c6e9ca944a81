use Rattle.std.proofs.Common.{◌≡◌, ◌∙◌, ◌∷◌, [], sym, ap, subst}
use Rattle.std.proofs.lemmas.Bool.{false≢true}
use Rattle.std.specs.List.{AllByRecursion}
use Rattle.doc_cond.specs.Lines.{IsPart}
use Rattle.doc_cond.proofs.Pieces.{pieces, pieces_cut, pieces_whole}
use Rattle.doc_cond.proofs.PathPieces.{path_from_pieces, pieces_from_path}
use Rattle.doc_cond.proofs.paths.is_path.Goals as goal

pub returns-then-not-is_part : goal.returns-then-not-is_part
returns-then-not-is_part c =
    let found = c.in-Some.ensures.found in
    let cut : pieces 47 c.loop-part.rest.now ≡ c.in-Some.part.now ∷ pieces 47 c.in-Some.more.now = ap (pieces 47) found.0 ∙ pieces_cut 47 c.in-Some.part.now c.in-Some.more.now found.1 in (
      λ h. absurd (false≢true h),
      λ h. sym c.if-not-is_part.true ∙ c.is_part.ensures.1 (subst (AllByRecursion IsPart) cut (c.loop-part.invariant.1 (pieces_from_path _ h))).0,
    )

pub loop-part-preserved : goal.loop-part-preserved
loop-part-preserved c =
    let found = c.in-Some.ensures.found in
    let cut : pieces 47 c.loop-part.rest.now ≡ c.in-Some.part.now ∷ pieces 47 c.in-Some.more.now = ap (pieces 47) found.0 ∙ pieces_cut 47 c.in-Some.part.now c.in-Some.more.now found.1 in (
      λ h. c.loop-part.invariant.0 (subst (AllByRecursion IsPart) (sym cut) (c.is_part.ensures.0 c.if-not-is_part.false, h)),
      λ h. (subst (AllByRecursion IsPart) cut (c.loop-part.invariant.1 h)).1,
    )

pub returns : goal.returns
returns c =
    let cut : pieces 47 c.loop-part.rest.now ≡ c.loop-part.rest.now ∷ [] = pieces_whole 47 c.loop-part.rest.now c.in_default.ensures.none in (
      λ h. path_from_pieces c.args.text.now (c.loop-part.invariant.0 (subst (AllByRecursion IsPart) (sym cut) (c.is_part-2.ensures.0 h, tt))),
      λ h. c.is_part-2.ensures.1 (subst (AllByRecursion IsPart) cut (c.loop-part.invariant.1 (pieces_from_path c.args.text.now h))).0,
    )
