use Rattle.std.proofs.Common.{◌≡◌, ◌∙◌, ◌++◌, ◌&&◌, [], ◌∷◌, Bool, List, ap, sym, take}
use Rattle.doc_build.specs.Keeping.{meets_by, met_at, met_from}
use Rattle.doc_build.specs.Names.{is_on}
use Rattle.doc_build.proofs.KeepingLemmas.{met_from-more}
use Rattle.doc_build.proofs.keeping.met_among.Goals as goal

pub loop-cond-preserved : goal.loop-cond-preserved
loop-cond-preserved c =
    let met = meets_by (is_on c.args.set.now) in
    let here = c.cond-item.result in
    let before = met_from met [] (take c.loop-cond.cond-index c.args.conds.now) in
    let was : c.as_slice.result.now ≡ before = c.as_slice.ensures.value ∙ c.loop-cond.invariant in
    c.in_ok-push.ensures.items
    ∙ ap (λ (bs : List Bool). bs ++ c.is_met-met.result ∷ []) c.loop-cond.invariant
    ∙ ap (λ (b : Bool). before ++ b ∷ []) (c.is_met-met.ensures ∙ ap (λ (bs : List Bool). met_at bs here.within && met here) was)
    ∙ sym (met_from-more met c.args.conds.now c.loop-cond.cond-index here c.loop-cond-test.true c.cond-item.is)
