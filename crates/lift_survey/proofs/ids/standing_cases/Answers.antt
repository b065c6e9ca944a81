use Rattle.std.proofs.Common.{◌≡◌, ◌∙◌, sym, ap, ◌+◌, List, [], ◌∷◌, ◌++◌, take, length, ◌<◌, subst}
use Rattle.std.specs.List.{AllZip}
use Rattle.std.proofs.lemmas.List.{take_more}
use Rattle.std.proofs.lemmas.List.Elements.{All-get_or}
use Rattle.lift_nodes.specs.declared.IdCase.{IdCase}
use Rattle.lift_survey.specs.declared.Case.{Case}
use Rattle.lift_survey.specs.Keeping.{IsCaseOf}
use Rattle.lift_survey.proofs.GrowthLemmas.{Grows-then, HasMore-then}
use Rattle.lift_survey.proofs.IdLemmas.{case-from, case-grown, zip-push, zip-weaker}
use Rattle.lift_survey.proofs.ids.standing_cases.Goals as goal

pub standing_case-requires-clause-always : goal.standing_case-requires-clause-always
standing_case-requires-clause-always c set = c.loop-case.invariant.grows.kept set c.args.constants.always c.requires.constants.always_held ∙ c.requires.constants.always set

pub loop-case-preserved : goal.loop-case-preserved
loop-case-preserved c =
    let old = c.args.pool.now in
    let mid = c.loop-case.pool in
    let new = c.standing_case.new.pool in
    let ids = c.standing_case.new.ids in
    let told = c.args.told.now in
    let k = c.loop-case.case-index in
    let item = c.case-item.result in
    let cases = c.loop-case.cases.items in
    let was = c.loop-case.invariant in
    let done = c.in_ok-kept.ensures in
    let is = IsCaseOf old new ids c.args.standing in
    let taken : take (k + 1) told ≡ take k told ++ item ∷ [] = take_more told k item c.loop-case-test.true ∙ ap (λ (t : IdCase). take k told ++ t ∷ []) (sym c.case-item.is) in
    let pushed : c.push.new.self.items ≡ cases ++ c.in_ok-kept.kept ∷ [] = c.in_ok-push.ensures.items in
    let node = subst (λ (t : IdCase). t.node.0 < length old) (sym c.case-item.is) (All-get_or (λ (t : IdCase). t.node.0 < length old) told k item c.loop-case-test.true c.requires.told) in
    record {
      grows = Grows-then old mid new was.grows done.grows;
      more = HasMore-then c.args.ids.now c.loop-case.ids ids was.more done.ids;
      are =
          subst (λ (ts : List IdCase). AllZip is ts c.push.new.self.items) (sym taken)
          (subst (λ (cs : List Case). AllZip is (take k told ++ item ∷ []) cs) (sym pushed)
          (zip-push is (take k told) cases item c.in_ok-kept.kept
          (zip-weaker (IsCaseOf old mid c.loop-case.ids c.args.standing) is (λ t case so. case-grown old mid new c.loop-case.ids ids c.args.standing t case done.grows done.ids so) (take k told) cases was.are)
          (case-from old mid new ids c.args.standing item c.in_ok-kept.kept was.grows c.requires.standing node done.case)));
    }
