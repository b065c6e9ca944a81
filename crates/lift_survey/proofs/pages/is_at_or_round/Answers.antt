use Rattle.std.proofs.Common.{◌≡◌, sym, ◌+◌, ◌<◌, length, get_or, slice_get, Option, Some, arith, subst}
use Rattle.std.specs.Option.{option_map_or}
use Rattle.doc_tree.specs.declared.Cond.{Cond}
use Rattle.doc_tree.specs.declared.CondId.{CondId}
use Rattle.doc_tree.specs.Loaded.{IsBefore}
use Rattle.lift_survey.specs.Keeping.{Covers}
use Rattle.lift_survey.proofs.CoverLemmas.{cond-there, covers-next, walk-smaller, wider-before}
use Rattle.lift_survey.proofs.pages.is_at_or_round.Goals as goal

pub loop-at-preserved : goal.loop-at-preserved
loop-at-preserved c =
    let conds = c.args.conds.now in
    let inner = c.args.inner in
    let at = c.in-Some.cond in
    let found = c.index-conds-cond.result in
    let below : at.0 < length conds = subst (λ (o : Option CondId). IsBefore (length conds) o) c.in-Some.is c.loop-at.invariant.0 in
    let covers : Covers conds (Some at) inner = subst (λ (o : Option CondId). Covers conds o inner) c.in-Some.is c.loop-at.invariant.1 in
    let there : slice_get conds at.0 ≡ Some found = cond-there conds at.0 found below c.index-conds-cond.is in
    subst (λ (f : Cond). IsBefore (length conds) f.within × Covers conds f.within inner) c.index-conds-cond.is
    (wider-before at.0 (length conds) found.within (omega (arith, below)) (c.requires.ordered at.0 found there), covers-next conds inner at found c.requires.ordered there covers)

pub loop-at-smaller : goal.loop-at-smaller
loop-at-smaller c =
    let conds = c.args.conds.now in
    let at = c.in-Some.cond in
    let found = c.index-conds-cond.result in
    let below : at.0 < length conds = subst (λ (o : Option CondId). IsBefore (length conds) o) c.in-Some.is c.loop-at.invariant.0 in
    let there : slice_get conds at.0 ≡ Some found = cond-there conds at.0 found below c.index-conds-cond.is in
    subst (λ (o : Option CondId). option_map_or (λ (i : CondId). i.0 + 1) (get_or conds at.0 found).within 0 < option_map_or (λ (i : CondId). i.0 + 1) o 0) (sym c.in-Some.is)
    (subst (λ (f : Cond). option_map_or (λ (i : CondId). i.0 + 1) f.within 0 < at.0 + 1) c.index-conds-cond.is (walk-smaller conds at.0 found c.requires.ordered there))
