use Rattle.std.proofs.Common.{ℕ, length, All, sym, subst}
use Rattle.lift_survey.specs.Survey.{AreHeld}
use Rattle.lift_check.proofs.VerdictLemmas.{found-numbered, found-within}
use Rattle.lift_check.proofs.judging.ask.Goals as goal

pub first_broken-requires-clause-anchors : goal.first_broken-requires-clause-anchors
first_broken-requires-clause-anchors c =
    subst (λ (ids : ℕ). All (AreHeld (length c.args.pool.now) ids) c.args.anchors.now) (sym c.len.ensures.count) c.requires.anchors

pub first_broken-requires-clause-links : goal.first_broken-requires-clause-links
first_broken-requires-clause-links c =
    subst (λ (ids : ℕ). All (AreHeld (length c.args.pool.now) ids) c.args.links.now) (sym c.len.ensures.count) c.requires.links

pub verdict_by-requires-clause-found : goal.verdict_by-requires-clause-found
verdict_by-requires-clause-found c = found-within c.args.pool.now c.args.rule c.args.vars c.args.anchors.now c.args.links.now c.in_ok-broken.broken c.in_ok-broken.ensures.first

pub verdict_by-requires-clause-numbered : goal.verdict_by-requires-clause-numbered
verdict_by-requires-clause-numbered c =
    found-numbered c.args.pool.now c.args.rule c.args.vars (length c.args.ids.now) c.args.anchors.now c.args.links.now c.in_ok-broken.broken c.requires.links c.in_ok-broken.ensures.first
