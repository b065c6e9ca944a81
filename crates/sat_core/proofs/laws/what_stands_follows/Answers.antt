use Rattle.std.proofs.Common.{subst}
use Rattle.sat_core.specs.Searching.{FollowsFromClauses, FollowsFromDecisions}
use Rattle.sat_core.proofs.LawLemmas.{steps-follow, trail-follows}
use Rattle.sat_core.proofs.laws.what_stands_follows.Goals as goal

pub returns-clause-trail : goal.returns-clause-trail
returns-clause-trail c =
    subst FollowsFromDecisions c.search.view_is
    (trail-follows c.what_follows_is_true.ensures.units c.what_follows_is_true.ensures.steps _ c.search.invariant.1)

pub returns-clause-steps : goal.returns-clause-steps
returns-clause-steps c =
    subst FollowsFromClauses c.search.view_is
    (steps-follow c.what_follows_is_true.ensures.units c.what_follows_is_true.ensures.steps _ c.search.invariant.1)
