use Rattle.std.proofs.Common.{ap, sym, subst}
use Rattle.sat_cnf.specs.Clauses.{IsWithin}
use Rattle.sat_core.specs.Searching.{IsSearch, State}
use Rattle.sat_core.proofs.GrowthLemmas.{grows-then, waits-then}
use Rattle.sat_core.proofs.PropagationLemmas.{comes-within}
use Rattle.sat_core.proofs.WalkLemmas.{smaller-moves, smaller-stays, walked-all, walking-moves, walking-stays}
use Rattle.sat_core.proofs.search.Search.walk.Goals as goal

pub loop-at-smaller-in-Stays : goal.loop-at-smaller-in-Stays
loop-at-smaller-in-Stays c =
    smaller-stays c.loop-at.self c.visit.new.self c.args.lit c.loop-at.before c.loop-at.at c.next-at.result c.in-Some.watcher c.loop-at.invariant.walking c.in-Some.is
    c.self-in-Some.inside.watches (ap (λ (s : State). s.watches) c.self-in-Some.view_is) c.each_stands_once.ensures.once c.next-at.ensures.next c.in-Stays.ensures.keeps c.in-Stays.ensures.visited

pub loop-at-preserved-in-Stays : goal.loop-at-preserved-in-Stays
loop-at-preserved-in-Stays c = record {
  grows = grows-then _ _ _ c.loop-at.invariant.grows c.in-Stays.ensures.grows;
  waits = waits-then _ _ _ c.loop-at.invariant.waits c.in-Stays.ensures.waits;
  watched = c.in-Stays.ensures.watched;
  walking = walking-stays c.loop-at.self c.visit.new.self c.args.lit c.loop-at.before c.loop-at.at c.next-at.result c.in-Some.watcher c.loop-at.invariant.walking c.in-Some.is
      c.self-in-Some.inside.watches (ap (λ (s : State). s.watches) c.self-in-Some.view_is) c.each_stands_once.ensures.once c.next-at.ensures.next c.in-Stays.ensures.keeps c.in-Stays.ensures.visited;
}

pub loop-at-smaller : goal.loop-at-smaller
loop-at-smaller c =
    smaller-moves c.loop-at.self c.visit.new.self c.args.lit c.loop-at.before c.loop-at.at c.next-at.result c.in-Some.watcher c.loop-at.invariant.walking c.in-Some.is
    c.self-in-Some.inside.watches (ap (λ (s : State). s.watches) c.self-in-Some.view_is) c.each_stands_once.ensures.once c.next-at.ensures.next c.in-Moves.ensures.keeps c.in-Moves.ensures.visited

pub loop-at-preserved : goal.loop-at-preserved
loop-at-preserved c = record {
  grows = grows-then _ _ _ c.loop-at.invariant.grows c.in-Moves.ensures.grows;
  waits = waits-then _ _ _ c.loop-at.invariant.waits c.in-Moves.ensures.waits;
  watched = c.in-Moves.ensures.watched;
  walking = walking-moves c.loop-at.self c.visit.new.self c.args.lit c.loop-at.before c.loop-at.at c.next-at.result c.in-Some.watcher c.loop-at.invariant.walking c.in-Some.is
      c.self-in-Some.inside.watches (ap (λ (s : State). s.watches) c.self-in-Some.view_is) c.each_stands_once.ensures.once c.next-at.ensures.next c.in-Moves.ensures.keeps c.in-Moves.ensures.visited;
}

pub returns-in-Strikes-clause-grows : goal.returns-in-Strikes-clause-grows
returns-in-Strikes-clause-grows c = grows-then _ _ _ c.loop-at.invariant.grows c.in-Strikes.ensures.grows

pub returns-clause-found : goal.returns-clause-found
returns-clause-found c =
    let is : IsSearch c.args.self.now = subst IsSearch c.self.view_is c.self.invariant.1 in
    let within = subst (λ vars. IsWithin vars c.args.lit) (sym c.loop-at.invariant.grows.vars_same) (comes-within c.args.self.now c.args.lit is c.requires.comes) in
    walked-all c.loop-at.self c.args.lit c.loop-at.before c.loop-at.at within c.loop-at.invariant.watched c.loop-at.invariant.walking c.in_default.is
