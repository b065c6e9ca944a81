use Rattle.std.proofs.Common.{ℕ, subst, arith}
use Rattle.reg_registry.specs.Naming.{Names}
use Rattle.reg_registry.proofs.WayLemmas.{looked-more, no-circle}
use Rattle.reg_registry.proofs.circles.way.way_round.Goals as goal

pub loop-place-preserved : goal.loop-place-preserved
loop-place-preserved c = record {
  search = c.in_ok-look_at.ensures.search;
  looked = looked-more c.args.rows.now c.args.first c.loop-place.search c.look_at.new.self c.in_ok-look_at.ensures.more c.loop-place.place c.name.ensures.0 c.name.ensures.1
      c.loop-place.invariant.looked
      (λ n. absurd (cc (c.if-names.false, c.names.ensures.1 (subst (λ (x : ℕ). Names c.args.rows.now x c.args.first) c.name.ensures.2 n))))
      (c.in_ok-look_at.ensures.met c.name.ensures.0 c.name.ensures.1);
}

pub returns : goal.returns
returns c =
    no-circle c.args.rows.now c.args.first c.loop-place.search c.loop-place.invariant.search c.loop-place.place (omega (arith, c.len.ensures, c.loop-place-test.false)) c.loop-place.invariant.looked
