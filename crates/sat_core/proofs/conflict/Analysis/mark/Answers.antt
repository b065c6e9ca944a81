use Rattle.std.proofs.Common.{◌≡◌, true, take, ◌∙◌, arith}
use Rattle.std.proofs.lemmas.List.{take_more}
use Rattle.std.proofs.lemmas.Option.{slice_get_within}
use Rattle.sat_cnf.specs.declared.lit.Lit.{Lit}
use Rattle.sat_core.proofs.ConflictMarkLemmas.{Marks-skip, Marks-more}
use Rattle.sat_core.proofs.conflict.Analysis.mark.Goals as goal
use Rattle.sat_core.proofs.conflict.Analysis.mark.Goals.{then-not-is_left_out, else-not-is_left_out}

pub loop-lit-preserved : goal.loop-lit-preserved
loop-lit-preserved c =
    let zero : Lit = record { 0 = 0 } in
    rw (take_more c.args.clause.now c.loop-lit.lit-index zero c.loop-lit-test.true) (
    elim c.if-not-is_left_out.branch [
      | then-not-is_left_out w ↦
          let (entry, found, is) = w.place_of.ensures in
          let within = slice_get_within c.args.trail.now.entries w.place_of.result entry found in
          rw w.self-is (
          Marks-more c.args.trail.now.entries c.args.but c.args.self.now (take c.loop-lit.lit-index c.args.clause.now) _ c.loop-lit.self c.loop-lit.invariant
          w.place_of.result w.mark_at.new.self (λ e. let t : c.is_left_out.result ≡ true = c.is_left_out.ensures.1 e in absurd (cc)) (entry, found, is ∙ w.negation.ensures)
          (omega (arith, within, c.loop-lit.invariant.counted.each)) w.mark_at.ensures.marked w.mark_at.ensures.counted w.mark_at.ensures.more
          )
      | else-not-is_left_out w ↦ rw w.self-is (
          Marks-skip c.args.trail.now.entries c.args.but c.args.self.now (take c.loop-lit.lit-index c.args.clause.now) _ c.loop-lit.self c.loop-lit.invariant
          (c.is_left_out.ensures.0 w.if-not-is_left_out.false)
          )
    ])
