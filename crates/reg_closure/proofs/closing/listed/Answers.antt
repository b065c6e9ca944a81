use Rattle.std.proofs.Common.{◌≡◌, ◌+◌, ◌||◌, ℕ, Bool, Some, List, length, slice_get, take, sym, subst}
use Rattle.vkb_formula.specs.declared.name_table.NameId.{NameId}
use Rattle.reg_closure.specs.Closure.{has_name}
use Rattle.reg_closure.specs.Marking.{Tells, is_listed}
use Rattle.reg_closure.proofs.ClosingLemmas.{tells-less, tells-more}
use Rattle.reg_closure.proofs.closing.listed.Goals as goal
use Rattle.reg_closure.proofs.closing.listed.Goals.{then-counts, else-counts}

pub loop-block-preserved : goal.loop-block-preserved
loop-block-preserved c =
    let count = length c.args.r.now.names in
    let blocks = c.blocks-block-items.result.now in
    let end = c.loop-block.block-index in
    elim c.if-counts.branch [
      | then-counts w ↦
          subst (λ (set : List Bool). Tells count (is_listed c.args.adds (take (end + 1) blocks) c.args.chosen.now) set) (sym w.set-is)
          (tells-more count c.args.adds c.args.chosen.now blocks end c.block-item.result c.loop-block-test.true c.block-item.is c.loop-block.set c.loop-block.invariant
          w.add_all.new.set (sym w.if-counts.ensures) w.add_all.ensures.count
          (subst (λ (ids : List NameId). (place : ℕ) (was : Bool) → slice_get c.loop-block.set place ≡ Some was → slice_get w.add_all.new.set place ≡ Some (was || has_name ids place))
          w.as_slice.ensures w.add_all.ensures.each))
      | else-counts w ↦
          subst (λ (set : List Bool). Tells count (is_listed c.args.adds (take (end + 1) blocks) c.args.chosen.now) set) (sym w.set-is)
          (tells-less count c.args.adds c.args.chosen.now blocks end c.block-item.result c.loop-block-test.true c.block-item.is c.loop-block.set c.loop-block.invariant
          (sym w.if-counts.ensures))
    ]
