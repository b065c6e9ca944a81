use Rattle.std.proofs.Common.{◌+◌, List, subst, sym}
use Rattle.vkb_formula.specs.declared.pool.NodeId.{NodeId}
use Rattle.reg_closure.specs.Made.{AreMade, free, option_is}
use Rattle.reg_closure.proofs.MadeLemmas.{AreMade-more, Keeps-then, option-grows, option-made}
use Rattle.reg_closure.proofs.roots.option_nodes.Goals as goal

pub returns-in_err-id-clause-keeps : goal.returns-in_err-id-clause-keeps
returns-in_err-id-clause-keeps c = Keeps-then c.args.pool.now c.loop-option.pool c.put.new.pool c.loop-option.invariant.keeps c.put.ensures.keeps

pub returns-in_err-push-clause-keeps : goal.returns-in_err-push-clause-keeps
returns-in_err-push-clause-keeps c = Keeps-then c.args.pool.now c.loop-option.pool c.put.new.pool c.loop-option.invariant.keeps c.put.ensures.keeps

pub loop-option-preserved : goal.loop-option-preserved
loop-option-preserved c =
    let first = c.args.pool.now in
    let old = c.loop-option.pool in
    let new = c.put.new.pool in
    let option = c.loop-option.option in
    let id = c.in_ok-id.id in
    let put = c.in_ok-id.ensures.put in
    let before = c.loop-option.invariant in
    record {
      keeps = Keeps-then first old new before.keeps c.put.ensures.keeps;
      made = subst (λ (ids : List NodeId). AreMade (option + 1) new ids option_is free) (sym c.in_ok-push.ensures.items)
          (AreMade-more option old new c.loop-option.ids.items id option_is free c.put.ensures.keeps before.made (option-made old new id option put));
      grows = option-grows first old new id option before.grows put;
    }
