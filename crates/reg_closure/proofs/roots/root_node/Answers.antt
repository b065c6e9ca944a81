use Rattle.std.proofs.Common.{◌+◌, ◌&&◌}
use Rattle.reg_closure.specs.Made.{IsMade, cost, is_true}
use Rattle.reg_closure.proofs.MadeLemmas.{IfOk-map, Keeps-then, root-made}
use Rattle.reg_closure.proofs.roots.root_node.Goals as goal

pub returns-in_err-removed-clause-keeps : goal.returns-in_err-removed-clause-keeps
returns-in_err-removed-clause-keeps c = Keeps-then c.args.pool.now c.any_of.new.pool c.any_of-2.new.pool c.any_of.ensures.keeps c.any_of-2.ensures.keeps

pub returns-in_err-left-clause-keeps : goal.returns-in_err-left-clause-keeps
returns-in_err-left-clause-keeps c =
    Keeps-then c.args.pool.now c.any_of-2.new.pool c.put.new.pool (Keeps-then c.args.pool.now c.any_of.new.pool c.any_of-2.new.pool c.any_of.ensures.keeps c.any_of-2.ensures.keeps) c.put.ensures.keeps

pub returns-clause-keeps : goal.returns-clause-keeps
returns-clause-keeps c =
    Keeps-then c.args.pool.now c.put.new.pool c.both.new.pool
    (Keeps-then c.args.pool.now c.any_of-2.new.pool c.put.new.pool (Keeps-then c.args.pool.now c.any_of.new.pool c.any_of-2.new.pool c.any_of.ensures.keeps c.any_of-2.ensures.keeps) c.put.ensures.keeps)
    c.both.ensures.keeps

pub returns-clause-made : goal.returns-clause-made
returns-clause-made c =
    let three = c.put.new.pool in
    let new = c.both.new.pool in
    let required = c.in_ok-required.required in
    let left = c.in_ok-left.left in
    IfOk-map c.both.result (λ id. IsMade new id (λ chosen. is_true three chosen required && is_true three chosen left) (3 + (cost three required + cost three left))) _
    (λ id both. root-made c.args.pool.now c.any_of.new.pool c.any_of-2.new.pool three new c.args.blocks.now c.args.requirers.now c.args.removers.now required c.in_ok-removed.removed left id
    c.requires.held c.requires.requirers c.requires.removers c.any_of.ensures.keeps c.any_of-2.ensures.keeps c.put.ensures.keeps c.in_ok-required.ensures.made c.in_ok-removed.ensures.made c.in_ok-left.ensures.put both) c.both.ensures.made
