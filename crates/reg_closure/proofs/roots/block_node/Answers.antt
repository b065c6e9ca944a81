use Rattle.std.proofs.Common.{refl, ◌+◌, ◌&&◌}
use Rattle.reg_closure.specs.Made.{IsMade, cost, is_true, node_at}
use Rattle.reg_closure.proofs.MadeLemmas.{IfOk-map, Keeps-then, block-made}
use Rattle.reg_closure.proofs.roots.block_node.Goals as goal

pub returns-clause-keeps : goal.returns-clause-keeps
returns-clause-keeps c = Keeps-then c.args.pool.now c.put_formula.new.pool c.both.new.pool c.put_formula.ensures.keeps c.both.ensures.keeps

pub returns-clause-made : goal.returns-clause-made
returns-clause-made c =
    let mid = c.put_formula.new.pool in
    let new = c.both.new.pool in
    let block = c.args.block.now in
    let left = node_at c.args.options.now block.owner in
    let depends = c.in_ok-depends.depends in
    IfOk-map c.both.result (λ id. IsMade new id (λ chosen. is_true mid chosen left && is_true mid chosen depends) (3 + (cost mid left + cost mid depends))) _
    (λ id both. block-made c.args.pool.now mid new c.args.options.now block left depends id refl c.requires.options c.requires.owner c.put_formula.ensures.keeps c.in_ok-depends.ensures.made both) c.both.ensures.made
