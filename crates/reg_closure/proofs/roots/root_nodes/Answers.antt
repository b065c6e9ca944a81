use Rattle.reg_closure.proofs.MadeLemmas.{Keeps-then}
use Rattle.reg_closure.proofs.roots.root_nodes.Goals as goal

pub returns-in_err-blocks-clause-keeps : goal.returns-in_err-blocks-clause-keeps
returns-in_err-blocks-clause-keeps c = Keeps-then c.args.pool.now c.option_nodes.new.pool c.block_nodes.new.pool c.option_nodes.ensures.keeps c.block_nodes.ensures.keeps

pub returns-clause-keeps : goal.returns-clause-keeps
returns-clause-keeps c =
    Keeps-then c.args.pool.now c.block_nodes.new.pool c.roots_of.new.pool (Keeps-then c.args.pool.now c.option_nodes.new.pool c.block_nodes.new.pool c.option_nodes.ensures.keeps c.block_nodes.ensures.keeps) c.roots_of.ensures.keeps
