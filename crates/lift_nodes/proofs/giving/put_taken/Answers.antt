use Rattle.std.proofs.Common.{◌∙◌, sym}
use Rattle.std.proofs.lemmas.Bool.{eqb-true}
use Rattle.lift_nodes.proofs.GivingLemmas.{taken-by-before, taken-by-not, taken-by-put}
use Rattle.lift_nodes.proofs.giving.put_taken.Goals as goal

pub returns-then-eq-clause-node : goal.returns-then-eq-clause-node
returns-then-eq-clause-node c =
    taken-by-before c.args.pool.now c.args.constants c.requires.constants c.args.line c.args.before c.requires.line c.requires.before
    (eqb-true c.args.before.0 c.args.constants.never.0 (sym c.eq.ensures ∙ c.if-eq.true))

pub returns-then-eq-2-clause-node : goal.returns-then-eq-2-clause-node
returns-then-eq-2-clause-node c =
    taken-by-not c.args.pool.now c.args.constants c.requires.constants c.args.line c.args.before c.requires.line c.requires.before c.put.new.pool c.in_ok-isnt.isnt c.in_ok-isnt.ensures.put
    (eqb-true c.args.before.0 c.args.constants.always.0 (sym c.eq-2.ensures ∙ c.if-eq-2.true))

pub returns-clause-node : goal.returns-clause-node
returns-clause-node c =
    taken-by-put c.args.pool.now c.args.constants c.requires.constants c.args.line c.args.before c.requires.line c.requires.before c.put.new.pool c.in_ok-isnt.isnt c.in_ok-isnt.ensures.put c.put_both.new.pool
    c.in_ok-node.node c.in_ok-node.ensures.put
