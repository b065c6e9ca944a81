use Rattle.std.proofs.Common.{arith}
use Rattle.reg_permit.proofs.NodeLemmas.{PoolLaws, extends-more, formula-node}
use Rattle.reg_permit.proofs.putting.put_extension.Goals as goal

pub returns : goal.returns
returns c =
    let laws : PoolLaws = record { formulas = c.nodes_keep_their_meaning.ensures.formulas; count = c.nodes_keep_their_meaning.ensures.count; sums = c.nodes_keep_their_meaning.ensures.sums; shared = c.nodes_keep_their_meaning.ensures.shared } in
    record {
      before = extends-more c.args.pool.now c.put_tree.new.self c.put_asks.new.pool c.in_ok-asked.ensures.before c.in_ok-rule.ensures.before;
      reach = λ count l m. omega (arith, c.in_ok-asked.ensures.reach, c.in_ok-rule.ensures.reach);
      node = (
        formula-node laws c.put_tree.new.self c.put_asks.new.pool c.args.place c.in_ok-asked.asked c.in_ok-rule.rule c.args.depends.now
            c.in_ok-asked.ensures.unfolds c.in_ok-asked.ensures.clauses c.in_ok-rule.ensures.node,
        c.in_default.not-Always,
      );
    }
