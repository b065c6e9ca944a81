use Rattle.std.proofs.Common.{sym, ap, ◌∙◌, arith}
use Rattle.sat_core.specs.Trails.{under}
use Rattle.sat_core.proofs.AssigningLemmas.{same-assigned}
use Rattle.sat_core.proofs.TrailLemmas.{under-cut}
use Rattle.sat_core.proofs.trail.Trail.undo.Goals as goal

pub returns-clause-kept : goal.returns-clause-kept
returns-clause-kept c =
    let first = c.loop-self.invariant.first in
    same-assigned c.loop-self.self (record {
      vars = c.args.self.now.vars;
      entries = under c.args.decisions c.args.self.now.entries;
    }) c.loop-self.invariant.vars (
    sym (
    ap (under c.args.decisions) first.1
    ∙ under-cut c.args.decisions c.loop-self.self.entries first.0 (omega (arith, c.decisions.ensures, c.loop-self-test.false)) first.2
    ))
