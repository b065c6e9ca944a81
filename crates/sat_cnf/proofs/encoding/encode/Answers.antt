use Rattle.std.proofs.Common.{◌∷◌, [], ◌++◌, List, ap, ◌∙◌}
use Rattle.sat_cnf.specs.declared.lit.Lit.{Lit}
use Rattle.sat_cnf.proofs.EncodingLemmas.{decided}
use Rattle.sat_cnf.proofs.encoding.encode.Goals as goal

pub returns-clause-decides : goal.returns-clause-decides
returns-clause-decides c =
    decided c.args.pool.now c.args.root.0 c.args.vars c.in_ok-clauses.clauses c.push.new.self c.in_ok-clauses.lits.items c.reached_are_the_roots_and_their_parts.ensures.one
    c.in_ok-clauses.ensures.encoding
    (c.in_ok-push.ensures.ok ∙ ap (λ (ls : List Lit). record c.in_ok-clauses.clauses { list = c.in_ok-clauses.clauses.list ++ ls ∷ [] }) c.as_slice.ensures.value)
