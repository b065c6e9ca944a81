use Rattle.lift_check.proofs.PermitLemmas.{of-registry}
use Rattle.lift_check.proofs.permits.put_registry.Goals as goal

pub returns : goal.returns
returns c =
    of-registry c.nodes_keep_their_meaning.ensures.formulas c.args.r.now c.args.pool.now c.presence.new.pool c.permit_node.new.pool _ c.presence.ensures.before c.permit_node.ensures.before
    c.in_ok-names.ensures.reach c.in_ok-permit.ensures.reach c.in_ok-names.ensures.presence c.in_ok-permit.ensures.held c.in_ok-permit.ensures.permitted
