use Rattle.std.proofs.Common.{◌≡◌, [], MatchOption, ◌∙◌, map-id, subst, sym}
use Rattle.std.proofs.lemmas.Iterator.Consumers.{YieldsList-end}
use Rattle.std.proofs.lemmas.Iterator.Adapters.{YieldsList-from_vec}
use Rattle.reg_rows.specs.Faults.{IsFirst}
use Rattle.reg_rows.proofs.OrderLemmas.{one-more}
use Rattle.reg_rows.proofs.order.first_of.Goals as goal

pub loop-fault-preserved : goal.loop-fault-preserved
loop-fault-preserved c =
    subst (IsFirst _) (sym c.earlier.ensures) (one-more c.loop-fault.first c.loop-fault.yielded c.in-Some.fault c.loop-fault.invariant)

pub returns : goal.returns
returns c =
    let given = c.into_iter-fault-iterator.ensures.into_iter_gives in
    let all = YieldsList-end (YieldsList-from_vec c.args.faults.items given.0 (given.1 ∙ c.args.faults.ok.0)) c.loop-fault.yielded c.loop-fault.fault-iterator c.loop-fault.yielded_by c.next.result c.next.new.self c.in-None.is c.next.ensures.steps in
    subst (λ faults. MatchOption c.loop-fault.first (faults ≡ []) (IsFirst faults)) (sym (map-id c.loop-fault.yielded) ∙ all.0) c.loop-fault.invariant
