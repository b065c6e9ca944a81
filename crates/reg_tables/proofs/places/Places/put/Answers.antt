use Rattle.std.proofs.Common.{sym, ◌∙◌}
use Rattle.reg_tables.proofs.PlaceLemmas.{put-again, put-behind}
use Rattle.reg_tables.proofs.places.Places.put.Goals as goal

pub returns-in_ok-push : goal.returns-in_ok-push
returns-in_ok-push c names count before =
    put-behind _ _ names before _ _ _ _ _ count c.in_ok-intern.ensures.table c.in_ok-intern.ensures.place (cc) c.in_ok-push.ensures.items

pub returns-else-branch-count : goal.returns-else-branch-count
returns-else-branch-count c names count before =
    put-again _ _ names before _ _ _ c.in_ok-intern.ensures.table c.in_ok-intern.ensures.place (λ h. c.if-branch-count.false (h ∙ sym c.len-count.ensures.count))
