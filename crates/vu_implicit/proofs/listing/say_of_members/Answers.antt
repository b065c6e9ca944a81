use Rattle.std.proofs.Common.{length, get_or, ap, ◌∙◌, ◌≡◌, ◌<◌, arith}
use Rattle.vu_implicit.specs.Statements.{member_statements}
use Rattle.vu_implicit.proofs.JoinLemmas.{flat-more}
use Rattle.vu_implicit.proofs.listing.say_of_members.Goals as goal

pub loop-m-preserved : goal.loop-m-preserved
loop-m-preserved c =
    let members = c.args.row.now.members in
    let at = c.loop-m.m-index in
    let m = c.m-item.result in
    let items = c.as_slice-m-items.ensures in
    let within : at < length members = omega (arith, ap length items) in
    let is : m ≡ get_or members at m = c.m-item.is ∙ ap (λ ms. get_or ms at m) items in
    flat-more members at m within is (member_statements c.args.r.now c.args.owner c.args.row.now)
    c.args.said.now.items c.loop-m.said.items c.say_of_member.new.said.items c.loop-m.invariant c.in_ok-say_of_member.ensures
