use Rattle.std.proofs.Common.{◌≡◌, ◌∙◌, ap, List, sym, subst, get_or, map, take, ◌+◌, length, ◌<◌, All, arith}
use Rattle.std.proofs.lemmas.List.{get_or-map, length-map}
use Rattle.std.proofs.lemmas.List.Elements.{All-get_or}
use Rattle.vkb_formula.specs.declared.pool.NodeId.{NodeId}
use Rattle.lift_ask.specs.Questions.{SayEach, SaysOf, isnt_one}
use Rattle.lift_ask.proofs.PutLemmas.{each-more, isnt-kept}
use Rattle.lift_ask.proofs.questions.put_wrong.Goals as goal

pub loop-list-preserved : goal.loop-list-preserved
loop-list-preserved c =
    let pool = c.args.pool.now in
    let mid = c.loop-list.pool in
    let new = c.put_isnt_one.new.pool in
    let table = c.args.table.now in
    let lists = map (λ list. list.items) table in
    let k = c.loop-list.list-index in
    let item = c.list-item.result in
    let there : k < length lists = omega (arith, c.loop-list-test.true, length-map table (λ list. list.items)) in
    let held : All (λ node. node.0 < length pool) item.items =
    subst (λ t. All (λ node. node.0 < length pool) t.items) (sym c.list-item.is) (All-get_or (λ list. All (λ node. node.0 < length pool) list.items) table k item c.loop-list-test.true c.requires) in
    let is : item.items ≡ get_or lists k item.items = ap (λ list. list.items) c.list-item.is ∙ sym (get_or-map (λ list. list.items) table k item item.items c.loop-list-test.true) in
    let put : SaysOf mid new (isnt_one mid item.items) c.in_ok-node.node = subst (λ (ns : List NodeId). SaysOf mid new (isnt_one mid ns) c.in_ok-node.node) c.as_slice.ensures.value c.in_ok-node.ensures.put in
    subst (λ (nodes : List NodeId). SayEach pool new (isnt_one pool) (take (k + 1) lists) nodes) (sym c.in_ok-push.ensures.items)
    (each-more pool mid new (isnt_one pool) (isnt_one mid item.items) lists k item.items c.loop-list.wrong.items c.in_ok-node.node there is (isnt-kept pool mid c.loop-list.invariant.grows item.items held) c.loop-list.invariant put)
