use Rattle.std.proofs.Common.{◌≡◌, ◌+◌, ℕ, List, true, false, length, sym, ap, subst, ◌∙◌, arith}
use Rattle.std.proofs.lemmas.Bool.{true≢false}
use Rattle.std.proofs.lemmas.Option.{same_Some}
use Rattle.vkb_formula.specs.declared.name_table.NameId.{NameId}
use Rattle.reg_closure.specs.Waiting.{AreNamers, Puts}
use Rattle.reg_closure.proofs.NamerLemmas.{namers-less, namers-more}
use Rattle.reg_closure.proofs.ordering.namers_in.Goals as goal
use Rattle.reg_closure.proofs.ordering.namers_in.Goals.{then-has+in_ok-put, else-has}

pub loop-name-preserved : goal.loop-name-preserved
loop-name-preserved c =
    let rows = c.args.r.now.rows in
    let set = c.args.set.now in
    let end = c.loop-name.name in
    elim c.if-has.branch [
      | then-has+in_ok-put w ↦
          subst (λ (namers : List (List ℕ)). AreNamers rows set (end + 1) namers) (sym w.namers-is)
          (namers-more rows set end c.loop-name.namers w.put.new.self w.row.result.now c.loop-name.invariant w.if-has.ensures w.row.ensures.row
          (subst (λ (ids : List NameId). Puts end ids c.loop-name.namers w.put.new.self) w.as_slice.ensures w.in_ok-put.ensures))
      | else-has w ↦
          subst (λ (namers : List (List ℕ)). AreNamers rows set (end + 1) namers) (sym w.namers-is)
          (namers-less rows set end c.loop-name.namers c.loop-name.invariant (λ i. true≢false (same_Some true false (sym i ∙ w.if-has.ensures))))
    ]

pub returns : goal.returns
returns c =
    let all : c.loop-name.name ≡ length c.args.r.now.names = omega (arith, c.loop-name-test.false, c.loop-name.auto.name-end, c.len-count.ensures.count, ap length c.names.ensures) in
    subst (λ (end : ℕ). AreNamers c.args.r.now.rows c.args.set.now end c.loop-name.namers) all c.loop-name.invariant
