use Rattle.std.proofs.Common.{◌++◌, ◌∷◌, [], true, false, ap, sym, ◌∙◌}
use Rattle.std.proofs.lemmas.List.{append-nil}
use Rattle.reg_tables.specs.Wrong.{bad_text}
use Rattle.reg_tables.proofs.CountLemmas.{none-is}
use Rattle.reg_tables.proofs.ReadingLemmas.{bad-one, flat-all, further, reading-at, reading-there, words-are}
use Rattle.reg_tables.proofs.bits.put_bad_texts.Goals as goal
use Rattle.reg_tables.proofs.bits.put_bad_texts.Goals.{then-is_none+in_ok-bad_text+in_ok-push, else-is_none}

pub loop-at-init : goal.loop-at-init
loop-at-init c = λ readings h e. sym (append-nil c.args.faults.now.items)

pub loop-at-preserved : goal.loop-at-preserved
loop-at-preserved c = λ readings h e.
    let before = c.loop-at.invariant readings h e in
    let none = none-is c.index-words-at.result c.is_none.result c.is_none.ensures in
    elim c.if-is_none.branch [
      | then-is_none+in_ok-bad_text+in_ok-push w ↦
          let text = w.index-texts-at.result in
          let there = reading-at c.as_slice-texts.result.now readings c.args.words.now c.loop-at.at text c.index-words-at.result (h.texts ∙ sym c.as_slice-texts.ensures) e c.loop-at-test.true w.index-texts-at.is c.index-words-at.is in
          further bad_text readings c.args.faults.now.items c.loop-at.faults.items c.if-is_none.faults.items c.loop-at.at text c.index-words-at.result _ _ there before
          (ap (λ faults. faults.items) w.faults-is ∙ w.in_ok-push.ensures.items ∙ ap (λ fault. c.loop-at.faults.items ++ fault ∷ []) w.in_ok-bad_text.ensures)
          (bad-one readings c.loop-at.at text c.index-words-at.result _ there true (none ∙ w.if-is_none.true))
      | else-is_none w ↦
          let there = reading-there readings c.args.words.now c.loop-at.at c.index-words-at.result e c.loop-at-test.true c.index-words-at.is in
          further bad_text readings c.args.faults.now.items c.loop-at.faults.items c.if-is_none.faults.items c.loop-at.at _ c.index-words-at.result _ [] there before
          (ap (λ faults. faults.items) w.faults-is ∙ sym (append-nil c.loop-at.faults.items))
          (bad-one readings c.loop-at.at _ c.index-words-at.result _ there false (none ∙ w.if-is_none.false))
    ]

pub returns : goal.returns
returns c = λ readings h.
    let e = words-are c.args.forms.now c.args.words.now readings c.requires h in
    c.loop-at.invariant readings h e ∙ ap (λ faults. c.args.faults.now.items ++ faults) (flat-all bad_text readings c.args.words.now c.loop-at.at e c.loop-at-test.false)
