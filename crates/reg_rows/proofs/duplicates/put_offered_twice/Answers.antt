use Rattle.std.proofs.Common.{◌∷◌, ◌+◌, ◌++◌, ap, drop, sym, true, ◌∙◌}
use Rattle.std.proofs.lemmas.Bool.{eq-eqb, ne_eqb}
use Rattle.std.proofs.lemmas.List.{at_drop_more}
use Rattle.vkb_formula.specs.Names.{with_name}
use Rattle.reg_forms.specs.declared.forms.RowCode.TheVariants.{DuplicateName}
use Rattle.reg_tables.specs.Wrong.{fault_if}
use Rattle.reg_rows.specs.Faults.{offered_twice}
use Rattle.reg_rows.proofs.OfferLemmas.{offered-known, offered-new}
use Rattle.reg_rows.proofs.duplicates.put_offered_twice.Goals as goal
use Rattle.reg_rows.proofs.duplicates.put_offered_twice.Goals.{then-len-before+in_ok-put_fault, else-len-before}

pub loop-option-preserved : goal.loop-option-preserved
loop-option-preserved c =
    let options = c.args.options.now in
    let at = c.loop-option.option-index in
    let option = c.option-item.result in
    let first = at_drop_more (λ os. os) options at option c.loop-option-test.true ∙ ap (λ o. o ∷ drop (at + 1) options) (sym c.option-item.is) in
    let put = c.in_ok-intern.ensures.table ∙ ap (λ name. with_name name c.loop-option.seen) c.as_slice-name.ensures in
    elim c.if-len-before.branch [
      | then-len-before+in_ok-put_fault w ↦
          offered-known c.loop-option.seen c.intern.new.self option (drop at options) (drop (at + 1) options) c.loop-option.faults.items _ first put
          c.if-len-before.faults.items
          (eq-eqb _ _ (sym c.len.ensures.count ∙ w.if-len-before.true ∙ c.len-before.ensures.count))
          (ap (λ faults. faults.items) w.faults-is ∙ w.in_ok-put_fault.ensures ∙ ap (λ name. c.loop-option.faults.items ++ fault_if true DuplicateName option.place name) c.as_slice-name.ensures)
          c.loop-option.invariant
      | else-len-before w ↦
          ap (λ faults. faults.items ++ offered_twice c.intern.new.self (drop (at + 1) options)) w.faults-is
          ∙ offered-new c.loop-option.seen c.intern.new.self option (drop at options) (drop (at + 1) options) c.loop-option.faults.items _ first put
          (ne_eqb _ _ (λ same. w.if-len-before.false (c.len.ensures.count ∙ same ∙ sym c.len-before.ensures.count)))
          c.loop-option.invariant
    ]
