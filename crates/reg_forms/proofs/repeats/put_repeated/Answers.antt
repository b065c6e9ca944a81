use Rattle.std.proofs.Common.{◌∷◌, ◌+◌, ap, drop, sym, ◌∙◌}
use Rattle.std.proofs.lemmas.Bool.{eq-eqb, ne_eqb}
use Rattle.std.proofs.lemmas.List.{at_drop_more}
use Rattle.vkb_formula.specs.Names.{with_name}
use Rattle.reg_forms.specs.Forms.{with_items}
use Rattle.reg_forms.specs.Parts.{repeated}
use Rattle.reg_forms.proofs.RepeatLemmas.{repeated-known, repeated-new}
use Rattle.reg_forms.proofs.repeats.put_repeated.Goals as goal
use Rattle.reg_forms.proofs.repeats.put_repeated.Goals.{then-len-before+in_ok-put_duplicate, else-len-before}

pub loop-member-preserved : goal.loop-member-preserved
loop-member-preserved c =
    let members = c.args.members.now in
    let at = c.loop-member.member-index in
    let member = c.member-item.result in
    let first = at_drop_more (λ ms. ms) members at member c.loop-member-test.true ∙ ap (λ m. m ∷ drop (at + 1) members) (sym c.member-item.is) in
    let put = c.in_ok-intern.ensures.table ∙ ap (λ name. with_name name c.loop-member.seen) c.as_slice.ensures in
    elim c.if-len-before.branch [
      | then-len-before+in_ok-put_duplicate w ↦
          repeated-known c.loop-member.seen c.intern.new.self member (drop at members) (drop (at + 1) members) c.loop-member.draft _ first put
          c.if-len-before.draft
          (eq-eqb _ _ (sym c.len.ensures.count ∙ w.if-len-before.true ∙ c.len-before.ensures.count))
          (w.draft-is ∙ w.in_ok-put_duplicate.ensures)
          c.loop-member.invariant
      | else-len-before w ↦
          ap (λ draft. with_items draft (repeated c.intern.new.self (drop (at + 1) members))) w.draft-is
          ∙ repeated-new c.loop-member.seen c.intern.new.self member (drop at members) (drop (at + 1) members) c.loop-member.draft _ first put
          (ne_eqb _ _ (λ same. w.if-len-before.false (c.len.ensures.count ∙ same ∙ sym c.len-before.ensures.count)))
          c.loop-member.invariant
    ]
