use Rattle.std.proofs.Common.{◌<◌, length, List, slice_get, Some, refl, sym, ap, ◌∙◌, arith}
use Rattle.std.specs.List.{list_any, position}
use Rattle.std.specs.Str.{bytes_eq}
use Rattle.std.proofs.lemmas.List.{take_all}
use Rattle.reg_forms.specs.declared.forms.EnumForm.{EnumForm}
use Rattle.reg_rows.proofs.ListingLemmas.{always-kept, always-set, is_always}
use Rattle.reg_rows.proofs.building.uses.always_there.Goals as goal
use Rattle.reg_rows.proofs.building.uses.always_there.Goals.{then-row+in-Some, then-row+in_default, else-row}

pub loop-row-preserved : goal.loop-row-preserved
loop-row-preserved c = λ p e first.
    let f = c.args.tables.now in
    let rows = c.as_slice-rows.result.now in
    let i = c.loop-row.row-index in
    let row = c.row-item.result in
    let within : i < length rows = omega arith in
    let before = c.loop-row.invariant p e first in
    elim c.if-row.branch [
      | then-row+in-Some w ↦
          ap (λ v. slice_get v.items p) w.always-is
          ∙ always-set f rows i row within c.row-item.is p e first c.loop-row.always.items w.in-Some.place before w.if-row.true (w.in-Some.ensures ∙ ap (λ n. position (λ other. bytes_eq n other.name) f.enumerants) w.as_slice.ensures)
      | then-row+in_default w ↦
          ap (λ v. slice_get v.items p) w.always-is
          ∙ always-kept f rows i row within c.row-item.is p e first c.loop-row.always.items before row.base refl (λ _. w.in_default.ensures ∙ ap (λ n. position (λ other. bytes_eq n other.name) f.enumerants) w.as_slice.ensures)
      | else-row w ↦
          ap (λ v. slice_get v.items p) w.always-is
          ∙ always-kept f rows i row within c.row-item.is p e first c.loop-row.always.items before row.base refl (λ based. absurd (let never = sym based ∙ w.if-row.false in cc))
    ]

pub returns : goal.returns
returns c = λ p e first.
    let rows = c.as_slice-rows.ensures ∙ ap (λ f. f.enumerants) c.forms.ensures in
    c.loop-row.invariant p e first
    ∙ ap (λ (es : List EnumForm). Some (list_any (is_always e.name) es)) (take_all c.loop-row.row-index c.as_slice-rows.result.now (omega arith) ∙ rows)
