use Rattle.std.proofs.Common.{◌≡◌, ◌+◌, true, false, is_none, is_some, length, sym, ap, ◌∙◌, arith}
use Rattle.std.proofs.lemmas.List.{length_push}
use Rattle.std.proofs.lemmas.List.Sums.{count_by-le-length, length-filter}
use Rattle.reg_tables.specs.Tables.{features_in}
use Rattle.reg_rows.proofs.OptionLemmas.{as-many, few_pass, none_is, one-more, place-more}
use Rattle.reg_rows.proofs.building.blocks.option_places.Goals as goal
use Rattle.reg_rows.proofs.building.blocks.option_places.Goals.{then-is_some+in_ok-push, else-is_some+in_ok-push-2}

pub overflow_add-features : goal.overflow_add-features
overflow_add-features c =
    omega (arith, few_pass (λ o. is_some o.version) c.args.forms.now.options c.loop-option.option-index)

pub overflow_add-extensions : goal.overflow_add-extensions
overflow_add-extensions c =
    let options = c.args.forms.now.options in
    omega (arith, few_pass (λ o. is_none o.version) options c.loop-option.option-index, length-filter (λ o. is_some o.version) options, count_by-le-length (λ o. is_some o.version) options)

pub loop-option-preserved : goal.loop-option-preserved
loop-option-preserved c =
    let f = c.args.forms.now in
    let items = c.as_slice-option-items.ensures in
    let before = c.loop-option.invariant in
    let next = one-more f c.as_slice-option-items.result.now items c.loop-option.option-index c.option-item.result c.loop-option-test.true c.option-item.is in
    let same = as-many f c.as_slice-option-items.result.now items c.loop-option.option-index c.option-item.result c.loop-option-test.true c.option-item.is in
    let placed = place-more f c.as_slice-option-items.result.now items c.loop-option.option-index c.option-item.result c.loop-option-test.true c.option-item.is in
    elim c.if-is_some.branch [
      | then-is_some+in_ok-push w ↦
          let some : is_some c.option-item.result.version ≡ true = sym c.is_some.ensures ∙ w.if-is_some.true in
          let pushed = ap (λ v. v.items) w.places-is ∙ w.in_ok-push.ensures.items in
          record {
            features = w.features-is ∙ ap (λ n. n + 1) before.features ∙ sym (next (λ o. is_some o.version) some);
            extensions = w.extensions-is ∙ before.extensions ∙ ap (λ n. length (features_in f) + n) (sym (same (λ o. is_none o.version) (none_is c.option-item.result.version false some)));
            each_has_one = ap length pushed ∙ length_push c.loop-option.places.items c.loop-option.features ∙ ap (λ n. n + 1) before.each_has_one;
            are = placed true some c.loop-option.places.items _ c.loop-option.features before.each_has_one before.are before.features pushed;
          }
      | else-is_some+in_ok-push-2 w ↦
          let none : is_some c.option-item.result.version ≡ false = sym c.is_some.ensures ∙ w.if-is_some.false in
          let pushed = ap (λ v. v.items) w.places-is ∙ w.in_ok-push-2.ensures.items in
          let more = next (λ o. is_none o.version) (none_is c.option-item.result.version true none) in
          record {
            features = w.features-is ∙ before.features ∙ sym (same (λ o. is_some o.version) none);
            extensions = omega (arith, w.extensions-is, before.extensions, more);
            each_has_one = ap length pushed ∙ length_push c.loop-option.places.items c.loop-option.extensions ∙ ap (λ n. n + 1) before.each_has_one;
            are = placed false none c.loop-option.places.items _ c.loop-option.extensions before.each_has_one before.are before.extensions pushed;
          }
    ]
