use Rattle.std.proofs.Common.{[], ◌∷◌, ◌+◌, ◌++◌, ap, subst, sym, take, ◌∙◌}
use Rattle.std.proofs.lemmas.List.{take_all, take_more}
use Rattle.reg_tables.specs.Found.{IsRead}
use Rattle.reg_tables.proofs.ReadingLemmas.{AreReadSo, all-read, none-read, one-read}
use Rattle.reg_tables.proofs.bits.words.Goals as goal

pub loop-text-init : goal.loop-text-init
loop-text-init c = subst (AreReadSo []) (sym c.new-words.ensures.items) none-read

pub loop-text-preserved : goal.loop-text-preserved
loop-text-preserved c =
    subst (λ words. AreReadSo (take (c.loop-text.text-index + 1) c.as_slice-text-items.result.now) words) (sym c.in_ok-push.ensures.items)
    (subst (λ texts. AreReadSo texts (c.loop-text.words.items ++ c.in_ok-words_of_text.field-0 ∷ []))
    (ap (λ text. take c.loop-text.text-index c.as_slice-text-items.result.now ++ text ∷ []) c.text-item.is ∙ sym (take_more c.as_slice-text-items.result.now c.loop-text.text-index c.text-item.result c.loop-text-test.true))
    (one-read (take c.loop-text.text-index c.as_slice-text-items.result.now) c.loop-text.words.items c.text-item.result c.in_ok-words_of_text.field-0 c.loop-text.invariant
    (subst (λ text. IsRead text c.in_ok-words_of_text.field-0) c.as_slice.ensures c.in_ok-words_of_text.ensures)))

pub returns : goal.returns
returns c =
    all-read c.a_text_is_one_expression.ensures c.args.forms.now c.loop-text.words.items (take c.loop-text.text-index c.as_slice-text-items.result.now)
    (take_all c.loop-text.text-index c.as_slice-text-items.result.now c.loop-text-test.false ∙ c.as_slice-text-items.ensures) c.loop-text.invariant
