use Rattle.std.proofs.Common.{sym, ap, ◌∙◌, eq-eqb, length, vec_len, arith}
use Rattle.std.proofs.lemmas.Bool.{false≢true}
use Rattle.std.proofs.lemmas.Result.{IfOk-equal}
use Rattle.reg_forms.specs.Enums.{is_held}
use Rattle.reg_forms.specs.Forms.{with_items}
use Rattle.reg_forms.proofs.EnumLemmas.{enum_bad}
use Rattle.reg_forms.proofs.enums.read_enum.Goals as goal

pub returns-then-not-is_empty : goal.returns-then-not-is_empty
returns-then-not-is_empty c =
    IfOk-equal c.put_bad.result _ _ _ c.put_bad.ensures
    (ap (with_items c.args.draft.now) (enum_bad c.args.api.now (is_held c.args.enum_types.now) c.args.role.now c.args.number c.args.element.now c.place.result c.in_ok-words.words.items
    c.place.ensures (sym c.in_ok-counts.ensures ∙ c.if-not-branch.false) c.in_ok-words.ensures
    (λ none. false≢true (sym c.if-not-is_empty.true ∙ (c.is_empty.ensures ∙ eq-eqb (vec_len c.in_ok-words.words) 0 (omega (arith, c.in_ok-words.words.ok.0, ap length none)))))))
