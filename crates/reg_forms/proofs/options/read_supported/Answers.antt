use Rattle.std.proofs.Common.{◌≡◌, ◌∙◌, sym, length, arith}
use Rattle.std.specs.Vec.{vec_len}
use Rattle.std.proofs.lemmas.Bool.{eqb-true}
use Rattle.std.proofs.lemmas.List.{nil_from_length}
use Rattle.std.proofs.lemmas.Result.{IfOk-equal}
use Rattle.reg_forms.specs.Enums.{is_held}
use Rattle.reg_forms.proofs.OptionLemmas.{supported_put}
use Rattle.reg_forms.proofs.options.read_supported.Goals as goal

pub returns : goal.returns
returns c =
    let none : length c.in_ok-words.words.items ≡ 0 = omega (arith, c.in_ok-words.words.ok.0, eqb-true (vec_len c.in_ok-words.words) 0 (sym c.is_empty.ensures ∙ c.if-not-is_empty.false)) in
    IfOk-equal c.read_blocks.result _ _ _ c.read_blocks.ensures
    (supported_put c.args.api.now (is_held c.args.enum_types.now) c.args.element.now c.args.draft.now c.offer.new.self c.in_ok-words.words.items
    c.place-2.result c.in_ok-name.name c.in_ok-depends.depends c.in_ok-number.number
    c.in_ok-words.ensures (nil_from_length c.in_ok-words.words.items none) c.place-2.ensures c.in_ok-name.ensures c.in_ok-depends.ensures c.in_ok-number.ensures c.in_ok-offer.ensures)
