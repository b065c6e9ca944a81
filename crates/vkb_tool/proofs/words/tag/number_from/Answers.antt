use Rattle.std.proofs.Common.{◌≤◌, length, sym, ◌∙◌, arith}
use Rattle.std.proofs.lemmas.Option.{none-some, same_Some}
use Rattle.vkb_tool.proofs.TagWordsLemmas.{one_number, writes_number}
use Rattle.vkb_tool.proofs.words.tag.number_from.Goals as goal

pub returns-in-Some-clause-written : goal.returns-in-Some-clause-written
returns-in-Some-clause-written c =
    let short : length c.args.word.now ≤ 5 = omega arith in
    writes_number c.args.word.now c.in-Some.number short (sym c.in-Some.is ∙ c.short_number.ensures.value) (omega arith) (omega arith)

pub returns-in_default-clause-none : goal.returns-in_default-clause-none
returns-in_default-clause-none c = λ first is.
    let same = same_Some c.in-Some.number first (sym c.in-Some.is ∙ one_number c.args.word.now c.short_number.result first c.short_number.ensures.value is) in
    let most = is.most in
    absurd (omega arith)

pub returns-in_default-2-clause-none : goal.returns-in_default-2-clause-none
returns-in_default-2-clause-none c = λ first is.
    let same = same_Some c.in-Some.number first (sym c.in-Some.is ∙ one_number c.args.word.now c.short_number.result first c.short_number.ensures.value is) in
    let some = is.from_one in
    absurd (omega arith)

pub returns-in_default-3-clause-none : goal.returns-in_default-3-clause-none
returns-in_default-3-clause-none c = λ first is.
    absurd (none-some first (sym c.in_default.is ∙ one_number c.args.word.now c.short_number.result first c.short_number.ensures.value is))
