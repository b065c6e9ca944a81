use Rattle.vu_tags.proofs.TagLemmas.{five_read, five_plain, other_malformed, other_plain}
use Rattle.vu_tags.proofs.tags.read_text.Goals as goal

pub returns-in-Some : goal.returns-in-Some
returns-in-Some c =
    five_read c.args.text.now c.in-Some.number (rw c.last_part-last.ensures at c.if-last-eq5.true) (rw c.last_part-last.ensures at c.in-Some.ensures.value) c.in-Some.ensures.small

pub returns-in-None : goal.returns-in-None
returns-in-None c =
    five_plain c.args.text.now (rw c.last_part-last.ensures at c.if-last-eq5.true) (rw c.last_part-last.ensures at c.in-None.ensures.value)

pub returns-in-Some-decimal_number : goal.returns-in-Some-decimal_number
returns-in-Some-decimal_number c =
    other_malformed c.args.text.now c.in-Some-decimal_number.field-0 (rw c.last_part-last.ensures at c.if-last-eq5.false) (rw c.last_part-last.ensures at c.in-Some-decimal_number.ensures)

pub returns-in-None-decimal_number : goal.returns-in-None-decimal_number
returns-in-None-decimal_number c =
    other_plain c.args.text.now (rw c.last_part-last.ensures at c.if-last-eq5.false) (rw c.last_part-last.ensures at c.in-None-decimal_number.ensures)
