use Rattle.reg_permit.proofs.FeatureLemmas.{last-lower, none-lower}
use Rattle.reg_permit.proofs.features.next_lower.Goals as goal

pub returns-in-Some : goal.returns-in-Some
returns-in-Some c options has =
    let h = c.range.ensures.in_range tt in
    let e = h.3 _ _ c.in-Some.ensures.steps in
    last-lower options c.args.features.now c.args.version has c.in-Some.field-0-0.now c.in-Some.place.now e.0.1 e.1 (λ q l some. h.4 _ _ c.in-Some.ensures.steps q (tt, l) some)

pub returns-in-None : goal.returns-in-None
returns-in-None c options has =
    let h = c.range.ensures.in_range tt in
    none-lower options c.args.features.now c.args.version has (λ q l. h.5 c.in-None.ensures.steps.0 q (tt, l))
