use Rattle.std.proofs.Common.{◌≡◌, ◌∙◌, ◌<◌, Option, Some, None, IfSome, length, slice_get, refl, ap, subst, arith}
use Rattle.std.proofs.lemmas.Option.{slice_get-get_or}
use Rattle.vkb_formula.specs.declared.name_table.NameId.{NameId}
use Rattle.hdr_writer.specs.Ends.{IsEnd}
use Rattle.hdr_writer.proofs.ChainLemmas.{end-before, end-within}
use Rattle.hdr_writer.proofs.chains.next_end.Goals as goal

pub returns-then-end-len-clause-end : goal.returns-then-end-len-clause-end
returns-then-end-len-clause-end c =
    let F : Option NameId → Type 0 = λ o. IfSome o (λ id. id.0 < length c.args.r.now.names) in
    let within : c.in-Some.other.0 < length c.args.r.now.names = subst F c.in-Some.is c.row.ensures.sound.alias in
    let few : c.in-Some.other.0 < length c.args.known.now = omega (arith, c.requires.known.count, c.is_sound.ensures.rows_count, within) in
    let held : slice_get c.args.known.now c.in-Some.other.0 ≡ Some (Some c.in-Some-known.end) =
    slice_get-get_or c.args.known.now c.in-Some.other.0 None few ∙ ap Some c.in-Some-known.is in
    let is : IsEnd c.args.r.now.rows c.in-Some.other.0 c.in-Some-known.end = c.requires.known.each c.in-Some.other.0 c.in-Some-known.end held in
    end-before c.args.r.now.rows c.args.id.0 c.row.result.now c.in-Some.other c.in-Some-known.end _ c.row.ensures.row c.in-Some.is is
    (omega (arith, c.if-end-len.true, c.len.ensures.count, ap length c.names.ensures, c.is_sound.ensures.rows_count)) refl refl

pub returns-then-end-len-clause-held : goal.returns-then-end-len-clause-held
returns-then-end-len-clause-held c =
    let F : Option NameId → Type 0 = λ o. IfSome o (λ id. id.0 < length c.args.r.now.names) in
    let within : c.in-Some.other.0 < length c.args.r.now.names = subst F c.in-Some.is c.row.ensures.sound.alias in
    let few : c.in-Some.other.0 < length c.args.known.now = omega (arith, c.requires.known.count, c.is_sound.ensures.rows_count, within) in
    let held : slice_get c.args.known.now c.in-Some.other.0 ≡ Some (Some c.in-Some-known.end) =
    slice_get-get_or c.args.known.now c.in-Some.other.0 None few ∙ ap Some c.in-Some-known.is in
    let is : IsEnd c.args.r.now.rows c.in-Some.other.0 c.in-Some-known.end = c.requires.known.each c.in-Some.other.0 c.in-Some-known.end held in
    omega (arith, end-within c.args.r.now.rows c.in-Some.other.0 c.in-Some-known.end is, c.is_sound.ensures.rows_count)
