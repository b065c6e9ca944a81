use Rattle.std.proofs.Common.{ap, sym, ◌∙◌}
use Rattle.std.specs.Prelude.{is_some}
use Rattle.vkb_formula.specs.Names.{place_of}
use Rattle.reg_tables.specs.Found.{last_struct_of}
use Rattle.reg_tables.proofs.LastLemmas.{bit-some}
use Rattle.reg_tables.proofs.members.is_bit.Goals as goal

pub returns-in-Some : goal.returns-in-Some
returns-in-Some c =
    c.is_some.ensures ∙ ap is_some c.find.ensures.place ∙ ap (λ name. is_some (place_of name c.index-members-at.result)) c.member.ensures
    ∙ bit-some c.args.tables.now c.args.name.now c.args.members.now c.in-Some.at c.index-members-at.result c.in-Some.ensures.within c.requires.members
    (c.in-Some.ensures.last ∙ ap (last_struct_of c.args.tables.now) c.owner.ensures) c.index-members-at.is (sym c.is_member_name.ensures ∙ c.if-not-is_member_name.false)
