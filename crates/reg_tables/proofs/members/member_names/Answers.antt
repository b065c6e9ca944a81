use Rattle.std.proofs.Common.{◌++◌, ◌∷◌, [], map, ap, sym, take, ◌∙◌}
use Rattle.std.proofs.lemmas.List.{map_more, take_all}
use Rattle.vkb_formula.specs.Names.{with_name}
use Rattle.reg_forms.specs.declared.forms.MemberForm.{MemberForm}
use Rattle.reg_tables.specs.Lists.{each_name}
use Rattle.reg_tables.proofs.FirstsLemmas.{name-push}
use Rattle.reg_tables.proofs.members.member_names.Goals as goal

pub loop-member-preserved : goal.loop-member-preserved
loop-member-preserved c =
    c.in_ok-intern.ensures.table ∙ ap (with_name c.as_slice.result.now) c.loop-member.invariant
    ∙ name-push (map (λ (member : MemberForm). member.name) (take c.loop-member.member-index c.args.members.now)) c.as_slice.result.now
    ∙ ap (λ name. each_name (map (λ (member : MemberForm). member.name) (take c.loop-member.member-index c.args.members.now) ++ name ∷ []))
    (c.as_slice.ensures ∙ ap (λ (member : MemberForm). member.name) c.member-item.is)
    ∙ sym (ap each_name (map_more (λ (member : MemberForm). member.name) c.args.members.now c.loop-member.member-index c.member-item.result c.loop-member-test.true))

pub returns : goal.returns
returns c =
    c.loop-member.invariant
    ∙ ap (λ members. each_name (map (λ (member : MemberForm). member.name) members)) (take_all c.loop-member.member-index c.args.members.now c.loop-member-test.false)
