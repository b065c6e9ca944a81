use Rattle.std.proofs.Common.{◌++◌, ap, map, ◌∙◌}
use Rattle.reg_forms.specs.Parts.{member_of, sound_members}
use Rattle.reg_forms.proofs.MemberLemmas.{parts-faults}
use Rattle.reg_forms.proofs.parts.read_parts.Goals as goal

pub returns-clause-faults : goal.returns-clause-faults
returns-clause-faults c =
    parts-faults c.args.api.now c.args.kind c.args.element.now c.args.draft.now c.read_proto.new.draft c.read_members.new.draft
    c.put_repeated.new.draft c.proto_in-proto.result c.as_slice.result.now c.proto_in-proto.ensures c.in_ok-result.ensures.faults
    c.in_ok-read_members.ensures.faults
    (c.as_slice.ensures.value ∙ c.in_ok-read_members.ensures.members ∙ ap (λ ms. ms ++ map member_of (sound_members c.args.api.now c.args.kind c.args.element.now)) c.new-members.ensures.items)
    c.in_ok-put_repeated.ensures
