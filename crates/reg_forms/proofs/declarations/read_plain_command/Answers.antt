use Rattle.std.proofs.Common.{sym, ap, ◌∙◌}
use Rattle.reg_registry.specs.declared.kinds.Kind.TheVariants as kind
use Rattle.reg_forms.specs.Declarations.{command_row}
use Rattle.reg_forms.specs.Forms.{with_items}
use Rattle.reg_forms.specs.Parts.{inner_mentions, part_faults}
use Rattle.reg_forms.proofs.DeclareLemmas.{command_items-named, command_items-nameless, put_declared, put_mentioned}
use Rattle.reg_forms.proofs.declarations.read_plain_command.Goals as goal

pub returns-in_ok-declare-in-Some : goal.returns-in_ok-declare-in-Some
returns-in_ok-declare-in-Some c =
    let api = c.args.api.now in
    let e = c.args.element.now in
    let named = sym c.in_ok-name.ensures ∙ c.in-Some.is in
    put_declared c.args.draft.now _ _ (part_faults api kind.Command e) c.plain_command_row-row.result (command_row api e c.in-Some.name) c.in_ok-parts.ensures.faults c.plain_command_row-row.ensures c.in_ok-declare-in-Some.ensures
    ∙ ap (with_items c.args.draft.now) (sym (command_items-named api e c.args.proto.now c.requires.counted c.requires.plain c.requires.proto c.in-Some.name named))

pub returns-in_ok-put_mentions-in-None : goal.returns-in_ok-put_mentions-in-None
returns-in_ok-put_mentions-in-None c =
    let api = c.args.api.now in
    let e = c.args.element.now in
    let nameless = sym c.in_ok-name.ensures ∙ c.in-None.is in
    put_mentioned c.args.draft.now _ _ (part_faults api kind.Command e) _ (inner_mentions api kind.Command e) c.in_ok-parts.ensures.faults c.in_ok-parts.ensures.mentions c.in_ok-put_mentions-in-None.ensures
    ∙ ap (with_items c.args.draft.now) (sym (command_items-nameless api e c.args.proto.now c.requires.counted c.requires.plain c.requires.proto nameless))
