use Rattle.std.proofs.Common.{sym, ap, ◌∙◌}
use Rattle.reg_forms.specs.Declarations.{type_mentions}
use Rattle.reg_forms.specs.Forms.{with_items}
use Rattle.reg_forms.specs.Parts.{part_faults}
use Rattle.reg_forms.proofs.DeclareLemmas.{put_mentioned, type_items-inner, type_mentions-plain}
use Rattle.reg_forms.proofs.declarations.read_nameless.Goals as goal

pub returns-in_ok-put_mentions-in-Some : goal.returns-in_ok-put_mentions-in-Some
returns-in_ok-put_mentions-in-Some c =
    let api = c.args.api.now in
    let e = c.args.element.now in
    let kind = c.args.kind in
    let same = type_mentions-plain api e kind c.in_ok-mentions-in-Some.mentions.items c.in_ok-parts-in-Some.parts.mentions.items c.requires.plain c.in_ok-mentions-in-Some.ensures c.in_ok-parts-in-Some.ensures.mentions in
    put_mentioned c.args.draft.now _ _ (part_faults api kind e) c.in_ok-mentions-in-Some.mentions.items (type_mentions api kind e) c.in_ok-parts-in-Some.ensures.faults same c.in_ok-put_mentions-in-Some.ensures
    ∙ ap (with_items c.args.draft.now) (sym (type_items-inner api e kind c.in-Some.field-0 c.requires.counted c.requires.kind c.requires.plain c.requires.nameless (sym c.in_ok-has.ensures ∙ c.if-branch.false) (sym c.in-Some.ensures)))
