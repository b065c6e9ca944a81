use Rattle.std.proofs.Common.{ap, ◌∙◌}
use Rattle.vkb_tool.specs.declared.status.Status.TheVariants.{Done}
use Rattle.vkb_tool.specs.Outcome.{writes_alone}
use Rattle.vkb_tool.proofs.ChoiceLemmas.{soundly_within}
use Rattle.vkb_tool.proofs.build.write_text.Goals as goal

pub returns-clause-told : goal.returns-clause-told
returns-clause-told c =
    let r = c.args.registry.now in
    let sound = c.is_sound.ensures in
    let closure = c.closures_are_there.ensures r c.args.choice.now.chosen.items sound.rows_count (soundly_within r sound) in
    record {
      set = closure.0;
      closure = closure.1;
      told = c.written.ensures ∙ ap (writes_alone Done) (c.in_ok-bytes.ensures closure.0 closure.1);
    }
