use Rattle.std.proofs.Common.{◌∙◌, ap, map}
use Rattle.lift_check.specs.Keeping.{node_of}
use Rattle.lift_check.proofs.PooledLemmas.{held-all, say-all}
use Rattle.lift_check.proofs.nodes.prepare.Goals as goal

pub returns-clause-held : goal.returns-clause-held
returns-clause-held c =
    let conditions = c.in_ok-conditions.conditions in
    let always = c.args.always.now in
    let r = c.args.r.now in
    held-all always r c.requires.0 c.args.d.now conditions.pool conditions.nodes _
    (c.in_ok-conditions.ensures.lines c.requires.0 always r c.requires.1 c.is_sound.ensures.options_differ c.in_ok-options.ensures)
    (c.in_ok-lines.ensures ∙ ap (map (node_of conditions.nodes)) c.as_slice.ensures) c.in_ok-names.ensures c.in_ok-conditions.ensures.constants

pub returns-clause-say : goal.returns-clause-say
returns-clause-say c = λ text loaded.
    let conditions = c.in_ok-conditions.conditions in
    let always = c.args.always.now in
    let r = c.args.r.now in
    say-all always r text c.args.d.now conditions.pool conditions.nodes _
    (c.in_ok-conditions.ensures.lines text always r loaded c.is_sound.ensures.options_differ c.in_ok-options.ensures)
    (c.in_ok-lines.ensures ∙ ap (map (node_of conditions.nodes)) c.as_slice.ensures) c.in_ok-names.ensures
