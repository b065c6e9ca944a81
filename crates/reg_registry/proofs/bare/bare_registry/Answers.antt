use Rattle.std.proofs.Common.{sym, subst, ◌∙◌}
use Rattle.reg_registry.specs.Naming.{AreSound}
use Rattle.reg_registry.proofs.BareLemmas.{bare-are, bare-sound}
use Rattle.reg_registry.proofs.bare.bare_registry.Goals as goal

pub from_parts-requires : goal.from_parts-requires
from_parts-requires c =
    subst AreSound (sym (bare-are _ _ _ _ _ _ c.args.options.now c.new.ensures c.new-2.ensures.items c.in_ok-names.ensures
    c.in_ok-rows.ensures c.new-3.ensures.items c.new-4.ensures.items))
    (bare-sound c.args.options.now c.requires.few c.requires.differ c.requires.named)

pub returns : goal.returns
returns c =
    c.from_parts.ensures ∙ bare-are _ _ _ _ _ _ c.args.options.now c.new.ensures c.new-2.ensures.items c.in_ok-names.ensures
    c.in_ok-rows.ensures c.new-3.ensures.items c.new-4.ensures.items
