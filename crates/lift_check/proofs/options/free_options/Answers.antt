use Rattle.std.proofs.Common.{ap, ◌∙◌}
use Rattle.reg_registry.specs.Rows.{bare_rows}
use Rattle.lift_check.proofs.NameLemmas.{loaded-named}
use Rattle.lift_check.proofs.OptionsLemmas.{free-loaded}
use Rattle.lift_check.proofs.options.free_options.Goals as goal

pub bare_but-requires : goal.bare_but-requires
bare_but-requires c = loaded-named c.requires.0 c.args.d.now c.requires.1

pub returns : goal.returns
returns c = λ text loaded. c.in_ok-registry.ensures ∙ ap bare_rows (free-loaded c.args.always.now text c.args.d.now loaded)
