use Rattle.std.proofs.Common.{◌∙◌, ap}
use Rattle.vkb_formula.specs.Names.{place_of}
use Rattle.vkb_formula.proofs.NameLemmas.{place_of-held, place_of-stays}
use Rattle.vkb_formula.proofs.names.Names.intern.Goals as goal

pub returns-clause-held : goal.returns-clause-held
returns-clause-held c = place_of-held _ _ _ c.in_ok-place.ensures.found

pub returns-clause-keeps : goal.returns-clause-keeps
returns-clause-keeps c other place h =
    ap (place_of other) c.in_ok-place.ensures.names ∙ place_of-stays other c.args.name.now _ place (ap (place_of other) c.self.view_is ∙ h)
