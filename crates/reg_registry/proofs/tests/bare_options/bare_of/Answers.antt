use Rattle.std.proofs.Common.{◌≤◌, ℕ, List, length, sym, subst}
use Rattle.vkb_formula.specs.Names.{AreDifferent, most_names}
use Rattle.reg_registry.proofs.tests.bare_options.bare_of.Goals as goal

pub bare-requires-clause-few : goal.bare-requires-clause-few
bare-requires-clause-few c = subst (λ (names : List (List ℕ)). length names ≤ most_names) (sym c.deref-2.ensures.value) c.in_ok-options.ensures.few

pub bare-requires-clause-differ : goal.bare-requires-clause-differ
bare-requires-clause-differ c = subst AreDifferent (sym c.deref-2.ensures.value) c.in_ok-options.ensures.differ
