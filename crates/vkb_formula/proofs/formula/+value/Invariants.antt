use Rattle.std.proofs.Common.{◌≡◌, drop}
use Rattle.std.specs.List.{list_all, list_any}
use Rattle.vkb_formula.specs.Formulas.{value_of}
use Rattle.vkb_formula.proofs.formula.+value.Given as goal

-- the parts so far hold
abbrev pub invariant-all_hold-loop-part : goal.invariant-all_hold-loop-part
invariant-all_hold-loop-part l = list_all (value_of l.set) (drop l.part-index l.parts) ≡ list_all (value_of l.set) l.parts

-- the parts so far don't hold
abbrev pub invariant-any_holds-loop-part : goal.invariant-any_holds-loop-part
invariant-any_holds-loop-part l = list_any (value_of l.set) (drop l.part-index l.parts) ≡ list_any (value_of l.set) l.parts
