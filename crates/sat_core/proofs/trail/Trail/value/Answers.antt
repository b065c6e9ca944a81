use Rattle.std.proofs.Common.{◌≡◌, None, slice_index_or, sym, subst, ◌∙◌, arith}
use Rattle.std.proofs.lemmas.List.{get_or_default}
use Rattle.sat_core.specs.Trails.{IsValueOf, lits_of}
use Rattle.sat_core.proofs.trail.Trail.value.Goals as goal

pub returns : goal.returns
returns c =
    let within = rw (← c.self.view_is) at c.requires in
    let is : c.index.result.now ≡ slice_index_or c.self.inside.values.items c.args.lit.0 None =
    c.index.ensures ∙ get_or_default c.self.inside.values.items c.args.lit.0 c.index.result.now None (omega (arith, within, c.self.invariant.each_value)) in
    rw (← c.self.view_is) (subst (IsValueOf (lits_of c.self.inside.entries.items) c.args.lit) (sym is) (c.self.invariant.values_are c.args.lit))
