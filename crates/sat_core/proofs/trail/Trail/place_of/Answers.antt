use Rattle.std.proofs.Common.{◌≡◌, ◌<◌, length, slice_index_or, ap, ◌∙◌, arith}
use Rattle.std.proofs.lemmas.List.{get_or_default}
use Rattle.sat_cnf.specs.Lits.{variable_of}
use Rattle.sat_core.proofs.AssigningLemmas.{found-place, true-within}
use Rattle.sat_core.proofs.LiteralLemmas.{variable-within}
use Rattle.sat_core.proofs.trail.Trail.place_of.Goals as goal

pub index-requires : goal.index-requires
index-requires c =
    omega (
      arith,
      c.variable.ensures,
      c.self.invariant.each_place,
      variable-within c.self.inside.vars c.args.lit (true-within c.self.inside.vars c.self.inside.values.items c.self.inside.places.items c.self.inside.entries.items _ c.self.invariant c.args.lit (rw (← c.self.view_is) at c.requires)),
    )

pub returns : goal.returns
returns c =
    let stands = rw (← c.self.view_is) at c.requires in
    let within = true-within c.self.inside.vars c.self.inside.values.items c.self.inside.places.items c.self.inside.entries.items _ c.self.invariant c.args.lit stands in
    let found = found-place c.self.inside.vars c.self.inside.values.items c.self.inside.places.items c.self.inside.entries.items _ c.self.invariant c.args.lit stands in
    let small : c.variable.result < length c.self.inside.places.items = omega (arith, c.variable.ensures, c.self.invariant.each_place, variable-within c.self.inside.vars c.args.lit within) in
    let is : c.index.result.now ≡ slice_index_or c.self.inside.places.items (variable_of c.args.lit) 0 =
    c.index.ensures ∙ get_or_default c.self.inside.places.items c.variable.result c.index.result.now 0 small ∙ ap (λ v. slice_index_or c.self.inside.places.items v 0) c.variable.ensures in
    rw (← c.self.view_is, is) found
