use Rattle.std.proofs.Common.{◌≡◌, ◌≤◌, ◌<◌, ℕ, List, [], ◌∷◌, ◌++◌, length, take, get_or, ap, sym, subst, ◌∙◌, arith}
use Rattle.std.proofs.lemmas.List.{take_all, take_more}
use Rattle.std.proofs.lemmas.Option.{same_Some, slice_get-get_or}
use Rattle.vkb_formula.specs.Names.{AreDifferent}
use Rattle.reg_registry.proofs.tests.bare_options.held.Goals as goal

pub loop-place-preserved : goal.loop-place-preserved
loop-place-preserved c =
    let table = c.args.table.now in
    let place = c.loop-place.place in
    let name = c.name.result.now in
    let within : place < length table = omega (arith, c.loop-place-test.true, c.len-place-end.ensures.count) in
    c.in_ok-push.ensures.items ∙ ap (λ n. c.loop-place.names.items ++ n ∷ []) c.in_ok-from_slice.ensures ∙ ap (λ ns. ns ++ name ∷ []) c.loop-place.invariant
    ∙ ap (λ n. take place table ++ n ∷ []) (same_Some name (get_or table place name) (sym c.name.ensures.held ∙ slice_get-get_or table place name within))
    ∙ sym (take_more table place name within)

pub returns-clause-names : goal.returns-clause-names
returns-clause-names c = c.loop-place.invariant ∙ take_all c.loop-place.place c.args.table.now (omega (arith, c.loop-place-test.false, c.len-place-end.ensures.count))
