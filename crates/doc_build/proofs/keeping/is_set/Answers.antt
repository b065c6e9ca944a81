use Rattle.std.proofs.Common.{◌≡◌, ◌∙◌, ap, sym, true, false, is_some, arith}
use Rattle.std.proofs.lemmas.Option.{slice_get_within}
use Rattle.doc_tree.specs.Flat.{is_among}
use Rattle.doc_build.proofs.ChosenLemmas.{is_among-absent, set-fixed, set-none, set-option}
use Rattle.doc_build.proofs.TableLemmas.{is_some-place_of}
use Rattle.doc_build.proofs.keeping.is_set.Goals as goal

pub returns-then-is_some : goal.returns-then-is_some
returns-then-is_some c =
    let fixed = c.args.fixed.now in
    let name = c.args.name.now in
    let is : is_among fixed name ≡ true = sym (is_some-place_of name fixed) ∙ (ap is_some (sym c.find.ensures.place) ∙ (sym c.is_some.ensures ∙ c.if-is_some.true)) in
    sym (set-fixed fixed c.args.options.now c.args.chosen.now name is)

pub bounds-chosen-option : goal.bounds-chosen-option
bounds-chosen-option c =
    let within = slice_get_within c.args.options.now c.in-Some.option.0 c.args.name.now c.in-Some.ensures.found in
    omega (arith, within, c.requires)

pub returns-in-Some : goal.returns-in-Some
returns-in-Some c =
    let fixed = c.args.fixed.now in
    let name = c.args.name.now in
    let isnt : is_among fixed name ≡ false = sym (is_some-place_of name fixed) ∙ (ap is_some (sym c.find.ensures.place) ∙ (sym c.is_some.ensures ∙ c.if-is_some.false)) in
    sym (set-option fixed c.args.options.now c.args.chosen.now name c.in-Some.option.0 c.find-2.ensures.different isnt c.in-Some.ensures.found)

pub returns-in-None : goal.returns-in-None
returns-in-None c =
    let fixed = c.args.fixed.now in
    let name = c.args.name.now in
    let isnt : is_among fixed name ≡ false = sym (is_some-place_of name fixed) ∙ (ap is_some (sym c.find.ensures.place) ∙ (sym c.is_some.ensures ∙ c.if-is_some.false)) in
    sym (set-none fixed c.args.options.now c.args.chosen.now name isnt (is_among-absent c.args.options.now name c.in-None.ensures.absent))
