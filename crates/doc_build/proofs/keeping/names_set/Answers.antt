use Rattle.std.proofs.Common.{◌∙◌, ◌++◌, ap, map, arith}
use Rattle.std.proofs.lemmas.List.{take_all}
use Rattle.doc_tree.specs.Flat.{is_among}
use Rattle.doc_build.specs.Choices.{chosen_of}
use Rattle.doc_build.proofs.ChosenLemmas.{set-alike, set-more}
use Rattle.doc_build.proofs.keeping.names_set.Goals as goal

pub loop-id-preserved : goal.loop-id-preserved
loop-id-preserved c =
    let set = c.args.fixed.now ++ chosen_of c.args.options.now c.args.chosen.now in
    set-more set c.args.names.now c.loop-id.id c.name.result.now c.name.ensures.held c.loop-id.set.items c.push.new.self.items c.is_set-value.result
    c.loop-id.invariant c.in_ok-push.ensures.items c.is_set-value.ensures

pub returns : goal.returns
returns c = λ always same.
    let set = c.args.fixed.now ++ chosen_of c.args.options.now c.args.chosen.now in
    c.loop-id.invariant
    ∙ ap (map (is_among set)) (take_all c.loop-id.id c.args.names.now (omega (arith, c.loop-id-test.false, c.len-count.ensures.count)))
    ∙ set-alike c.args.fixed.now always c.args.options.now c.args.chosen.now same c.args.names.now
