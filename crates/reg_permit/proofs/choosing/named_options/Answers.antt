use Rattle.std.proofs.Common.{◌∙◌, ℕ, length, replicate, take, false, refl, ap, inr, Some, List, arith}
use Rattle.std.proofs.lemmas.Option.{slice_get_within}
use Rattle.vkb_formula.specs.Names.{place_of}
use Rattle.reg_permit.specs.declared.choosing.ChoiceFault.TheVariants.{UnknownOption}
use Rattle.reg_permit.proofs.ChoiceLemmas.{chosen-count, chosen-none, known-more, named-more, unknown-here}
use Rattle.reg_permit.proofs.choosing.named_options.Goals as goal

pub loop-word-init : goal.loop-word-init
loop-word-init c = record {
  known = refl;
  named = c.in_ok-chosen.ensures ∙ ap (λ n. replicate n false) c.len.ensures.count ∙ chosen-none c.args.options.now;
}

pub index_mut-requires : goal.index_mut-requires
index_mut-requires c =
    omega (
      arith,
      slice_get_within c.args.options.now c.in-Some.option.0 c.as_slice.result.now c.in-Some.ensures.found,
      ap length c.loop-word.invariant.named,
      chosen-count c.args.options.now (take c.loop-word.word-index c.args.words.now),
    )

pub loop-word-preserved : goal.loop-word-preserved
loop-word-preserved c = record {
  known = known-more c.args.options.now c.args.words.now c.loop-word.word-index c.word-item.result (omega arith) c.word-item.is c.in-Some.option.0
      (c.in-Some.ensures.place ∙ ap (λ (w : List ℕ). place_of w c.args.options.now) c.as_slice.ensures) c.loop-word.invariant.known;
  named = named-more c.args.options.now c.args.words.now c.loop-word.word-index c.word-item.result (omega arith) c.word-item.is c.in-Some.option.0 c.loop-word.chosen.items
      c.in-Some.ensures.different (c.in-Some.ensures.found ∙ ap (λ (w : List ℕ). Some w) c.as_slice.ensures) c.loop-word.invariant.named;
}

pub returns-in-None-clause-fault : goal.returns-in-None-clause-fault
returns-in-None-clause-fault c =
    inr (
      c.word-item.result,
      c.in_ok-unknown-in-None.ensures ∙ ap (λ (w : List ℕ). UnknownOption w) c.as_slice-in-None.ensures,
      unknown-here c.args.options.now c.args.words.now c.loop-word.word-index c.word-item.result (omega arith) c.word-item.is
          (c.in-None.ensures.place ∙ ap (λ (w : List ℕ). place_of w c.args.options.now) c.as_slice.ensures) c.loop-word.invariant.known,
    )
