use Rattle.std.proofs.Common.{◌≡◌, ◌+◌, ◌<◌, ℕ, List, true, drop, length, length-drop, sym, ◌∙◌, ap, arith}
use Rattle.std.proofs.lemmas.Bool.{eqb-true, eq-eqb, false≢true}
use Rattle.std.proofs.lemmas.List.{drop-drop, take_rest}
use Rattle.vkb_bytes.specs.Bytes.{begins}
use Rattle.vu_tags.specs.Tagged.{parameter_front}
use Rattle.vu_tags.proofs.ParameterLemmas.{parameter_found, parameter_none, parameter_on}
use Rattle.vu_tags.proofs.pieces.parameter_of.Goals as goal

pub returns-then-not-is_empty : goal.returns-then-not-is_empty
returns-then-not-is_empty c =
    let text = c.args.statement.now in
    let at = c.loop-step.at in
    let step = c.in-Some.step in
    let none = rw take_rest at c.in-Some.ensures.before in
    let inside = rw take_rest at c.in-Some.ensures.within in
    let within : at + step < length text = omega (arith, inside, length-drop at text) in
    let here = rw take_rest at c.in-Some.ensures.here in
    let begun : begins (drop (at + step) text) parameter_front ≡ true = ap (λ (bytes : List ℕ). begins bytes parameter_front) (sym (drop-drop step at text)) ∙ here in
    let word = rw take_rest at c.word_behind-word.ensures in
    word
    ∙ sym (parameter_found text at step within none begun (λ empty. false≢true (sym c.if-not-is_empty.true ∙ c.is_empty.ensures ∙ eq-eqb _ 0 (ap length word ∙ empty))))
    ∙ c.loop-step.invariant.same

pub loop-step-preserved : goal.loop-step-preserved
loop-step-preserved c =
    let text = c.args.statement.now in
    let at = c.loop-step.at in
    let step = c.in-Some.step in
    let none = rw take_rest at c.in-Some.ensures.before in
    let inside = rw take_rest at c.in-Some.ensures.within in
    let within : at + step < length text = omega (arith, inside, length-drop at text) in
    let here = rw take_rest at c.in-Some.ensures.here in
    let begun : begins (drop (at + step) text) parameter_front ≡ true = ap (λ (bytes : List ℕ). begins bytes parameter_front) (sym (drop-drop step at text)) ∙ here in
    let word = rw take_rest at c.word_behind-word.ensures in
    let empty = eqb-true _ 0 (sym c.is_empty.ensures ∙ c.if-not-is_empty.false) in
    record {
      in_text = omega arith;
      same = sym (parameter_on text at step within none begun (ap length (sym word) ∙ empty)) ∙ c.loop-step.invariant.same;
    }

pub returns : goal.returns
returns c =
    let none = rw take_rest at c.in_default.ensures.none in
    sym (parameter_none (drop c.loop-step.at c.args.statement.now) none) ∙ c.loop-step.invariant.same
