use Rattle.std.proofs.Common.{◌≡◌, ◌≢◌, ◌∙◌, ◌<◌, ap, sym, subst, inr, ℕ, length, get_or, eq-eqb, arith}
use Rattle.std.specs.Vec.{vec_len}
use Rattle.std.proofs.lemmas.Bool.{eqb-true, false≢true}
use Rattle.std.proofs.lemmas.List.{get_or_read, nil_from_length}
use Rattle.doc_cond.specs.Nesting.{IsFirstLeftOpen}
use Rattle.doc_cond.specs.Progress.{Nests, pair_at}
use Rattle.doc_cond.proofs.Counting.{all_pairs, first_left}
use Rattle.doc_cond.proofs.pairs.Goals as goal

pub returns-then-is_empty : goal.returns-then-is_empty
returns-then-is_empty c =
    let kinds = c.args.kinds.now in
    let pairs = c.loop-line.nest.pairs.items in
    let waiting = c.loop-line.nest.waiting.items in
    let at_end : c.loop-line.line ≡ length kinds = omega arith in
    let nests = subst (λ (line : ℕ). Nests kinds line pairs waiting) at_end c.loop-line.invariant in
    let none : length waiting ≡ 0 = omega (arith, c.loop-line.nest.waiting.ok.0, eqb-true (vec_len c.loop-line.nest.waiting) 0 (sym c.is_empty.ensures ∙ c.if-is_empty.true)) in
    all_pairs kinds pairs waiting nests (nil_from_length waiting none)

pub returns : goal.returns
returns c =
    let kinds = c.args.kinds.now in
    let pairs = c.loop-line.nest.pairs.items in
    let waiting = c.loop-line.nest.waiting.items in
    let at_end : c.loop-line.line ≡ length kinds = omega arith in
    let nests = subst (λ (line : ℕ). Nests kinds line pairs waiting) at_end c.loop-line.invariant in
    let differs : vec_len c.loop-line.nest.waiting ≢ 0 = λ none. false≢true (sym c.if-is_empty.false ∙ (c.is_empty.ensures ∙ eq-eqb (vec_len c.loop-line.nest.waiting) 0 none)) in
    let some : 0 < length waiting = omega (arith, c.loop-line.nest.waiting.ok.0) in
    let slot : c.index-left.result.now ≡ get_or waiting 0 0 = get_or_read waiting 0 c.index-left.result.now some c.index-left.ensures 0 in
    let pair : c.index.result.now ≡ pair_at pairs c.index-left.result.now = get_or_read pairs c.index-left.result.now c.index.result.now (omega (arith, slot, nests.slots 0 some)) c.index.ensures (0, 0) in
    inr (subst (IsFirstLeftOpen kinds) (sym (ap (λ p. p.0) pair ∙ ap (λ s. (pair_at pairs s).0) slot)) (first_left kinds pairs waiting nests some))
