use Rattle.std.proofs.Common.{◌≡◌, ◌∙◌, ◌+◌, ap, sym, subst, inl, ℕ, set, arith}
use Rattle.std.proofs.lemmas.Bool.{false≢true}
use Rattle.std.proofs.lemmas.List.{get_or_read, nil_from_length}
use Rattle.doc_cond.specs.declared.LineKind.{LineKind}
use Rattle.doc_cond.specs.declared.LineKind.TheVariants.{Plain}
use Rattle.doc_cond.specs.Nesting.{Repeats, kind_at}
use Rattle.doc_cond.specs.Progress.{Nests, pair_at}
use Rattle.doc_cond.proofs.Counting.{Nests-close, closes_nothing, closes_others, opener_before, slot_within}
use Rattle.doc_cond.proofs.nest.Nest.close.Goals as goal

pub returns-in_default : goal.returns-in_default
returns-in_default c =
    let waiting = c.args.self.now.waiting.items in
    let empty = nil_from_length waiting (omega (arith, c.args.self.now.waiting.ok.0, c.in_default.ensures.cases.0)) in
    inl (closes_nothing c.args.kinds.now c.args.line c.requires.within c.args.self.now.pairs.items waiting c.requires.nests empty c.requires.closes, c.requires.nests.faultless)

pub returns-then-not-repeats : goal.returns-then-not-repeats
returns-then-not-repeats c =
    let kinds = c.args.kinds.now in
    let line = c.args.line in
    let pairs = c.args.self.now.pairs.items in
    let waiting = c.args.self.now.waiting.items in
    let slot = c.in-Some.slot in
    let rest = c.pop.new.self.items in
    let pair : c.index.result.now ≡ pair_at pairs slot = get_or_read pairs slot c.index.result.now (slot_within kinds line c.requires.within pairs waiting c.requires.nests rest slot c.in-Some.ensures.items c.requires.closes) c.index.ensures (0, 0) in
    let opener : c.index.result.now.0 ≡ (pair_at pairs slot).0 = ap (λ p. p.0) pair in
    let before = opener_before kinds line c.requires.within pairs waiting c.requires.nests rest slot c.in-Some.ensures.items c.requires.closes in
    let opener_kind : c.index-kinds-opener.result ≡ kind_at kinds (pair_at pairs slot).0 = get_or_read kinds c.index.result.now.0 _ (omega (arith, before, opener, c.requires.within)) c.index-kinds-opener.is Plain ∙ ap (kind_at kinds) opener in
    let line_kind : c.index-kinds-line.result ≡ kind_at kinds line = get_or_read kinds line _ c.requires.within c.index-kinds-line.is Plain in
    let differs : ¬ Repeats (kind_at kinds (pair_at pairs slot).0) (kind_at kinds line) = λ r.
    false≢true (sym c.if-not-repeats.true ∙ c.repeats.ensures.1 (subst (λ (o : LineKind). Repeats o c.index-kinds-line.result) (sym opener_kind) (subst (λ (l : LineKind). Repeats (kind_at kinds (pair_at pairs slot).0) l) (sym line_kind) r))) in
    inl (closes_others kinds line c.requires.within pairs waiting c.requires.nests rest slot c.in-Some.ensures.items c.requires.closes differs, c.requires.nests.faultless)

pub returns : goal.returns
returns c =
    let kinds = c.args.kinds.now in
    let line = c.args.line in
    let pairs = c.args.self.now.pairs.items in
    let waiting = c.args.self.now.waiting.items in
    let slot = c.in-Some.slot in
    let rest = c.pop.new.self.items in
    let pair : c.index.result.now ≡ pair_at pairs slot = get_or_read pairs slot c.index.result.now (slot_within kinds line c.requires.within pairs waiting c.requires.nests rest slot c.in-Some.ensures.items c.requires.closes) c.index.ensures (0, 0) in
    let opener : c.index.result.now.0 ≡ (pair_at pairs slot).0 = ap (λ p. p.0) pair in
    let before = opener_before kinds line c.requires.within pairs waiting c.requires.nests rest slot c.in-Some.ensures.items c.requires.closes in
    let opener_kind : c.index-kinds-opener.result ≡ kind_at kinds (pair_at pairs slot).0 = get_or_read kinds c.index.result.now.0 _ (omega (arith, before, opener, c.requires.within)) c.index-kinds-opener.is Plain ∙ ap (kind_at kinds) opener in
    let line_kind : c.index-kinds-line.result ≡ kind_at kinds line = get_or_read kinds line _ c.requires.within c.index-kinds-line.is Plain in
    let repeated : Repeats (kind_at kinds (pair_at pairs slot).0) (kind_at kinds line) =
    subst (λ (o : LineKind). Repeats o (kind_at kinds line)) opener_kind (subst (λ (l : LineKind). Repeats c.index-kinds-opener.result l) line_kind (c.repeats.ensures.0 c.if-not-repeats.false)) in
    subst (λ (o : ℕ). Nests kinds (line + 1) (set pairs slot (o, line)) rest) (sym opener)
    (Nests-close kinds line c.requires.within pairs waiting c.requires.nests rest slot c.in-Some.ensures.items c.requires.closes repeated)
