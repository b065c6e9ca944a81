use Rattle.std.proofs.Common.{◌≡◌, ◌∙◌, ap, sym, false}
use Rattle.std.proofs.lemmas.List.{get_or_read}
use Rattle.doc_cond.specs.declared.LineKind.TheVariants.{Plain}
use Rattle.doc_cond.specs.Nesting.{is_closer, is_opener, closes_at, opens_at}
use Rattle.doc_cond.proofs.Counting.{Nests-other}
use Rattle.doc_cond.proofs.nest.Nest.pass.Goals as goal

pub returns : goal.returns
returns c =
    let kinds = c.args.kinds.now in
    let line = c.args.line in
    let no_opener : opens_at kinds line ≡ false = ap is_opener (sym (get_or_read kinds line _ c.requires.within c.index-kinds-line.is Plain)) ∙ (sym c.is_opener.ensures ∙ c.if-is_opener.false) in
    let no_closer : closes_at kinds line ≡ false = ap is_closer (sym (get_or_read kinds line _ c.requires.within c.index-kinds-line-2.is Plain)) ∙ (sym c.is_closer.ensures ∙ c.if-is_closer.false) in
    Nests-other kinds line c.requires.within c.args.self.now.pairs.items c.args.self.now.waiting.items c.requires.nests no_opener no_closer
