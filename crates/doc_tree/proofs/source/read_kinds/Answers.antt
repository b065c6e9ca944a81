use Rattle.std.proofs.Common.{◌≡◌, ◌+◌, ℕ, List, sym, subst, take, get_or}
use Rattle.std.specs.List.{AllZip}
use Rattle.std.proofs.lemmas.List.{get_or_default}
use Rattle.std.proofs.lemmas.Result.{err_from_is_err_and}
use Rattle.vkb_text.specs.declared.Line.{Line}
use Rattle.doc_cond.specs.declared.LineKind.{LineKind}
use Rattle.doc_tree.specs.Opening.{IsSure}
use Rattle.doc_tree.proofs.SourceLemmas.{bytes_of, kinds_more, spelling_told}
use Rattle.doc_tree.proofs.source.read_kinds.Goals as goal

no_line : Line
no_line = record { file = 0; number = 0; span = record { from = 0; to = 0 } }

pub returns-in_err-kind-clause-fault : goal.returns-in_err-kind-clause-fault
unfolding no_line
returns-in_err-kind-clause-fault c =
    let lines = c.args.lines.now in
    let i = c.loop-line.line-index in
    let line = get_or lines i no_line in
    let here : get_or lines i line ≡ line = get_or_default lines i line no_line c.loop-line-test.true in
    let p = err_from_is_err_and c.from_residual.result c.from_residual.ensures.1 in
    rw (p.1, p.2) (spelling_told c.args.text.now.bytes c.args.name.now lines i line c.loop-line.kinds.items c.in_err-kind.field-0.0 c.loop-line-test.true here c.requires.numbers c.loop-line.invariant (rw c.slice.ensures.bytes at c.in_err-kind.ensures.fault))

pub loop-line-preserved : goal.loop-line-preserved
unfolding no_line
loop-line-preserved c =
    let lines = c.args.lines.now in
    let i = c.loop-line.line-index in
    let text = c.args.text.now.bytes in
    let line = get_or lines i no_line in
    let here : get_or lines i line ≡ line = get_or_default lines i line no_line c.loop-line-test.true in
    let sure : IsSure c.slice.result.now c.in_ok-kind.kind = record { is = c.in_ok-kind.ensures.kind; only = c.in_ok-kind.ensures.only } in
    subst (λ (ks : List LineKind). AllZip IsSure (bytes_of text (take (i + 1) lines)) ks) (sym c.in_ok-push.ensures.items)
    (kinds_more text lines i line c.loop-line.kinds.items c.in_ok-kind.kind c.loop-line-test.true here c.loop-line.invariant (subst (λ (b : List ℕ). IsSure b c.in_ok-kind.kind) c.slice.ensures.bytes sure))
