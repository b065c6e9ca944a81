use Rattle.std.proofs.Common.{◌≡◌, List, ℕ, true, false, ap, length, subst, sym, arith}
use Rattle.std.specs.Prelude.{nat_eq}
use Rattle.std.specs.List.{starts_with}
use Rattle.std.proofs.lemmas.List.{drop_more, length-drop}
use Rattle.doc_build.specs.Ids.{refpage}
use Rattle.doc_build.proofs.FilledLemmas.{filled-byte, filled-named}
use Rattle.doc_build.proofs.JoinLemmas.{rest-is}
use Rattle.doc_build.proofs.ids.filled.Goals as goal

pub loop-at-preserved-then-starts_with : goal.loop-at-preserved-then-starts_with
loop-at-preserved-then-starts_with c =
    let written = c.args.written.now in
    let at = c.loop-at.at in
    let rest = rest-is written at in
    let stands = subst (λ (r : List ℕ). starts_with nat_eq r refpage ≡ true) rest (sym c.if-starts_with.ensures.value) in (
      omega (arith, c.if-starts_with.ensures.bound, ap length rest, length-drop at written),
      filled-named c.args.page.now written at c.loop-at.id.items c.extend_from_slice.new.self.items _ stands c.in_ok-extend_from_slice.ensures.items c.loop-at.invariant.1,
    )

pub loop-at-preserved : goal.loop-at-preserved
loop-at-preserved c =
    let written = c.args.written.now in
    let at = c.loop-at.at in
    let isnt = subst (λ (r : List ℕ). starts_with nat_eq r refpage ≡ false) (rest-is written at) (sym c.if-starts_with.ensures.value) in (
      omega arith,
      filled-byte c.args.page.now written at _ c.loop-at.id.items c.push.new.self.items _ (drop_more written at _ c.loop-at-test.true) isnt c.in_ok-push.ensures.items c.loop-at.invariant.1,
    )
