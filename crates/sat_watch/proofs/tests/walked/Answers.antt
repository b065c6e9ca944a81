use Rattle.std.proofs.Common.{◌≡◌, [], ◌∷◌, ◌++◌, ap, ◌∙◌, sym}
use Rattle.std.proofs.lemmas.List.{append_assoc}
use Rattle.sat_watch.specs.Watching.{list_at}
use Rattle.sat_watch.proofs.WalkLemmas.{next-shorter}
use Rattle.sat_watch.proofs.tests.walked.Goals as goal

pub loop-at-preserved : goal.loop-at-preserved
loop-at-preserved c =
    let old = rw c.in-Some.is at c.loop-at.invariant.split in
    let begins = old.2 in
    let whole : list_at c.args.watches.now.lists c.args.list ≡ c.loop-at.found.items ++ c.in-Some.watcher ∷ begins.0 =
    old.1 ∙ ap (λ xs. c.loop-at.found.items ++ xs) begins.1 in
    record {
      split = (
        begins.0,
        rw c.in_ok-push.ensures.items (whole ∙ sym (append_assoc c.loop-at.found.items (c.in-Some.watcher ∷ []) begins.0)),
        c.next-at.ensures.next c.args.list c.loop-at.found.items begins.0 whole,
      );
      known = c.next-at.ensures.known;
    }

pub loop-at-smaller : goal.loop-at-smaller
loop-at-smaller c =
    let old = rw c.in-Some.is at c.loop-at.invariant.split in
    let begins = old.2 in
    let whole : list_at c.args.watches.now.lists c.args.list ≡ c.loop-at.found.items ++ c.in-Some.watcher ∷ begins.0 =
    old.1 ∙ ap (λ xs. c.loop-at.found.items ++ xs) begins.1 in
    rw c.in-Some.is
    (next-shorter (list_at c.args.watches.now.lists c.args.list) c.loop-at.found.items c.in-Some.watcher begins.0 c.next-at.result whole
    (c.next-at.ensures.next c.args.list) (c.each_stands_once.ensures.ahead c.args.list))
