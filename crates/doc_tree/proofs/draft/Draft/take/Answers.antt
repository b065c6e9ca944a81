use Rattle.std.proofs.Common.{◌≡◌, ◌<◌, length, ap, subst, arith}
use Rattle.doc_cond.specs.Lines.{IsKind, IsWithin as IsKindWithin}
use Rattle.doc_cond.specs.declared.LineKind.{LineKind}
use Rattle.vkb_text.specs.Spans.{slice_at}
use Rattle.doc_tree.specs.declared.DocLine.{DocLine}
use Rattle.doc_tree.specs.declared.Document.{Document}
use Rattle.doc_tree.specs.declared.draft.Taken.{Taken}
use Rattle.doc_tree.specs.Progress.{IsTaken, Takes}
use Rattle.doc_tree.specs.Walk.{most_lines}
use Rattle.doc_tree.proofs.TakeLemmas.{after_is, is_taken, takes}
use Rattle.doc_tree.proofs.draft.Draft.take.Goals as goal

pub returns-in-Ok-clause-draft : goal.returns-in-Ok-clause-draft
returns-in-Ok-clause-draft c =
    let text = c.args.text.now.bytes in
    let old = c.args.self.now in
    let inside = c.self-2.inside in
    let line : DocLine = record { line = c.args.line; kind = c.in_ok-kind.kind; within = c.in-Ok.standing.within; own = c.in-Ok.standing.own } in
    let seen = ap (λ (d : Document). length d.lines) c.self.view_is in
    let few : length old.lines < most_lines = omega (arith, seen, c.len.ensures, c.if-len-ge-MOST_LINES.false) in
    let kind_is : IsKind (slice_at text c.args.line.span) c.in_ok-kind.kind = rw (c.slice.ensures.bytes) at c.in_ok-kind.ensures.kind in
    let kind_within : IsKindWithin (slice_at text c.args.line.span) c.in_ok-kind.kind = rw (c.slice.ensures.bytes) at c.in_ok-kind.ensures.within in
    let new_is = after_is inside.files inside.names inside.conds.items inside.lines.items c.push.new.self.items c.stand.new.self line c.self-2.view_is c.in_ok-push-in-Ok.ensures.items in
    subst (λ (d : Document). IsTaken text old d c.in-Ok.standing.behind) new_is
    (is_taken text old c.stand.new.self c.args.line c.in_ok-kind.kind c.args.within c.in-Ok.standing c.requires.draft c.in-Ok.ensures.stands c.requires.span c.requires.file kind_is kind_within few (c.in-Ok.ensures.few c.requires.draft.names_few))

pub returns-in-Ok-clause-line : goal.returns-in-Ok-clause-line
returns-in-Ok-clause-line c = λ kind is.
    let text = c.args.text.now.bytes in
    let old = c.args.self.now in
    let inside = c.self-2.inside in
    let line : DocLine = record { line = c.args.line; kind = c.in_ok-kind.kind; within = c.in-Ok.standing.within; own = c.in-Ok.standing.own } in
    let seen = ap (λ (d : Document). length d.lines) c.self.view_is in
    let few : length old.lines < most_lines = omega (arith, seen, c.len.ensures, c.if-len-ge-MOST_LINES.false) in
    let kind_is : IsKind (slice_at text c.args.line.span) c.in_ok-kind.kind = rw (c.slice.ensures.bytes) at c.in_ok-kind.ensures.kind in
    let kind_within : IsKindWithin (slice_at text c.args.line.span) c.in_ok-kind.kind = rw (c.slice.ensures.bytes) at c.in_ok-kind.ensures.within in
    let new_is = after_is inside.files inside.names inside.conds.items inside.lines.items c.push.new.self.items c.stand.new.self line c.self-2.view_is c.in_ok-push-in-Ok.ensures.items in
    let same : c.in_ok-kind.kind ≡ kind = c.in_ok-kind.ensures.only kind (rw (c.slice.ensures.bytes) is) in
    let taken : Taken = record { behind = c.in-Ok.standing.behind; chapter = c.in_ok-chapter.chapter } in
    subst (λ (k : LineKind). Takes text old (record { files = inside.files; names = inside.names; conds = inside.conds.items; lines = c.push.new.self.items }) c.args.line k c.args.within taken) same
    (subst (λ (d : Document). Takes text old d c.args.line c.in_ok-kind.kind c.args.within taken) new_is
    (takes text old c.stand.new.self c.args.line c.in_ok-kind.kind c.args.within c.in-Ok.standing c.requires.draft c.in-Ok.ensures.stands c.requires.span c.requires.file kind_is kind_within few (c.in-Ok.ensures.few c.requires.draft.names_few) c.in_ok-chapter.chapter c.in_ok-chapter.ensures.chapter))
