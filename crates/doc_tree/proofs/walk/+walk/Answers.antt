use Rattle.std.proofs.Common.{◌≡◌, ◌∙◌, ◌++◌, ◌-◌, [], ℕ, suc, List, Some, length, slice_get, slice_index_or, refl, sym, ap, subst, arith, rules}
use Rattle.std.proofs.lemmas.Option.{IfSome_then, slice_get_within}
use Rattle.std.proofs.lemmas.Result.{err_from_is_err_and}
use Rattle.doc_tree.specs.declared.source.SourceFile.{SourceFile}
use Rattle.doc_tree.specs.Answer.{told_of}
use Rattle.doc_tree.specs.Loaded.{round_at, rounds_of}
use Rattle.doc_tree.specs.Running.{IsAt}
use Rattle.doc_tree.specs.Walk.{Step, first_fault, steps_below}
use Rattle.doc_tree.proofs.DraftLemmas.{before_later}
use Rattle.doc_tree.proofs.FollowLemmas.{below_runs, below_stops, depth_told, file_kept, file_named, grows_itself, grows_then, line_there, no_chapter, slice_get_some, there_taken, was_there}
use Rattle.doc_tree.proofs.NamesLemmas.{extends_itself, extends_length, extends_on}
use Rattle.doc_tree.proofs.ReadsLemmas.{agree_before, by_both, by_names, by_none, by_same, by_then, turns_on}
use Rattle.doc_tree.proofs.RoundsLemmas.{round_stays}
use Rattle.doc_tree.proofs.WalkLemmas.{at_taken, flat_at, follow_stops, is_kind_here, reached_first, reached_last, step_reached, steps_found, take_stops}
use Rattle.doc_tree.proofs.walk.+walk.Goals as goal

pub follow-returns-in_default-clause-runs : goal.follow-returns-in_default-clause-runs
follow-returns-in_default-clause-runs g t c =
    by_none (λ files flat at_line sources are room before was.
    no_chapter sources room before c.args.text.now c.args.draft.now c.args.kept.now.items was flat c.args.left c.args.chapter c.in_default.is)

pub follow-returns-in_err-name-clause-runs : goal.follow-returns-in_err-name-clause-runs
follow-returns-in_err-name-clause-runs g t c =
    let p = err_from_is_err_and c.from_residual.result c.from_residual.ensures.1 in
    rw (p.1, p.2, c.in_err-name.ensures.fault) (by_none (λ files flat at_line sources are room before was. tt))

pub follow-returns-then-left-eq0-clause-runs : goal.follow-returns-then-left-eq0-clause-runs
follow-returns-then-left-eq0-clause-runs g t c =
    let none : c.args.left ≡ 0 = omega (arith, c.if-left-eq0.true) in
    rw c.in-Some.is (by_none (λ files flat at_line sources are room before was.
    depth_told sources room before c.args.text.now c.args.draft.now c.args.kept.now.items c.args.line c.args.within c.in-Some.chapter flat at_line c.args.left c.in_ok-name.name none c.in_ok-name.ensures.name))

pub follow-returns-in_err-file-clause-runs : goal.follow-returns-in_err-file-clause-runs
follow-returns-in_err-file-clause-runs g t c =
    let one : c.args.left ≡ suc (c.args.left - 1) = omega (arith, c.if-left-eq0.false) in
    let p = err_from_is_err_and c.from_residual-in_err-file.result c.from_residual-in_err-file.ensures.1 in
    rw (p.1, p.2, c.in-Some.is) (by_then (λ files others same. same) c.in_err-file.ensures.runs (λ files runs flat at_line sources are room before was.
    below_stops sources room before c.args.text.now c.args.draft.now c.args.kept.now.items c.args.line c.args.within c.in-Some.chapter flat at_line c.args.left (c.args.left - 1) c.in_err-file.field-0.0 one (rw c.as_str.ensures at (runs sources are room before was))))

pub follow-walk_file-requires : goal.follow-walk_file-requires
follow-walk_file-requires g t c κs within =
    let opens = c.in_ok-file.ensures in
    let lines = ap length opens.lines in (
      omega (arith, c.decreases, c.if-left-eq0.false),
      (
        search rules,
        (
          opens.goes.there,
          (
            omega (arith, opens.one_more, lines, c.requires.few),
            (
              slice_get_within c.open_file.new.draft.files c.in_ok-file.file c.as_str.result.now opens.file,
              before_later (length c.args.draft.now.conds) (length c.open_file.new.draft.conds) c.args.within (extends_length c.args.draft.now.conds c.open_file.new.draft.conds opens.goes.grows.conds) c.requires.within,
            ),
          ),
        ),
      ),
    )

pub follow-returns-clause-runs : goal.follow-returns-clause-runs
follow-returns-clause-runs g t c =
    let one : c.args.left ≡ suc (c.args.left - 1) = omega (arith, c.if-left-eq0.false) in
    let opens = c.in_ok-file.ensures in
    let here : slice_get c.open_file.new.draft.files c.in_ok-file.file ≡ Some c.in-Some.chapter = rw c.as_str.ensures at opens.file in
    let stays = round_stays c.args.draft.now c.open_file.new.draft c.args.within c.requires.there.draft.loaded.conds opens.goes.grows.names opens.goes.grows.conds c.requires.within in
    let walks = c.walk_file.ensures in
    rw c.in-Some.is (by_both opens.kept opens.goes.grows.files (turns_on c.walk_file.result c.walk_file.new.text c.open_file.new.draft c.walk_file.new.draft c.open_file.new.kept.items c.walk_file.new.kept.items walks.goes) opens.runs walks.runs (λ files opened walks flat at_line sources are room before was.
    let o = rw c.as_str.ensures at (opened sources are room before was) in
    below_runs sources room before c.args.text.now c.args.draft.now c.args.kept.now.items c.args.line c.args.within c.in-Some.chapter flat at_line c.args.left (c.args.left - 1) c.open_file.new.draft c.walk_file.new.draft c.walk_file.new.text c.walk_file.new.kept.items
    c.in_ok-file.file c.walk_file.result one o.0 here stays (walks sources are room _ o.1)))

pub walk_file-loop-place-init : goal.walk_file-loop-place-init
walk_file-loop-place-init g t c = record {
  there = c.requires.there;
  few = c.requires.few;
  grows = grows_itself c.args.draft.now;
  kept_grows = extends_itself c.args.kept.now.items;
  within = c.requires.round;
  text_grows = extends_itself c.args.text.now.bytes;
  most = refl;
  holds = refl;
  puts = refl;
  reads = refl;
  runs = by_none (λ files sources are room before was.
      reached_first sources room before c.args.left (slice_index_or c.args.draft.now.files c.args.file []) c.args.text.now c.args.draft.now c.args.kept.now.items c.args.round was);
}

pub walk_file-line_at-line-requires-clause-file : goal.walk_file-line_at-line-requires-clause-file
walk_file-line_at-line-requires-clause-file g t c =
    let inv = c.loop-place.invariant in
    rw c.as_slice-in-loop-place.ensures.value (file_kept c.loop-place.text.bytes c.args.draft.now c.loop-place.draft c.loop-place.kept.items c.args.file inv.grows inv.there c.requires.file)

pub walk_file-line_at-line-requires-clause-place : goal.walk_file-line_at-line-requires-clause-place
walk_file-line_at-line-requires-clause-place g t c = λ source is.
    let inv = c.loop-place.invariant in
    let file = c.args.file in
    let here : slice_get c.loop-place.kept.items file ≡ Some source = ap (λ (k : List SourceFile). slice_get k file) (sym c.as_slice-in-loop-place.ensures.value) ∙ is in
    let below = file_kept c.args.text.now.bytes c.args.draft.now c.args.draft.now c.args.kept.now.items file (grows_itself c.args.draft.now) c.requires.there c.requires.file in
    let before = was_there c.args.kept.now.items c.loop-place.kept.items file source inv.kept_grows below here in
    let count = c.line_count-count.ensures source (ap (λ (k : List SourceFile). slice_get k file) c.as_slice.ensures.value ∙ before) in
    omega (arith, count, c.loop-place-test.true)

pub walk_file-take-requires : goal.walk_file-take-requires
walk_file-take-requires g t c =
    let inv = c.loop-place.invariant in
    let text = c.loop-place.text in
    let d = c.loop-place.draft in
    let kept = c.loop-place.kept.items in
    let d0 = c.args.draft.now in
    let file = c.args.file in
    let place = c.loop-place.place in
    let left = c.args.left in
    let name : List ℕ = slice_index_or d0.files file [] in
    let round = round_at (rounds_of d0) c.args.round in
    let named = file_named d0 d file inv.grows c.requires.file in
    let below = file_kept text.bytes d0 d kept file inv.grows inv.there c.requires.file in
    let found = slice_get_some kept file below in
    let source = found.0 in
    let line = c.line_at-line.result in
    let line_is = c.line_at-line.ensures source (ap (λ (k : List SourceFile). slice_get k file) c.as_slice-in-loop-place.ensures.value ∙ found.1) in
    let lies = line_there text.bytes d kept file place source line inv.there found.1 line_is in
    let more = extends_length d0.files d.files inv.grows.files in
    record {
      draft = inv.there.draft;
      span = lies.0;
      file = omega (arith, lies.1, more, c.requires.file);
      within = inv.within;
    }

pub walk_file-returns-in_err-taken-clause-runs : goal.walk_file-returns-in_err-taken-clause-runs
walk_file-returns-in_err-taken-clause-runs g t c =
    let inv = c.loop-place.invariant in
    let text = c.loop-place.text in
    let d = c.loop-place.draft in
    let kept = c.loop-place.kept.items in
    let d0 = c.args.draft.now in
    let file = c.args.file in
    let place = c.loop-place.place in
    let left = c.args.left in
    let name : List ℕ = slice_index_or d0.files file [] in
    let round = round_at (rounds_of d0) c.args.round in
    let named = file_named d0 d file inv.grows c.requires.file in
    let below = file_kept text.bytes d0 d kept file inv.grows inv.there c.requires.file in
    let found = slice_get_some kept file below in
    let source = found.0 in
    let line = c.line_at-line.result in
    let line_is = c.line_at-line.ensures source (ap (λ (k : List SourceFile). slice_get k file) c.as_slice-in-loop-place.ensures.value ∙ found.1) in
    let lies = line_there text.bytes d kept file place source line inv.there found.1 line_is in
    let p = err_from_is_err_and c.from_residual.result c.from_residual.ensures.1 in
    rw (p.1, p.2) (by_then (by_same d.files) inv.runs (λ files reach sources are room before was.
    IfSome_then (told_of c.in_err-taken.field-0.0)
    (take_stops sources room before left name round place text d kept c.loop-place.within (reach sources are room before was) file named source found.1 inv.there.draft inv.within line line_is c.in_err-taken.field-0.0 (c.in_err-taken.ensures.fault _ (is_kind_here sources room before left name round place text d kept c.loop-place.within (reach sources are room before was) file named source found.1 inv.there.draft inv.within line line_is)))
    (λ told why. ap (first_fault sources room before) (steps_found (steps_below sources left) name round (sources name)) ∙ why)))

pub walk_file-follow-requires : goal.walk_file-follow-requires
walk_file-follow-requires g t c κs within =
    let inv = c.loop-place.invariant in
    let text = c.loop-place.text in
    let d = c.loop-place.draft in
    let kept = c.loop-place.kept.items in
    let d0 = c.args.draft.now in
    let file = c.args.file in
    let place = c.loop-place.place in
    let left = c.args.left in
    let name : List ℕ = slice_index_or d0.files file [] in
    let round = round_at (rounds_of d0) c.args.round in
    let named = file_named d0 d file inv.grows c.requires.file in
    let below = file_kept text.bytes d0 d kept file inv.grows inv.there c.requires.file in
    let found = slice_get_some kept file below in
    let source = found.0 in
    let line = c.line_at-line.result in
    let line_is = c.line_at-line.ensures source (ap (λ (k : List SourceFile). slice_get k file) c.as_slice-in-loop-place.ensures.value ∙ found.1) in
    let lies = line_there text.bytes d kept file place source line inv.there found.1 line_is in
    let is = c.in_ok-taken.ensures.draft in
    let files = ap length is.files_are in
    let more = extends_length d0.files d.files inv.grows.files in (
      omega (arith, c.decreases),
      (
        search rules,
        (
          there_taken text.bytes d c.take.new.self kept c.in_ok-taken.taken.behind inv.there is,
          (
            omega (arith, files, is.one_more, inv.few),
            (
              omega (arith, lies.1, more, files, c.requires.file),
              is.behind_is,
            ),
          ),
        ),
      ),
    )

pub walk_file-returns-in_err-follow-clause-runs : goal.walk_file-returns-in_err-follow-clause-runs
walk_file-returns-in_err-follow-clause-runs g t c =
    let inv = c.loop-place.invariant in
    let text = c.loop-place.text in
    let d = c.loop-place.draft in
    let kept = c.loop-place.kept.items in
    let d0 = c.args.draft.now in
    let file = c.args.file in
    let place = c.loop-place.place in
    let left = c.args.left in
    let name : List ℕ = slice_index_or d0.files file [] in
    let round = round_at (rounds_of d0) c.args.round in
    let named = file_named d0 d file inv.grows c.requires.file in
    let below = file_kept text.bytes d0 d kept file inv.grows inv.there c.requires.file in
    let found = slice_get_some kept file below in
    let source = found.0 in
    let line = c.line_at-line.result in
    let line_is = c.line_at-line.ensures source (ap (λ (k : List SourceFile). slice_get k file) c.as_slice-in-loop-place.ensures.value ∙ found.1) in
    let lies = line_there text.bytes d kept file place source line inv.there found.1 line_is in
    let p = err_from_is_err_and c.from_residual-in_err-follow.result c.from_residual-in_err-follow.ensures.1 in
    rw (p.1, p.2) (by_both inv.holds inv.grows.files (by_same d.files) inv.runs (by_names c.in_ok-taken.ensures.draft.files_are c.in_err-follow.ensures.runs) (λ files reach follows sources are room before was.
    IfSome_then (told_of c.in_err-follow.field-0.0)
    (follow_stops sources room before left name round place text d kept c.loop-place.within (reach sources are room before was) file named source found.1 inv.there.draft inv.within line line_is c.take.new.self c.in_ok-taken.taken c.in_ok-taken.ensures.draft (c.in_ok-taken.ensures.line _ (is_kind_here sources room before left name round place text d kept c.loop-place.within (reach sources are room before was) file named source found.1 inv.there.draft inv.within line line_is)) c.in_err-follow.field-0.0
    (follows _ (flat_at sources room before left name round place text d kept c.loop-place.within (reach sources are room before was) file named source found.1 inv.there.draft inv.within line line_is c.take.new.self c.in_ok-taken.taken c.in_ok-taken.ensures.draft (c.in_ok-taken.ensures.line _ (is_kind_here sources room before left name round place text d kept c.loop-place.within (reach sources are room before was) file named source found.1 inv.there.draft inv.within line line_is))) sources are room _ (at_taken sources room before left name round place text d kept c.loop-place.within (reach sources are room before was) file named source found.1 inv.there.draft inv.within line line_is c.take.new.self c.in_ok-taken.taken c.in_ok-taken.ensures.draft (c.in_ok-taken.ensures.line _ (is_kind_here sources room before left name round place text d kept c.loop-place.within (reach sources are room before was) file named source found.1 inv.there.draft inv.within line line_is)))))
    (λ told why. ap (first_fault sources room before) (steps_found (steps_below sources left) name round (sources name)) ∙ why)))

pub walk_file-loop-place-preserved : goal.walk_file-loop-place-preserved
walk_file-loop-place-preserved g t c =
    let inv = c.loop-place.invariant in
    let text = c.loop-place.text in
    let d = c.loop-place.draft in
    let kept = c.loop-place.kept.items in
    let d0 = c.args.draft.now in
    let file = c.args.file in
    let place = c.loop-place.place in
    let left = c.args.left in
    let name : List ℕ = slice_index_or d0.files file [] in
    let round = round_at (rounds_of d0) c.args.round in
    let named = file_named d0 d file inv.grows c.requires.file in
    let below = file_kept text.bytes d0 d kept file inv.grows inv.there c.requires.file in
    let found = slice_get_some kept file below in
    let source = found.0 in
    let line = c.line_at-line.result in
    let line_is = c.line_at-line.ensures source (ap (λ (k : List SourceFile). slice_get k file) c.as_slice-in-loop-place.ensures.value ∙ found.1) in
    let lies = line_there text.bytes d kept file place source line inv.there found.1 line_is in
    let is = c.in_ok-taken.ensures.draft in
    let follows = c.in_ok-follow.ensures in
    let d1 = c.take.new.self in
    let d2 = c.follow.new.draft in
    let behind = c.in_ok-taken.taken.behind in
    let stays = round_stays d1 d2 behind is.draft.loaded.conds follows.goes.grows.names follows.goes.grows.conds is.behind_is in
    record {
      there = follows.goes.there;
      few = follows.few;
      grows = grows_then d0 d1 d2 (grows_then d0 d d1 inv.grows is.grows) follows.goes.grows;
      kept_grows = extends_on c.args.kept.now.items kept c.follow.new.kept.items inv.kept_grows follows.goes.kept_grows;
      within = before_later (length d1.conds) (length d2.conds) behind (extends_length d1.conds d2.conds follows.goes.grows.conds) is.behind_is;
      text_grows = extends_on c.args.text.now.bytes text.bytes c.follow.new.text.bytes inv.text_grows follows.grows;
      most = follows.most ∙ inv.most;
      holds = follows.kept ∙ inv.holds;
      puts = follows.puts ∙ inv.puts;
      reads = follows.counted ∙ inv.reads;
      runs = by_both inv.holds inv.grows.files (λ files others. agree_before d.files d2.files files others (grows_then d d1 d2 is.grows follows.goes.grows).files) inv.runs (by_names is.files_are follows.runs) (λ files reach goes sources are room before was.
          step_reached sources room before left name round place text d kept c.loop-place.within (reach sources are room before was) file named source found.1 inv.there.draft inv.within line line_is c.take.new.self c.in_ok-taken.taken c.in_ok-taken.ensures.draft (c.in_ok-taken.ensures.line _ (is_kind_here sources room before left name round place text d kept c.loop-place.within (reach sources are room before was) file named source found.1 inv.there.draft inv.within line line_is)) c.follow.new.text d2 c.follow.new.kept.items c.in_ok-follow.field-0 stays
          (goes _ (flat_at sources room before left name round place text d kept c.loop-place.within (reach sources are room before was) file named source found.1 inv.there.draft inv.within line line_is c.take.new.self c.in_ok-taken.taken c.in_ok-taken.ensures.draft (c.in_ok-taken.ensures.line _ (is_kind_here sources room before left name round place text d kept c.loop-place.within (reach sources are room before was) file named source found.1 inv.there.draft inv.within line line_is))) sources are room _ (at_taken sources room before left name round place text d kept c.loop-place.within (reach sources are room before was) file named source found.1 inv.there.draft inv.within line line_is c.take.new.self c.in_ok-taken.taken c.in_ok-taken.ensures.draft (c.in_ok-taken.ensures.line _ (is_kind_here sources room before left name round place text d kept c.loop-place.within (reach sources are room before was) file named source found.1 inv.there.draft inv.within line line_is)))));
    }

pub walk_file-returns-clause-runs : goal.walk_file-returns-clause-runs
walk_file-returns-clause-runs g t c =
    let inv = c.loop-place.invariant in
    let text = c.loop-place.text in
    let d = c.loop-place.draft in
    let kept = c.loop-place.kept.items in
    let d0 = c.args.draft.now in
    let file = c.args.file in
    let place = c.loop-place.place in
    let left = c.args.left in
    let name : List ℕ = slice_index_or d0.files file [] in
    let round = round_at (rounds_of d0) c.args.round in
    let named = file_named d0 d file inv.grows c.requires.file in
    let below = file_kept text.bytes d0 d kept file inv.grows inv.there c.requires.file in
    let found = slice_get_some kept file below in
    let source = found.0 in
    let was_below = file_kept c.args.text.now.bytes d0 d0 c.args.kept.now.items file (grows_itself d0) c.requires.there c.requires.file in
    let first = was_there c.args.kept.now.items kept file source inv.kept_grows was_below found.1 in
    let count = c.line_count-count.ensures source (ap (λ (k : List SourceFile). slice_get k file) c.as_slice.ensures.value ∙ first) in
    let at_end : place ≡ length source.lines = omega (arith, count, c.loop-place-test.false, c.loop-place.auto.place-end) in
    by_then (λ files others agree. agree) inv.runs (λ files reach sources are room before was.
    let last = reached_last sources room before left name round place text d kept c.loop-place.within (reach sources are room before was) file named source found.1 at_end in
    let same = steps_found (steps_below sources left) name round (sources name) in
    (ap (first_fault sources room before) same ∙ last.0, subst (λ (steps : List Step). IsAt sources room (before ++ steps) text d kept) (sym same) last.1))
