-- A document so far, when a line is taken.
use Rattle.std.proofs.Common.{◌≡◌, ◌∙◌, sym, ap, subst, ℕ, ◌+◌, ◌<◌, ◌≤◌, List, [], ◌∷◌, ◌++◌, length, map, All, Option, get_or, slice_index_or, arith}
use Rattle.std.specs.List.{flat_map}
use Rattle.std.proofs.lemmas.List.{append-nil, length_push, map-append}
use Rattle.std.proofs.lemmas.List.Concat.{flat_map-append}
use Rattle.std.proofs.lemmas.List.Elements.{All-push, All-weaker}
use Rattle.vkb_formula.specs.Names.{AreDifferent, most_names}
use Rattle.vkb_text.specs.Spans.{IsWithin as IsSpanWithin, slice_at}
use Rattle.vkb_text.specs.declared.Line.{Line}
use Rattle.doc_cond.specs.Lines.{IsKind, IsWithin as IsKindWithin}
use Rattle.doc_cond.specs.declared.LineKind.{LineKind}
use Rattle.doc_cond.specs.declared.LineKind.TheVariants.{Plain, Comment, Other, Begin, OneLine, Close, Chapter, Api, Validity, Refpage}
use Rattle.doc_tree.specs.declared.Cond.{Cond}
use Rattle.doc_tree.specs.declared.CondId.{CondId}
use Rattle.doc_tree.specs.declared.DocLine.{DocLine}
use Rattle.doc_tree.specs.declared.Document.{Document}
use Rattle.doc_tree.specs.declared.draft.Standing.{Standing}
use Rattle.doc_tree.specs.Flat.{Condition, FlatLine}
use Rattle.doc_tree.specs.Loaded.{IsLineThere, IsLoaded, IsOwn, flat_line, flat_of, round_at, rounds_of}
use Rattle.doc_tree.specs.Names.{each_once, names_in}
use Rattle.doc_tree.specs.Progress.{AreCondsThere, Extends, IsDraft, IsTaken, Stands, Takes, chapter_in, stands_in, with_names}
use Rattle.doc_tree.specs.Walk.{condition_in, most_lines}
use Rattle.doc_tree.proofs.NamesLemmas.{AreDifferent-each_once, each_once-names, extends_itself, extends_length, map_alike, with_names-extends}
use Rattle.doc_tree.proofs.RoundsLemmas.{condition-stays, round_stays}
use Rattle.doc_tree.proofs.DraftLemmas.{before_later, slice_get-stays}

-- a line's own condition stays its own
pub own_stays : (d e : Document) (within : Option CondId) (kind : LineKind) (own : Option CondId) → AreCondsThere d → Extends d.names e.names → Extends d.conds e.conds → IsOwn d within kind own → IsOwn e within kind own
own_stays d e within (OneLine negated any names from to) own there table conds (id, cond, is, here, inside, same) =
    (id, cond, is, slice_get-stays d.conds e.conds id.0 cond conds here, inside, condition-stays d.names e.names cond table ((there id.0 cond here).each) ∙ same)
own_stays d e within Plain own there table conds is = is
own_stays d e within Comment own there table conds is = is
own_stays d e within Other own there table conds is = is
own_stays d e within (Begin negated any names) own there table conds is = is
own_stays d e within (Close any names) own there table conds is = is
own_stays d e within (Chapter file) own there table conds is = is
own_stays d e within (Api name) own there table conds is = is
own_stays d e within (Validity name) own there table conds is = is
own_stays d e within (Refpage name) own there table conds is = is

-- a line that is there stays there
pub line_stays : (text : List ℕ) (d e : Document) (line : DocLine) → AreCondsThere d → Extends d.files e.files → Extends d.names e.names → Extends d.conds e.conds → IsLineThere text d line → IsLineThere text e line
line_stays text d e line there files table conds is = record {
  span = is.span;
  kind = is.kind;
  places = is.places;
  file = let more = extends_length d.files e.files files in let was = is.file in omega arith;
  within = before_later (length d.conds) (length e.conds) line.within (extends_length d.conds e.conds conds) is.within;
  own = own_stays d e line.within line.kind line.own there table conds is.own;
}

-- lines that are there say the same in a document that goes on
pub flat_stays : (text : List ℕ) (d e : Document) (lines : List DocLine) → AreCondsThere d → d.files ≡ e.files → Extends d.names e.names → Extends d.conds e.conds → All (IsLineThere text d) lines
    → map (flat_line text e.files (rounds_of e)) lines ≡ map (flat_line text d.files (rounds_of d)) lines
flat_stays text d e lines there files table conds all =
    map_alike (flat_line text e.files (rounds_of e)) (flat_line text d.files (rounds_of d)) lines (λ k x below.
    let line = get_or lines k x in
    let round : round_at (rounds_of e) line.within ≡ round_at (rounds_of d) line.within = round_stays d e line.within there table conds ((all k x below).within) in
    ap (λ (fs : List (List ℕ)). flat_line text fs (rounds_of e) line) (sym files)
    ∙ ap (λ (r : List Condition). record { file = slice_index_or d.files line.line.file []; number = line.line.number; bytes = slice_at text line.line.span; kind = line.kind; round = r }) round)

module _ (text : List ℕ) (old mid : Document) (line : Line) (kind : LineKind) (within : Option CondId) (standing : Standing) (draft : IsDraft text old) (stands : Stands old mid kind within standing)
    (span : IsSpanWithin text line.span) (file : line.file < length old.files) (kind_is : IsKind (slice_at text line.span) kind) (kind_within : IsKindWithin (slice_at text line.span) kind) (few : length old.lines < most_lines) (names_few : length mid.names ≤ most_names) where
  abbrev taken_doc : DocLine
  taken_doc = record { line = line; kind = kind; within = standing.within; own = standing.own }

  abbrev after : Document
  after = record mid { lines = mid.lines ++ taken_doc ∷ [] }

  after_lines : mid.lines ++ taken_doc ∷ [] ≡ old.lines ++ taken_doc ∷ []
  after_lines = ap (λ (ls : List DocLine). ls ++ taken_doc ∷ []) stands.lines_are

  after_names : Extends old.names mid.names
  after_names =
      let grows = with_names-extends (names_in kind) old.names in
      (grows.0, stands.names ∙ grows.1)

  after_files : Extends old.files mid.files
  after_files = ([], stands.files_are ∙ sym (append-nil old.files))

  after_count : length (mid.lines ++ taken_doc ∷ []) ≡ length old.lines + 1
  after_count = ap length after_lines ∙ length_push old.lines taken_doc

  line_there : IsLineThere text after taken_doc
  line_there = record {
    span = span;
    kind = kind_is;
    places = kind_within;
    file = let same = ap length stands.files_are in omega arith;
    within = before_later (length old.conds) (length mid.conds) standing.within (extends_length old.conds mid.conds stands.conds) stands.inside;
    own = own_stays mid after standing.within kind standing.own stands.conds_there (extends_itself mid.names) (extends_itself mid.conds) stands.own;
  }

  table_is : mid.names ≡ each_once (flat_map (λ l. names_in l.kind) (mid.lines ++ taken_doc ∷ []))
  table_is =
      stands.names ∙ ap (with_names (names_in kind)) draft.loaded.named
      ∙ sym (each_once-names (flat_map (λ l. names_in l.kind) old.lines) (names_in kind))
      ∙ ap (λ (ns : List (List ℕ)). each_once (flat_map (λ l. names_in l.kind) old.lines ++ ns)) (sym (append-nil (names_in kind)))
      ∙ ap each_once (sym (flat_map-append (λ l. names_in l.kind) old.lines (taken_doc ∷ [])))
      ∙ ap (λ (ls : List DocLine). each_once (flat_map (λ l. names_in l.kind) ls)) (sym after_lines)

  after_loaded : IsLoaded text after
  after_loaded = record {
    lines =
        let old_there = All-weaker (IsLineThere text old) (IsLineThere text after) (λ l. line_stays text old after l draft.loaded.conds after_files after_names stands.conds) old.lines draft.loaded.lines in
        let all = All-push (IsLineThere text after) old.lines taken_doc old_there line_there in
        subst (λ (ls : List DocLine). All (IsLineThere text after) ls) (sym after_lines) all;
    conds = stands.conds_there;
    different = subst AreDifferent (sym table_is) (AreDifferent-each_once (flat_map (λ l. names_in l.kind) (mid.lines ++ taken_doc ∷ [])));
    named = table_is;
    few = let one = after_count in omega arith;
  }

  pub is_taken : IsTaken text old after standing.behind
  is_taken = record {
    draft = record {
      loaded = after_loaded;
      conds_few = let one = after_count in let more = stands.one_more in let was = draft.conds_few in omega arith;
      names_few = names_few;
    };
    grows = record { files = after_files; names = after_names; conds = stands.conds };
    files_are = stands.files_are;
    one_more = after_count;
    behind_is = stands.behind;
  }

  pub takes : (chapter : Option (List ℕ)) → chapter ≡ chapter_in kind → Takes text old after line kind within (record { behind = standing.behind; chapter = chapter })
  takes chapter is =
      let outside : round_at (rounds_of after) standing.within ≡ round_at (rounds_of old) standing.within = round_stays old after standing.within draft.loaded.conds after_names stands.conds stands.inside in
      let stood : round_at (rounds_of old) standing.within ≡ round_at (rounds_of old) (stands_in old.conds kind within) = ap (round_at (rounds_of old)) stands.within_is in
      record {
        flat =
            ap (map (flat_line text mid.files (rounds_of after))) after_lines
            ∙ map-append (flat_line text mid.files (rounds_of after)) old.lines (taken_doc ∷ [])
            ∙ ap (λ (ls : List FlatLine). ls ++ flat_line text mid.files (rounds_of after) taken_doc ∷ []) (flat_stays text old after old.lines draft.loaded.conds (sym stands.files_are) after_names stands.conds draft.loaded.lines)
            ∙ ap (λ (l : FlatLine). flat_of text old ++ l ∷ [])
            (ap (λ (fs : List (List ℕ)). flat_line text fs (rounds_of after) taken_doc) stands.files_are
            ∙ ap (λ (r : List Condition). record { file = slice_index_or old.files line.file []; number = line.number; bytes = slice_at text line.span; kind = kind; round = r }) (outside ∙ stood));
        round = stands.round ∙ ap (λ (cs : List Condition). cs ++ condition_in kind) stood;
        chapter = is;
        names = stands.names;
      }

-- the parts of a document, with a line more
pub after_is : (files names : List (List ℕ)) (conds : List Cond) (lines now : List DocLine) (mid : Document) (line : DocLine) → record { files = files; names = names; conds = conds; lines = lines } ≡ mid → now ≡ lines ++ line ∷ []
    → record mid { lines = mid.lines ++ line ∷ [] } ≡ record { files = files; names = names; conds = conds; lines = now }
after_is files names conds lines now mid line is more =
    let parts : record mid { lines = mid.lines ++ line ∷ [] } ≡ record { files = files; names = names; conds = conds; lines = lines ++ line ∷ [] } = ap (λ (d : Document). record d { lines = d.lines ++ line ∷ [] }) (sym is) in
    parts ∙ ap (λ (ls : List DocLine). record { files = files; names = names; conds = conds; lines = ls }) (sym more)
