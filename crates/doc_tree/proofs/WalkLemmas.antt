-- The lines of a file are taken, one by one.
use Rattle.std.proofs.Common.{inl, inr, ◌≡◌, ◌∙◌, refl, sym, ap, subst, ℕ, zero, suc, ◌+◌, ◌<◌, true, false, List, [], ◌∷◌, ◌++◌, length, take, drop, Option, Some, None, is_some, Ok, IfSome, get_or, slice_get, slice_index_or, arith}
use Rattle.std.specs.List.{AllZip, enumerate_from, flat_map, zip}
use Rattle.std.proofs.lemmas.Bool.{cases_Bool, false≢true}
use Rattle.std.proofs.lemmas.List.{append-nil, append_assoc, drop_more, get_or-map, length-map, same_from_push, take-append-drop, take_more, take_all}
use Rattle.std.proofs.lemmas.List.Concat.{flat_map-append}
use Rattle.std.proofs.lemmas.List.FromFn.{get_or-range_with_len}
use Rattle.std.proofs.lemmas.Option.{IfSome_then, get_or_from_slice_get, same_Some, slice_get-get_or, slice_get_within}
use Rattle.vkb_text.specs.Buffer.{Buffer}
use Rattle.vkb_text.specs.Lines.{lines_of}
use Rattle.vkb_text.specs.Spans.{slice_at}
use Rattle.vkb_text.specs.declared.Line.{Line}
use Rattle.doc_cond.specs.Lines.{IsKind}
use Rattle.doc_cond.specs.Nesting.{ArePairs, closes_at, is_closer, kind_at}
use Rattle.doc_cond.specs.declared.LineKind.{LineKind}
use Rattle.doc_cond.specs.declared.LineKind.TheVariants.{Plain, Comment, Other, Begin, OneLine, Close, Chapter, Api, Validity, Refpage}
use Rattle.doc_tree.specs.declared.Cond.{Cond}
use Rattle.doc_tree.specs.declared.CondId.{CondId}
use Rattle.doc_tree.specs.declared.Document.{Document}
use Rattle.doc_tree.specs.declared.draft.Taken.{Taken}
use Rattle.doc_tree.specs.declared.fault.DocFault.{DocFault}
use Rattle.doc_tree.specs.declared.source.SourceFile.{SourceFile}
use Rattle.doc_tree.specs.Answer.{told_of}
use Rattle.doc_tree.specs.Fault.{Fault}
use Rattle.doc_tree.specs.Flat.{Condition, FlatLine}
use Rattle.doc_tree.specs.Loaded.{IsBefore, condition_of, round_at, rounds_of}
use Rattle.doc_tree.specs.Progress.{AreCondsThere, IsDraft, IsTaken, IsTakeFault, Takes, chapter_in, outer, stands_in, taken_line}
use Rattle.doc_tree.specs.Running.{IsAt, IsFlatAt, IsKnown, RunsTo, chapter_steps}
use Rattle.doc_tree.specs.Sources.{Absent, Held, Lines, Long, Misnested, Misspelled, Source, Sources, TooNested}
use Rattle.doc_tree.specs.Walk.{Step, Takes as StepTakes, condition_in, conditions_round, file_steps, first_fault, line_at, line_steps, lines_in, or_else, steps_behind, steps_below}
use Rattle.doc_tree.proofs.PairsLemmas.{behind-line, conditions_before, filter_none, is_open_before, open-false, round-closer, round-plain}
use Rattle.doc_tree.proofs.RoundsLemmas.{round_opens}
use Rattle.doc_tree.proofs.RunLemmas.{first_fault-append, run_stops, run_then, take_fails, take_runs}

-- the lines of what is found under a name
abbrev pub lines_found : List ℕ → List Condition → Source → List FlatLine
lines_found file round (Held bytes (Lines kinds pairs)) = lines_in file round bytes kinds pairs
lines_found file round _ = []

-- the conditions that are open before a line of what is found
abbrev pub conditions_found : Source → ℕ → List Condition
conditions_found (Held bytes (Lines kinds pairs)) place = conditions_before kinds pairs place
conditions_found _ place = []

pub steps_found : (follow : FlatLine → List ℕ → List Step) (file : List ℕ) (round : List Condition) (source : Source) → file_steps follow file round source ≡ flat_map (line_steps follow) (lines_found file round source)
steps_found follow file round Absent = refl
steps_found follow file round Long = refl
steps_found follow file round (Held bytes (Lines kinds pairs)) = refl
steps_found follow file round (Held bytes (Misspelled number)) = refl
steps_found follow file round (Held bytes (Misnested number)) = refl
steps_found follow file round (Held bytes (TooNested number)) = refl

-- no conditional is open before the first line
pub nothing_open : (source : Source) → conditions_found source 0 ≡ []
nothing_open Absent = refl
nothing_open Long = refl
nothing_open (Held bytes (Lines kinds pairs)) = ap (flat_map (λ pair. condition_in (kind_at kinds pair.0))) (filter_none (λ pair. is_open_before pair 0) pairs (λ j d below. open-false (get_or pairs j d) 0 (inl (omega arith))))
nothing_open (Held bytes (Misspelled number)) = refl
nothing_open (Held bytes (Misnested number)) = refl
nothing_open (Held bytes (TooNested number)) = refl

-- what a line of a kind leads to
pub behind_is : (follow : FlatLine → List ℕ → List Step) (line : FlatLine) (kind : LineKind) → steps_behind follow line kind ≡ chapter_steps follow line (chapter_in kind)
behind_is follow line (Chapter file) = refl
behind_is follow line Plain = refl
behind_is follow line Comment = refl
behind_is follow line Other = refl
behind_is follow line (Begin negated any names) = refl
behind_is follow line (OneLine negated any names from to) = refl
behind_is follow line (Close any names) = refl
behind_is follow line (Api name) = refl
behind_is follow line (Validity name) = refl
behind_is follow line (Refpage name) = refl

-- an include line opens no conditional
chapter_plain : (kind : LineKind) → is_some (chapter_in kind) ≡ true → condition_in kind ≡ []
chapter_plain (Chapter file) is = refl
chapter_plain (Begin negated any names) is = absurd (false≢true is)
chapter_plain Plain is = refl
chapter_plain Comment is = refl
chapter_plain Other is = refl
chapter_plain (OneLine negated any names from to) is = refl
chapter_plain (Close any names) is = refl
chapter_plain (Api name) is = refl
chapter_plain (Validity name) is = refl
chapter_plain (Refpage name) is = refl

-- ---- the line at a place

-- a line that is no closer stands within what is open before it
stands_plain : (conds : List Cond) (kind : LineKind) (within : Option CondId) → is_closer kind ≡ false → stands_in conds kind within ≡ within
stands_plain conds (Close any names) within isnt = absurd (false≢true (sym isnt))
stands_plain conds (Chapter file) within isnt = refl
stands_plain conds (Begin negated any names) within isnt = refl
stands_plain conds Plain within isnt = refl
stands_plain conds Comment within isnt = refl
stands_plain conds Other within isnt = refl
stands_plain conds (OneLine negated any names from to) within isnt = refl
stands_plain conds (Api name) within isnt = refl
stands_plain conds (Validity name) within isnt = refl
stands_plain conds (Refpage name) within isnt = refl

stands_closer : (conds : List Cond) (kind : LineKind) (within : Option CondId) → is_closer kind ≡ true → stands_in conds kind within ≡ outer conds within
stands_closer conds (Close any names) within is = refl
stands_closer conds (Chapter file) within is = absurd (false≢true is)
stands_closer conds (Begin negated any names) within is = absurd (false≢true is)
stands_closer conds Plain within is = absurd (false≢true is)
stands_closer conds Comment within is = absurd (false≢true is)
stands_closer conds Other within is = absurd (false≢true is)
stands_closer conds (OneLine negated any names from to) within is = absurd (false≢true is)
stands_closer conds (Api name) within is = absurd (false≢true is)
stands_closer conds (Validity name) within is = absurd (false≢true is)
stands_closer conds (Refpage name) within is = absurd (false≢true is)

-- what stands past the end of the conditions
past_end : Cond
past_end = record { negated = false; any = false; names = []; within = None }

-- a list with a last element isn't empty
not_empty : {A : Type 0} (xs : List A) (x : A) → [] ≡ xs ++ x ∷ [] → ⊥
not_empty [] x e = cc
not_empty (y ∷ xs) x e = cc

-- the conditions round the conditional in which another stands are those round it but the last
outside : (d : Document) (within : Option CondId) (round : List Condition) (last : Condition) → AreCondsThere d → IsBefore (length d.conds) within → round_at (rounds_of d) within ≡ round ++ last ∷ [] → round_at (rounds_of d) (outer d.conds within) ≡ round
outside d None round last there before is = absurd (not_empty round last is)
outside d (Some id) round last there before is =
    let cond = get_or d.conds id.0 past_end in
    let here : slice_get d.conds id.0 ≡ Some cond = slice_get-get_or d.conds id.0 past_end before in
    let opens = round_opens d id cond there here in
    let same = same_from_push (round_at (rounds_of d) cond.within) round (condition_of d.names cond) last (sym opens ∙ is) in
    let out : outer d.conds (Some id) ≡ cond.within = rw here refl in
    ap (round_at (rounds_of d)) out ∙ same.0

-- the conditions round a line, from those open before it
pub line_round : (d : Document) (within : Option CondId) (round : List Condition) (kinds : List LineKind) (pairs : List (ℕ × ℕ)) (place : ℕ) → AreCondsThere d → IsBefore (length d.conds) within → ArePairs kinds pairs → round_at (rounds_of d) within ≡ round ++ conditions_before kinds pairs place
    → round_at (rounds_of d) (stands_in d.conds (kind_at kinds place) within) ≡ round ++ conditions_round kinds pairs place
line_round d within round kinds pairs place there before are is =
    elim (cases_Bool (closes_at kinds place)) [
      | inr isnt ↦
          ap (round_at (rounds_of d)) (stands_plain d.conds (kind_at kinds place) within isnt) ∙ is ∙ ap (λ (cs : List Condition). round ++ cs) (round-plain kinds pairs are place isnt)
      | inl closes ↦
          let last = round-closer kinds pairs are place closes in
          ap (round_at (rounds_of d)) (stands_closer d.conds (kind_at kinds place) within closes)
          ∙ outside d within (round ++ conditions_round kinds pairs place) last.0 there before (is ∙ ap (λ (cs : List Condition). round ++ cs) last.1 ∙ sym (append_assoc round (conditions_round kinds pairs place) (last.0 ∷ [])))
    ]

same_placed : (n m : ℕ) (line : List ℕ) (kind : LineKind) → n ≡ m → ◌≡◌ {A = ℕ × (List ℕ × LineKind)} (n, (line, kind)) (m, (line, kind))
same_placed n m line kind same = ap (λ (k : ℕ). (k, (line, kind))) same

zip_get : (lines : List (List ℕ)) (kinds : List LineKind) (n place : ℕ) (d : ℕ × (List ℕ × LineKind)) → AllZip IsKind lines kinds → place < length lines
    → get_or (enumerate_from n (zip lines kinds)) place d ≡ (n + place, (get_or lines place [], get_or kinds place Plain))
zip_get [] kinds n place d all below = absurd (omega arith)
zip_get (line ∷ lines) [] n place d all below = absurd all
zip_get (line ∷ lines) (kind ∷ kinds) n zero d all below = same_placed n (n + 0) line kind (omega arith)
zip_get (line ∷ lines) (kind ∷ kinds) n (suc place) d all below =
    zip_get lines kinds (n + 1) place d all.1 (omega arith) ∙ same_placed ((n + 1) + place) (n + suc place) (get_or lines place []) (get_or kinds place Plain) (omega arith)

zip_count : (lines : List (List ℕ)) (kinds : List LineKind) (n : ℕ) → AllZip IsKind lines kinds → length (enumerate_from n (zip lines kinds)) ≡ length lines
zip_count [] [] n all = refl
zip_count [] (kind ∷ kinds) n all = absurd all
zip_count (line ∷ lines) [] n all = absurd all
zip_count (line ∷ lines) (kind ∷ kinds) n all = ap (λ k. suc k) (zip_count lines kinds (n + 1) all.1)

zip_kind : (lines : List (List ℕ)) (kinds : List LineKind) (k : ℕ) → AllZip IsKind lines kinds → k < length lines → IsKind (get_or lines k []) (get_or kinds k Plain)
zip_kind [] kinds k all below = absurd (omega arith)
zip_kind (line ∷ lines) [] k all below = absurd all
zip_kind (line ∷ lines) (kind ∷ kinds) zero all below = all.0
zip_kind (line ∷ lines) (kind ∷ kinds) (suc k) all below = zip_kind lines kinds k all.1 (omega arith)

-- ---- a step of the walk over a file

-- the steps of the lines before a place
abbrev pub steps_to : Sources → ℕ → List ℕ → List Condition → ℕ → List Step
steps_to sources left name round place = flat_map (line_steps (steps_below sources left)) (take place (lines_found name round (sources name)))

-- the steps of all lines
abbrev pub steps_all : Sources → ℕ → List ℕ → List Condition → List Step
steps_all sources left name round = flat_map (line_steps (steps_below sources left)) (lines_found name round (sources name))

-- the lines of a file before a place were taken without a fault
pub record Reached (sources : Sources) (room : ℕ) (before : List Step) (left : ℕ) (name : List ℕ) (round : List Condition) (place : ℕ) (text : Buffer) (d : Document) (kept : List SourceFile) (within : Option CondId) : Type 0 where
  pub none : first_fault sources room before (steps_to sources left name round place) ≡ None
  pub here : IsAt sources room (before ++ steps_to sources left name round place) text d kept
  pub open_is : round_at (rounds_of d) within ≡ round ++ conditions_found (sources name) place

-- at first
pub reached_first : (sources : Sources) (room : ℕ) (before : List Step) (left : ℕ) (name : List ℕ) (text : Buffer) (d : Document) (kept : List SourceFile) (within : Option CondId) → IsAt sources room before text d kept
    → Reached sources room before left name (round_at (rounds_of d) within) 0 text d kept within
reached_first sources room before left name text d kept within was = record {
  none = refl;
  here = subst (λ (steps : List Step). IsAt sources room steps text d kept) (sym (append-nil before)) was;
  open_is = sym (append-nil (round_at (rounds_of d) within)) ∙ ap (λ (cs : List Condition). round_at (rounds_of d) within ++ cs) (sym (nothing_open (sources name)));
}

module _ (sources : Sources) (room : ℕ) (before : List Step) (left : ℕ) (name : List ℕ) (round : List Condition) (place : ℕ) (text : Buffer) (d : Document) (kept : List SourceFile) (within : Option CondId)
    (reached : Reached sources room before left name round place text d kept within) (file : ℕ) (named : slice_get d.files file ≡ Some name) (source : SourceFile) (source_is : slice_get kept file ≡ Some source) where
  pub known : IsKnown text.bytes file (sources name) (slice_get kept file)
  known = reached.here.known file name named

  same_source : known.source ≡ source
  same_source = same_Some known.source source (sym known.kept_is ∙ source_is)

  lines_are : lines_found name round (sources name) ≡ lines_in name round known.bytes known.file_is.kinds known.source.pairs
  lines_are = ap (lines_found name round) known.found_is

  count_lines : length (lines_found name round (sources name)) ≡ length source.lines
  count_lines =
      ap length lines_are
      ∙ length-map (enumerate_from 0 (zip (lines_of known.bytes) known.file_is.kinds)) (line_at name round known.file_is.kinds known.source.pairs)
      ∙ zip_count (lines_of known.bytes) known.file_is.kinds 0 known.file_is.kinds_are
      ∙ ap length (sym known.file_is.lines)
      ∙ length-map known.source.lines (λ (l : Line). slice_at text.bytes l.span)
      ∙ ap (λ (s : SourceFile). length s.lines) same_source

  -- at the last line
  pub reached_last : place ≡ length source.lines → (first_fault sources room before (steps_all sources left name round) ≡ None) × IsAt sources room (before ++ steps_all sources left name round) text d kept
  reached_last at_end =
      let count = count_lines in
      let all : steps_to sources left name round place ≡ steps_all sources left name round = ap (flat_map (line_steps (steps_below sources left))) (take_all place (lines_found name round (sources name)) (omega arith)) in
      (ap (first_fault sources room before) (sym all) ∙ reached.none, subst (λ (steps : List Step). IsAt sources room (before ++ steps) text d kept) all reached.here)

  module _ (draft : IsDraft text.bytes d) (inside : IsBefore (length d.conds) within) (line : Line) (line_is : slice_get source.lines place ≡ Some line) where
    abbrev kind_here : LineKind
    kind_here = kind_at known.file_is.kinds place

    here_line : slice_get known.source.lines place ≡ Some line
    here_line = ap (λ (s : SourceFile). slice_get s.lines place) same_source ∙ line_is

    below : place < length known.source.lines
    below = slice_get_within known.source.lines place line here_line

    read_line : get_or known.source.lines place line ≡ line
    read_line = get_or_from_slice_get known.source.lines place line line here_line

    below_lines : place < length (lines_of known.bytes)
    below_lines = let count = ap length (sym known.file_is.lines) ∙ length-map known.source.lines (λ (l : Line). slice_at text.bytes l.span) in let under = below in omega arith

    bytes_here : slice_at text.bytes line.span ≡ get_or (lines_of known.bytes) place []
    bytes_here =
        ap (λ (l : Line). slice_at text.bytes l.span) (sym read_line)
        ∙ sym (get_or-map (λ (l : Line). slice_at text.bytes l.span) known.source.lines place line [] below)
        ∙ ap (λ (ls : List (List ℕ)). get_or ls place []) known.file_is.lines

    number_here : line.number ≡ place + 1
    number_here =
        let first : line.number ≡ 1 + place =
        ap (λ (l : Line). l.number) (sym read_line) ∙ sym (get_or-map (λ (l : Line). l.number) known.source.lines place line 0 below) ∙ ap (λ (ns : List ℕ). get_or ns place 0) known.file_is.numbers ∙ get_or-range_with_len 1 (length known.source.lines) place 0 below in
        omega arith

    file_here : line.file ≡ file
    file_here = ap (λ (l : Line). l.file) (sym read_line) ∙ known.file_is.file_is place line below

    -- the line is of this kind
    pub is_kind_here : IsKind (slice_at text.bytes line.span) kind_here
    is_kind_here = subst (λ (b : List ℕ). IsKind b kind_here) (sym bytes_here) (zip_kind (lines_of known.bytes) known.file_is.kinds place known.file_is.kinds_are below_lines)

    abbrev flat_here : FlatLine
    flat_here = taken_line text.bytes d line kind_here within

    round_here : round_at (rounds_of d) (stands_in d.conds kind_here within) ≡ round ++ conditions_round known.file_is.kinds known.source.pairs place
    round_here =
        line_round d within round known.file_is.kinds known.source.pairs place draft.loaded.conds inside known.file_is.pairs_are (reached.open_is ∙ ap (λ (s : Source). round ++ conditions_found s place) known.found_is)

    placed : line_at name round known.file_is.kinds known.source.pairs (0 + place, (get_or (lines_of known.bytes) place [], kind_here)) ≡ flat_here
    placed =
        let file_name : slice_index_or d.files line.file [] ≡ name = ap (λ (n : ℕ). slice_index_or d.files n []) file_here ∙ get_or_from_slice_get d.files file name [] named in
        let start : 0 + place ≡ place = omega arith in
        ap (λ (n : ℕ). line_at name round known.file_is.kinds known.source.pairs (n, (get_or (lines_of known.bytes) place [], kind_here))) start
        ∙ ap (λ (n : ℕ). record { file = name; number = n; bytes = get_or (lines_of known.bytes) place []; kind = kind_here; round = round ++ conditions_round known.file_is.kinds known.source.pairs place }) (sym number_here)
        ∙ ap (λ (n : List ℕ). record { file = n; number = line.number; bytes = get_or (lines_of known.bytes) place []; kind = kind_here; round = round ++ conditions_round known.file_is.kinds known.source.pairs place }) (sym file_name)
        ∙ ap (λ (b : List ℕ). record { file = slice_index_or d.files line.file []; number = line.number; bytes = b; kind = kind_here; round = round ++ conditions_round known.file_is.kinds known.source.pairs place }) (sym bytes_here)
        ∙ ap (λ (r : List Condition). record { file = slice_index_or d.files line.file []; number = line.number; bytes = slice_at text.bytes line.span; kind = kind_here; round = r }) (sym round_here)

    flat_found : get_or (lines_found name round (sources name)) place flat_here ≡ flat_here
    flat_found =
        let count = zip_count (lines_of known.bytes) known.file_is.kinds 0 known.file_is.kinds_are in
        let within_list : place < length (enumerate_from 0 (zip (lines_of known.bytes) known.file_is.kinds)) = let under = below_lines in omega arith in
        let d0 : ℕ × (List ℕ × LineKind) = (0, ([], Plain)) in
        ap (λ (ls : List FlatLine). get_or ls place flat_here) lines_are
        ∙ get_or-map (line_at name round known.file_is.kinds known.source.pairs) (enumerate_from 0 (zip (lines_of known.bytes) known.file_is.kinds)) place d0 flat_here within_list
        ∙ ap (line_at name round known.file_is.kinds known.source.pairs) (zip_get (lines_of known.bytes) known.file_is.kinds 0 place d0 known.file_is.kinds_are below_lines)
        ∙ placed

    below_found : place < length (lines_found name round (sources name))
    below_found = let count = count_lines in let under = slice_get_within source.lines place line line_is in omega arith

    steps_more : steps_to sources left name round (place + 1) ≡ steps_to sources left name round place ++ line_steps (steps_below sources left) flat_here
    steps_more =
        ap (flat_map (line_steps (steps_below sources left))) (take_more (lines_found name round (sources name)) place flat_here below_found ∙ ap (λ (l : FlatLine). take place (lines_found name round (sources name)) ++ l ∷ []) flat_found)
        ∙ flat_map-append (line_steps (steps_below sources left)) (take place (lines_found name round (sources name))) (flat_here ∷ [])
        ∙ ap (λ (ss : List Step). steps_to sources left name round place ++ ss) (append-nil (line_steps (steps_below sources left) flat_here))

    abbrev rest : List Step
    rest = flat_map (line_steps (steps_below sources left)) (drop (place + 1) (lines_found name round (sources name)))

    steps_split : steps_to sources left name round place ++ (line_steps (steps_below sources left) flat_here ++ rest) ≡ steps_all sources left name round
    steps_split =
        sym (flat_map-append (line_steps (steps_below sources left)) (take place (lines_found name round (sources name))) (flat_here ∷ drop (place + 1) (lines_found name round (sources name))))
        ∙ ap (flat_map (line_steps (steps_below sources left)))
        (ap (λ (ls : List FlatLine). take place (lines_found name round (sources name)) ++ ls)
        (ap (λ (l : FlatLine). l ∷ drop (place + 1) (lines_found name round (sources name))) (sym flat_found) ∙ sym (drop_more (lines_found name round (sources name)) place flat_here below_found))
        ∙ take-append-drop place (lines_found name round (sources name)))

    -- a fault of the line's own steps is the first of all
    line_fails : (fault : DocFault) → IfSome (told_of fault) (λ told. first_fault sources room (before ++ steps_to sources left name round place) (line_steps (steps_below sources left) flat_here) ≡ Some told)
        → IfSome (told_of fault) (λ told. first_fault sources room before (steps_all sources left name round) ≡ Some told)
    line_fails fault fails =
        let all = run_stops sources room (before ++ steps_to sources left name round place) (line_steps (steps_below sources left) flat_here) rest fault fails in
        IfSome_then (told_of fault) all (λ told is.
        ap (first_fault sources room before) (sym steps_split)
        ∙ first_fault-append sources room before (steps_to sources left name round place) (line_steps (steps_below sources left) flat_here ++ rest)
        ∙ ap (λ (f : Option Fault). or_else f (first_fault sources room (before ++ steps_to sources left name round place) (line_steps (steps_below sources left) flat_here ++ rest))) reached.none
        ∙ is)

    -- the line isn't taken
    pub take_stops : (fault : DocFault) → IsTakeFault d line kind_here fault → IfSome (told_of fault) (λ told. first_fault sources room before (steps_all sources left name round) ≡ Some told)
    take_stops fault is =
        line_fails fault (run_stops sources room (before ++ steps_to sources left name round place) (StepTakes flat_here ∷ []) (steps_behind (steps_below sources left) flat_here kind_here) fault
        (take_fails sources room (before ++ steps_to sources left name round place) text d kept draft reached.here line kind_here within fault is))

    module _ (after : Document) (result : Taken) (is : IsTaken text.bytes d after result.behind) (takes : Takes text.bytes d after line kind_here within result) where
      took : (first_fault sources room (before ++ steps_to sources left name round place) (StepTakes flat_here ∷ []) ≡ None) × IsAt sources room ((before ++ steps_to sources left name round place) ++ StepTakes flat_here ∷ []) text after kept
      took = take_runs sources room (before ++ steps_to sources left name round place) text d kept draft reached.here line kind_here within after result is takes

      pub at_taken : IsAt sources room ((before ++ steps_to sources left name round place) ++ StepTakes flat_here ∷ []) text after kept
      at_taken = took.1

      pub flat_at : IsFlatAt after line result.behind result.chapter flat_here
      flat_at = record {
        file_is = ap (λ (fs : List (List ℕ)). slice_index_or fs line.file []) (sym is.files_are);
        number_is = refl;
        round_is = λ some.
            let plain = chapter_plain kind_here (ap (λ (c : Option (List ℕ)). is_some c) (sym takes.chapter) ∙ some) in
            sym (takes.round ∙ ap (λ (cs : List Condition). flat_here.round ++ cs) plain ∙ append-nil flat_here.round);
      }

      behind_steps : steps_behind (steps_below sources left) flat_here kind_here ≡ chapter_steps (steps_below sources left) flat_here result.chapter
      behind_steps = behind_is (steps_below sources left) flat_here kind_here ∙ ap (chapter_steps (steps_below sources left) flat_here) (sym takes.chapter)

      -- what the line includes has a fault
      pub follow_stops : (fault : DocFault) → IfSome (told_of fault) (λ told. first_fault sources room ((before ++ steps_to sources left name round place) ++ StepTakes flat_here ∷ []) (chapter_steps (steps_below sources left) flat_here result.chapter) ≡ Some told)
          → IfSome (told_of fault) (λ told. first_fault sources room before (steps_all sources left name round) ≡ Some told)
      follow_stops fault fails =
          line_fails fault (IfSome_then (told_of fault) fails (λ told why.
          first_fault-append sources room (before ++ steps_to sources left name round place) (StepTakes flat_here ∷ []) (steps_behind (steps_below sources left) flat_here kind_here)
          ∙ ap (λ (f : Option Fault). or_else f (first_fault sources room ((before ++ steps_to sources left name round place) ++ StepTakes flat_here ∷ []) (steps_behind (steps_below sources left) flat_here kind_here))) took.0
          ∙ ap (first_fault sources room ((before ++ steps_to sources left name round place) ++ StepTakes flat_here ∷ [])) behind_steps
          ∙ why))

      -- and where it has none, one line more was taken
      pub step_reached : {X : Type 0} (text' : Buffer) (d' : Document) (kept' : List SourceFile) (done : X) → round_at (rounds_of d') result.behind ≡ round_at (rounds_of after) result.behind
          → RunsTo sources room ((before ++ steps_to sources left name round place) ++ StepTakes flat_here ∷ []) text' d' kept' (chapter_steps (steps_below sources left) flat_here result.chapter) (Ok done)
          → Reached sources room before left name round (place + 1) text' d' kept' result.behind
      step_reached text' d' kept' done stays runs =
          let both : RunsTo sources room (before ++ steps_to sources left name round place) text' d' kept' (StepTakes flat_here ∷ [] ++ chapter_steps (steps_below sources left) flat_here result.chapter) (Ok done) =
          run_then sources room (before ++ steps_to sources left name round place) (StepTakes flat_here ∷ []) (chapter_steps (steps_below sources left) flat_here result.chapter) text' d' kept' (Ok done) took.0 runs in
          let own : StepTakes flat_here ∷ [] ++ chapter_steps (steps_below sources left) flat_here result.chapter ≡ line_steps (steps_below sources left) flat_here = ap (λ (ss : List Step). StepTakes flat_here ∷ ss) (sym behind_steps) in
          let all : RunsTo sources room before text' d' kept' (steps_to sources left name round place ++ (StepTakes flat_here ∷ [] ++ chapter_steps (steps_below sources left) flat_here result.chapter)) (Ok done) =
          run_then sources room before (steps_to sources left name round place) (StepTakes flat_here ∷ [] ++ chapter_steps (steps_below sources left) flat_here result.chapter) text' d' kept' (Ok done) reached.none both in
          let to : steps_to sources left name round place ++ (StepTakes flat_here ∷ [] ++ chapter_steps (steps_below sources left) flat_here result.chapter) ≡ steps_to sources left name round (place + 1) =
          ap (λ (ss : List Step). steps_to sources left name round place ++ ss) own ∙ sym steps_more in
          record {
            none = ap (first_fault sources room before) (sym to) ∙ all.0;
            here = subst (λ (steps : List Step). IsAt sources room (before ++ steps) text' d' kept') to all.1;
            open_is =
                stays ∙ takes.round ∙ ap (λ (cs : List Condition). cs ++ condition_in kind_here) round_here ∙ append_assoc round (conditions_round known.file_is.kinds known.source.pairs place) (condition_in kind_here)
                ∙ ap (λ (cs : List Condition). round ++ cs) (sym (behind-line known.file_is.kinds known.source.pairs known.file_is.pairs_are place))
                ∙ ap (λ (s : Source). round ++ conditions_found s (place + 1)) (sym known.found_is);
          }
