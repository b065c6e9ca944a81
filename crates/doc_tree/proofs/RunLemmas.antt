-- The steps of the walk, one behind the other, and what they lead to.
use Rattle.std.proofs.Common.{◌≡◌, ◌∙◌, refl, sym, ap, subst, ℕ, ◌+◌, ◌<◌, ◌≤◌, true, false, nat_lt, List, [], ◌∷◌, ◌++◌, length, map, Option, Some, None, Result, Ok, Err, IfSome, slice_get, sum_by, arith}
use Rattle.std.specs.List.{flat_map}
use Rattle.std.proofs.lemmas.Bool.{le-ltb, lt-ltb}
use Rattle.std.proofs.lemmas.List.{append-nil, append_assoc, length-map}
use Rattle.std.proofs.lemmas.List.Concat.{flat_map-append}
use Rattle.std.proofs.lemmas.Option.{IfSome_then}
use Rattle.vkb_formula.specs.Names.{most_names}
use Rattle.vkb_text.specs.Buffer.{Buffer}
use Rattle.vkb_text.specs.declared.Line.{Line}
use Rattle.doc_cond.specs.declared.LineKind.{LineKind}
use Rattle.doc_tree.specs.declared.CondId.{CondId}
use Rattle.doc_tree.specs.declared.Document.{Document}
use Rattle.doc_tree.specs.declared.draft.Taken.{Taken}
use Rattle.doc_tree.specs.declared.fault.DocFault.{DocFault}
use Rattle.doc_tree.specs.declared.fault.DocFault.TheVariants as doc
use Rattle.doc_tree.specs.declared.source.SourceFile.{SourceFile}
use Rattle.doc_tree.specs.Answer.{told_of}
use Rattle.doc_tree.specs.Fault.{Fault, DocTooLong, NameLimit}
use Rattle.doc_tree.specs.Flat.{FlatLine}
use Rattle.doc_tree.specs.Loaded.{flat_line, flat_of, rounds_of}
use Rattle.doc_tree.specs.Names.{each_once, names_in}
use Rattle.doc_tree.specs.Progress.{IsDraft, IsTaken, IsTakeFault, Takes, taken_line, with_names}
use Rattle.doc_tree.specs.Running.{IsAt, RunsTo}
use Rattle.doc_tree.specs.Sources.{Sources}
use Rattle.doc_tree.specs.Walk.{Step, Takes as StepTakes, bytes_in, first_fault, line_fault, most_lines, names_taken, opened, opened_at, or_else, step_fault, taken, taken_at}
use Rattle.doc_tree.proofs.NamesLemmas.{each_once-names}

or_else_none : (fault : Option Fault) → or_else fault None ≡ fault
or_else_none None = refl
or_else_none (Some fault) = refl

or_else_assoc : (a b c : Option Fault) → or_else (or_else a b) c ≡ or_else a (or_else b c)
or_else_assoc None b c = refl
or_else_assoc (Some fault) b c = refl

module _ (sources : Sources) (room : ℕ) where
  pub first_fault-append : (before front back : List Step) → first_fault sources room before (front ++ back) ≡ or_else (first_fault sources room before front) (first_fault sources room (before ++ front) back)
  first_fault-append before [] back = ap (λ (b : List Step). first_fault sources room b back) (sym (append-nil before))
  first_fault-append before (step ∷ front) back =
      ap (or_else (step_fault sources room before step)) (first_fault-append (before ++ step ∷ []) front back)
      ∙ sym (or_else_assoc (step_fault sources room before step) (first_fault sources room (before ++ step ∷ []) front) (first_fault sources room ((before ++ step ∷ []) ++ front) back))
      ∙ ap (λ (b : List Step). or_else (or_else (step_fault sources room before step) (first_fault sources room (before ++ step ∷ []) front)) (first_fault sources room b back)) (append_assoc before (step ∷ []) front)

  pub one_step : (before : List Step) (step : Step) → first_fault sources room before (step ∷ []) ≡ step_fault sources room before step
  one_step before step = or_else_none (step_fault sources room before step)

  -- steps without a fault, and then others
  pub run_then : {X : Type 0} (before front back : List Step) (text : Buffer) (d : Document) (kept : List SourceFile) (result : Result X DocFault) → first_fault sources room before front ≡ None
      → RunsTo sources room (before ++ front) text d kept back result → RunsTo sources room before text d kept (front ++ back) result
  run_then before front back text d kept (Ok done) none runs = (
    first_fault-append before front back ∙ ap (λ (f : Option Fault). or_else f (first_fault sources room (before ++ front) back)) none ∙ runs.0,
    subst (λ (steps : List Step). IsAt sources room steps text d kept) (append_assoc before front back) runs.1,
  )
  run_then before front back text d kept (Err fault) none runs =
      IfSome_then (told_of fault) runs (λ told is. first_fault-append before front back ∙ ap (λ (f : Option Fault). or_else f (first_fault sources room (before ++ front) back)) none ∙ is)

  -- a fault of steps stays the first, whatever follows
  pub run_stops : (before front back : List Step) (fault : DocFault) → IfSome (told_of fault) (λ told. first_fault sources room before front ≡ Some told) → IfSome (told_of fault) (λ told. first_fault sources room before (front ++ back) ≡ Some told)
  run_stops before front back fault stops =
      IfSome_then (told_of fault) stops (λ told is. first_fault-append before front back ∙ ap (λ (f : Option Fault). or_else f (first_fault sources room (before ++ front) back)) is)

-- ---- a line is taken

flat_map-map : {X Y Z : Type 0} (f : X → Y) (g : Y → List Z) (xs : List X) → flat_map g (map f xs) ≡ flat_map (λ x. g (f x)) xs
flat_map-map f g [] = refl
flat_map-map f g (x ∷ xs) = ap (λ (zs : List _). g (f x) ++ zs) (flat_map-map f g xs)

-- the names of flat lines
abbrev names_of : List FlatLine → List (List ℕ)
names_of lines = flat_map (λ line. names_in line.kind) lines

-- they are those of the document
pub names_flat : (text : List ℕ) (d : Document) → IsDraft text d → each_once (names_of (flat_of text d)) ≡ d.names
names_flat text d draft = ap each_once (flat_map-map (flat_line text d.files (rounds_of d)) (λ line. names_in line.kind) d.lines) ∙ sym draft.loaded.named

count_flat : (text : List ℕ) (d : Document) → length (flat_of text d) ≡ length d.lines
count_flat text d = length-map d.lines (flat_line text d.files (rounds_of d))

taken-more : (before : List Step) (line : FlatLine) → taken (before ++ StepTakes line ∷ []) ≡ taken before ++ line ∷ []
taken-more before line = flat_map-append taken_at before (StepTakes line ∷ [])

opened-same : (before : List Step) (line : FlatLine) → opened (before ++ StepTakes line ∷ []) ≡ opened before
opened-same before line = flat_map-append opened_at before (StepTakes line ∷ []) ∙ append-nil (opened before)

module _ (sources : Sources) (room : ℕ) (before : List Step) (text : Buffer) (old : Document) (kept : List SourceFile) (draft : IsDraft text.bytes old) (was : IsAt sources room before text old kept) (line : Line) (kind : LineKind) (within : Option CondId) where
  abbrev flat : FlatLine
  flat = taken_line text.bytes old line kind within

  count_before : length (taken before) ≡ length old.lines
  count_before = ap length (sym was.lines_are) ∙ count_flat text.bytes old

  pub take_runs : (new : Document) (result : Taken) → IsTaken text.bytes old new result.behind → Takes text.bytes old new line kind within result
      → (first_fault sources room before (StepTakes flat ∷ []) ≡ None) × IsAt sources room (before ++ StepTakes flat ∷ []) text new kept
  take_runs new result is takes =
      let lines_now = takes.flat ∙ ap (λ (ls : List FlatLine). ls ++ flat ∷ []) was.lines_are ∙ sym (taken-more before flat) in
      let few : length (taken before) + 1 ≤ most_lines = let one = is.one_more in let most = is.draft.loaded.few in let count = count_before in omega arith in
      let names_now : names_taken (before ++ StepTakes flat ∷ []) ≡ new.names = ap (λ (ls : List FlatLine). each_once (names_of ls)) (sym lines_now) ∙ names_flat text.bytes new is.draft in
      let count = ap length names_now in
      let names_few : length (names_taken (before ++ StepTakes flat ∷ [])) ≤ most_names = let most = is.draft.names_few in omega arith in
      let no_line : nat_lt most_lines (length (taken before) + 1) ≡ false = le-ltb most_lines (length (taken before) + 1) few in
      let no_name : nat_lt most_names (length (names_taken (before ++ StepTakes flat ∷ []))) ≡ false = le-ltb most_names (length (names_taken (before ++ StepTakes flat ∷ []))) names_few in
      let faultless : line_fault before flat ≡ None = rw (no_line, no_name) refl in (
        one_step sources room before (StepTakes flat) ∙ faultless,
        record {
          opened_are = is.files_are ∙ was.opened_are ∙ ap each_once (sym (opened-same before flat));
          lines_are = lines_now;
          size = let same = ap (λ (files : List (List ℕ)). sum_by (λ file. bytes_in (sources file)) (each_once files)) (opened-same before flat) in let size = was.size in omega arith;
          known = λ file name here. was.known file name (subst (λ (files : List (List ℕ)). slice_get files file ≡ Some name) is.files_are here);
        },
      )

  -- what is told of the line that isn't taken
  pub take_fails : (fault : DocFault) → IsTakeFault old line kind fault → IfSome (told_of fault) (λ told. first_fault sources room before (StepTakes flat ∷ []) ≡ Some told)
  take_fails (doc.DocTooLong name number) is =
      let most : most_lines < length (taken before) + 1 = let count = count_before in let many = is.1 in omega arith in
      let too_many : nat_lt most_lines (length (taken before) + 1) ≡ true = lt-ltb most_lines (length (taken before) + 1) most in
      let fault : line_fault before flat ≡ Some (DocTooLong flat.file flat.number) = rw too_many refl in
      one_step sources room before (StepTakes flat) ∙ fault ∙ ap (λ (f : List ℕ). Some (DocTooLong f flat.number)) (sym ((is.0).name_is)) ∙ ap (λ (n : ℕ). Some (DocTooLong name n)) (sym ((is.0).number_is))
  take_fails (doc.NameLimit name number) is =
      let few : length (taken before) + 1 ≤ most_lines = let count = count_before in let less = is.1 in omega arith in
      let no_line : nat_lt most_lines (length (taken before) + 1) ≡ false = le-ltb most_lines (length (taken before) + 1) few in
      let names_now : names_taken (before ++ StepTakes flat ∷ []) ≡ with_names (names_in kind) old.names =
      ap (λ (ls : List FlatLine). each_once (names_of ls)) (taken-more before flat)
      ∙ ap each_once (flat_map-append (λ line. names_in line.kind) (taken before) (flat ∷ []))
      ∙ ap (λ (ns : List (List ℕ)). each_once (names_of (taken before) ++ ns)) (append-nil (names_in kind))
      ∙ each_once-names (names_of (taken before)) (names_in kind)
      ∙ ap (with_names (names_in kind)) (ap (λ (ls : List FlatLine). each_once (names_of ls)) (sym was.lines_are) ∙ names_flat text.bytes old draft) in
      let count = ap length names_now in
      let most : most_names < length (names_taken (before ++ StepTakes flat ∷ [])) = let many = is.2 in omega arith in
      let too_many : nat_lt most_names (length (names_taken (before ++ StepTakes flat ∷ []))) ≡ true = lt-ltb most_names (length (names_taken (before ++ StepTakes flat ∷ []))) most in
      let fault : line_fault before flat ≡ Some (NameLimit flat.file flat.number) = rw (no_line, too_many) refl in
      one_step sources room before (StepTakes flat) ∙ fault ∙ ap (λ (f : List ℕ). Some (NameLimit f flat.number)) (sym ((is.0).name_is)) ∙ ap (λ (n : ℕ). Some (NameLimit name n)) (sym ((is.0).number_is))
  take_fails doc.Memory is = tt
  take_fails doc.ReadFault is = absurd is
  take_fails (doc.Missing name) is = absurd is
  take_fails (doc.TooLarge name) is = absurd is
  take_fails (doc.IncludeDepth name number) is = absurd is
  take_fails (doc.BadCondition name number) is = absurd is
  take_fails (doc.Unbalanced name number) is = absurd is
  take_fails (doc.CondDepth name number) is = absurd is
