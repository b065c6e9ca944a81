-- The walk over a document: its root is opened, and each line of an open file is taken in order; behind an include line of a
-- chapter the file that it names is opened within. The include lines are those of the style guide "Vulkan Documentation and
-- Extensions: Procedures and Conventions"; the order of the faults and all limits are this tool's own.
use Rattle.std.specs.Prelude.{◌≡◌, ℕ, zero, suc, ◌+◌, ◌-◌, Bool, ◌&&◌, nat_lt, Option, Some, None, List, [], ◌∷◌, ◌++◌, length, map, filter, sum_by, if◌then◌else◌}
use Rattle.std.specs.List.{flat_map, enumerate_from, zip}
use Rattle.vkb_outside.specs.Shelf.{Files}
use Rattle.vkb_formula.specs.Names.{most_names}
use Rattle.vkb_text.specs.Lines.{lines_of}
use Rattle.doc_cond.specs.Nesting.{kind_at}
use Rattle.doc_cond.specs.declared.LineKind.{LineKind}
use Rattle.doc_cond.specs.declared.LineKind.TheVariants.{Begin, Chapter}
use Rattle.doc_tree.specs.Fault.{Fault, Missing, TooLarge, IncludeDepth, DocTooLong, NameLimit, BadCondition, Unbalanced, CondDepth}
use Rattle.doc_tree.specs.Flat.{Condition, FlatLine, is_among}
use Rattle.doc_tree.specs.Names.{each_once, names_in}
use Rattle.doc_tree.specs.Sources.{AreSources, Reading, Lines, Misspelled, Misnested, TooNested, Source, Absent, Long, Held, Sources}

-- how many files are open in one another at most
abbrev pub most_levels : ℕ
most_levels = 16

-- how many lines a document has at most
abbrev pub most_lines : ℕ
most_lines = 4000000

-- the line stands between an opener and its closer
abbrev pub encloses : ℕ × ℕ → ℕ → Bool
encloses pair line = nat_lt pair.0 line && nat_lt line pair.1

-- the condition of an opener
abbrev pub condition_in : LineKind → List Condition
condition_in (Begin negated any names) = record { negated = negated; any = any; names = names } ∷ []
condition_in _ = []

-- the conditions of the openers of its own file that enclose a line, outermost first; the pairs are the openers in order, each with its closer
abbrev pub conditions_round : List LineKind → List (ℕ × ℕ) → ℕ → List Condition
conditions_round kinds pairs line = flat_map (λ pair. condition_in (kind_at kinds pair.0)) (filter (λ pair. encloses pair line) pairs)

-- a line of a file, at a place from 0, with the conditions round its file and those round it there
abbrev pub line_at : List ℕ → List Condition → List LineKind → List (ℕ × ℕ) → ℕ × (List ℕ × LineKind) → FlatLine
line_at file round kinds pairs placed = record { file = file; number = placed.0 + 1; bytes = placed.1.0; kind = placed.1.1; round = round ++ conditions_round kinds pairs placed.0 }

-- the lines of a file, with the conditions round the file
abbrev pub lines_in : List ℕ → List Condition → List ℕ → List LineKind → List (ℕ × ℕ) → List FlatLine
lines_in file round bytes kinds pairs = map (line_at file round kinds pairs) (enumerate_from 0 (zip (lines_of bytes) kinds))

-- a step of the walk
pub data Step : Type 0 where
  -- a file is opened
  Opens : (file : List ℕ) → Step
  -- a line is taken
  Takes : (line : FlatLine) → Step
  -- this include line of a file would open a file within too many others
  Exceeds : (file : List ℕ) (number : ℕ) → Step

-- the steps behind a line of a kind: those of the file that it includes, or none
abbrev pub steps_behind : (FlatLine → List ℕ → List Step) → FlatLine → LineKind → List Step
steps_behind follow line (Chapter file) = follow line file
steps_behind follow line _ = []

-- the steps of a line: it is taken before the file that it includes is opened
abbrev pub line_steps : (FlatLine → List ℕ → List Step) → FlatLine → List Step
line_steps follow line = Takes line ∷ steps_behind follow line line.kind

-- the steps of the lines of what was found under a name, where some conditions are round the file
abbrev pub file_steps : (FlatLine → List ℕ → List Step) → List ℕ → List Condition → Source → List Step
file_steps follow file round (Held bytes (Lines kinds pairs)) = flat_map (line_steps follow) (lines_in file round bytes kinds pairs)
file_steps follow file round _ = []

-- the steps of the file that an include line names, where so many files more may be opened in one another: what is round the
-- line is round the file
abbrev pub steps_below : Sources → ℕ → FlatLine → List ℕ → List Step
steps_below sources zero line file = Exceeds line.file line.number ∷ []
steps_below sources (suc left) line file = Opens file ∷ file_steps (steps_below sources left) file line.round (sources file)

-- the steps of a file that is opened, where so many files more may be opened in it and some conditions are round it
abbrev pub steps_of : Sources → ℕ → List ℕ → List Condition → List Step
steps_of sources left file round = Opens file ∷ file_steps (steps_below sources left) file round (sources file)

-- the walk over the document of a root
abbrev pub walk : Sources → List ℕ → List Step
walk sources root = steps_of sources (most_levels - 1) root []

-- the files that are opened, in order
abbrev pub opened_at : Step → List (List ℕ)
opened_at (Opens file) = file ∷ []
opened_at _ = []

-- the lines that are taken, in order
abbrev pub taken_at : Step → List FlatLine
taken_at (Takes line) = line ∷ []
taken_at _ = []

abbrev pub opened : List Step → List (List ℕ)
opened steps = flat_map opened_at steps

abbrev pub taken : List Step → List FlatLine
taken steps = flat_map taken_at steps

-- how many bytes are found under a name
abbrev pub bytes_in : Source → ℕ
bytes_in (Held bytes reading) = length bytes
bytes_in _ = 0

-- how many bytes the steps read: each file is read once
abbrev pub bytes_read : Sources → List Step → ℕ
bytes_read sources steps = sum_by (λ file. bytes_in (sources file)) (each_once (opened steps))

-- the names of the conditions of the lines that are taken, each where it stands first
abbrev pub names_taken : List Step → List (List ℕ)
names_taken steps = each_once (flat_map (λ line. names_in line.kind) (taken steps))

-- what is wrong with what a file comes to
abbrev pub reading_fault : List ℕ → Reading → Option Fault
reading_fault file (Lines kinds pairs) = None
reading_fault file (Misspelled number) = Some (BadCondition file number)
reading_fault file (Misnested number) = Some (Unbalanced file number)
reading_fault file (TooNested number) = Some (CondDepth file number)

-- what is wrong with what is found under a name, where so many bytes have room and so many were read
abbrev pub opening_fault : ℕ → ℕ → List ℕ → Source → Option Fault
opening_fault room read file Absent = Some (Missing file)
opening_fault room read file Long = Some (TooLarge file)
opening_fault room read file (Held bytes reading) = if nat_lt room (read + length bytes) then Some (DocTooLong file 0) else reading_fault file reading

-- what is wrong with a line behind these steps: it would be one too many, or its names would be
abbrev pub line_fault : List Step → FlatLine → Option Fault
line_fault before line = if nat_lt most_lines (length (taken before) + 1) then Some (DocTooLong line.file line.number)
    else if nat_lt most_names (length (names_taken (before ++ Takes line ∷ []))) then Some (NameLimit line.file line.number)
    else None

-- what is wrong with a step behind others, where so many bytes have room; a file that was opened before isn't read again
abbrev pub step_fault : Sources → ℕ → List Step → Step → Option Fault
step_fault sources room before (Opens file) = if is_among (opened before) file then None else opening_fault room (bytes_read sources before) file (sources file)
step_fault sources room before (Takes line) = line_fault before line
step_fault sources room before (Exceeds file number) = Some (IncludeDepth file number)

-- the fault, or else another
abbrev pub or_else : Option Fault → Option Fault → Option Fault
or_else (Some fault) other = Some fault
or_else None other = other

-- the first fault of steps behind others, if there is one
abbrev pub first_fault : Sources → ℕ → List Step → List Step → Option Fault
first_fault sources room before [] = None
first_fault sources room before (step ∷ steps) = or_else (step_fault sources room before step) (first_fault sources room (before ++ step ∷ []) steps)

-- the walk over these files, where so many bytes have room, has no fault, and these are its lines: the flat document
pub record IsDocument (files : Files) (room : ℕ) (root : List ℕ) (lines : List FlatLine) : Type 0 where
  pub sources : Sources
  pub are : AreSources files sources
  pub faultless : first_fault sources room [] (walk sources root) ≡ None
  pub lines_are : lines ≡ taken (walk sources root)

-- the first fault of the walk over these files, where so many bytes have room
pub record IsFaultOf (files : Files) (room : ℕ) (root : List ℕ) (fault : Fault) : Type 0 where
  pub sources : Sources
  pub are : AreSources files sources
  pub first : first_fault sources room [] (walk sources root) ≡ Some fault
