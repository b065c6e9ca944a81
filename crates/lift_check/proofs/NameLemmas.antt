-- The names of conditions are names of a registry.
use Rattle.std.proofs.Common.{◌≡◌, ℕ, ◌&&◌, Bool, true, false, List, [], ◌∷◌, length, not, All, refl, ap, ◌∙◌, arith}
use Rattle.std.specs.Prelude.{nat_eq, nat_le, nat_lt}
use Rattle.std.specs.List.{flat_map, list_all}
use Rattle.std.proofs.lemmas.Bool.{false≢true}
use Rattle.std.proofs.lemmas.List.Elements.{All-append, All-cons, All-filter, All-head, All-nil, All-same, All-tail}
use Rattle.doc_cond.specs.Lines.{Spells, is_name_byte, is_run}
use Rattle.doc_cond.specs.declared.LineKind.{LineKind}
use Rattle.doc_cond.specs.declared.LineKind.TheVariants.{Plain, Comment, Other, Begin, OneLine, Close, Chapter, Api, Validity, Refpage}
use Rattle.vkb_text.specs.Spans.{slice_at}
use Rattle.doc_cond.specs.Lines.{bare}
use Rattle.doc_tree.specs.Loaded.{IsLineThere, IsLoaded}
use Rattle.doc_tree.specs.Names.{each_once, names_in}
use Rattle.doc_tree.specs.declared.DocLine.{DocLine}
use Rattle.doc_tree.specs.declared.Document.{Document}
use Rattle.reg_registry.specs.Words.{is_name}

abbrev pub IsNamed : List ℕ → Type 0
IsNamed name = is_name name ≡ true

and_true : (a b : Bool) → (a && b) ≡ true → (a ≡ true) × (b ≡ true)
and_true true b both = (refl, both)
and_true false b both = absurd (false≢true both)

byte-named : (b : ℕ) → is_name_byte b ≡ true → (nat_le 33 b && nat_le b 126) ≡ true
byte-named b is = grind arith

bytes-named : (bytes : List ℕ) → list_all is_name_byte bytes ≡ true → list_all (λ byte. nat_le 33 byte && nat_le byte 126) bytes ≡ true
bytes-named [] is = refl
bytes-named (b ∷ bytes) is =
    let both = and_true (is_name_byte b) (list_all is_name_byte bytes) is in
    ap (λ (first : Bool). first && list_all (λ byte. nat_le 33 byte && nat_le byte 126) bytes) (byte-named b both.0) ∙ bytes-named bytes both.1

name-named : (name : List ℕ) → is_run is_name_byte name ≡ true → IsNamed name
name-named [] is = absurd (false≢true is)
name-named (b ∷ bytes) is =
    let both = and_true (not (nat_eq (length (b ∷ bytes)) 0)) (list_all is_name_byte (b ∷ bytes)) is in
    let some : nat_lt 0 (length (b ∷ bytes)) ≡ true = grind arith in
    ap (λ (first : Bool). first && list_all (λ byte. nat_le 33 byte && nat_le byte 126) (b ∷ bytes)) some ∙ bytes-named (b ∷ bytes) both.1

all-named : (names : List (List ℕ)) → list_all (is_run is_name_byte) names ≡ true → All IsNamed names
all-named [] is = All-nil IsNamed
all-named (name ∷ names) is =
    let both = and_true (is_run is_name_byte name) (list_all (is_run is_name_byte) names) is in
    All-cons IsNamed name names (name-named name both.0) (all-named names both.1)

-- the names that a line's condition mentions
kind-named : (kind : LineKind) (line : List ℕ) → Spells kind line → All IsNamed (names_in kind)
kind-named (Begin negated any names) line is = all-named names is.names_are.each
kind-named (OneLine negated any names from to) line is = all-named names is.names_are.each
kind-named Plain line is = All-nil IsNamed
kind-named Comment line is = All-nil IsNamed
kind-named Other line is = All-nil IsNamed
kind-named (Close any names) line is = All-nil IsNamed
kind-named (Chapter file) line is = All-nil IsNamed
kind-named (Api name) line is = All-nil IsNamed
kind-named (Validity name) line is = All-nil IsNamed
kind-named (Refpage name) line is = All-nil IsNamed

lines-named : (text : List ℕ) (d : Document) (lines : List DocLine) → All (IsLineThere text d) lines → All IsNamed (flat_map (λ l. names_in l.kind) lines)
lines-named text d [] all = All-nil IsNamed
lines-named text d (l ∷ lines) all =
    All-append IsNamed (names_in l.kind) (flat_map (λ m. names_in m.kind) lines) (kind-named l.kind (bare (slice_at text l.line.span)) (All-head (IsLineThere text d) l lines all).kind)
    (lines-named text d lines (All-tail (IsLineThere text d) l lines all))

once-named : (names : List (List ℕ)) → All IsNamed names → All IsNamed (each_once names)
once-named [] all = All-nil IsNamed
once-named (name ∷ names) all =
    All-cons IsNamed name _ (All-head IsNamed name names all) (All-filter _ IsNamed (each_once names) (once-named names (All-tail IsNamed name names all)))

-- the names of a loaded document
pub loaded-named : (text : List ℕ) (d : Document) → IsLoaded text d → All IsNamed d.names
loaded-named text d loaded =
    let mentioned = flat_map (λ (l : DocLine). names_in l.kind) d.lines in
    All-same IsNamed d.names (each_once mentioned) loaded.named (once-named mentioned (lines-named text d d.lines loaded.lines))
