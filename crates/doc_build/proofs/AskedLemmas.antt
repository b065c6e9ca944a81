-- The text over no registry is one of the names that its conditions ask for.
use Rattle.std.proofs.Common.{◌≡◌, ◌∙◌, refl, ap, ℕ, ◌+◌, Bool, not, ◌&&◌, ◌||◌, cond, List, [], ◌∷◌, ◌++◌, filter, All}
use Rattle.std.specs.List.{enumerate_from, flat_map, list_all, list_any}
use Rattle.std.proofs.lemmas.List.Elements.{All-cons, All-head, All-nil, All-tail}
use Rattle.doc_cond.specs.declared.LineKind.{LineKind}
use Rattle.doc_cond.specs.declared.LineKind.TheVariants.{Plain, Comment, Other, Begin, OneLine, Close, Chapter, Api, Validity, Refpage}
use Rattle.doc_tree.specs.Flat.{Condition, FlatLine, is_among, is_kept, is_met, stands_by_itself}
use Rattle.doc_tree.specs.Names.{names_in}
use Rattle.reg_registry.specs.Rows.{bare_rows}
use Rattle.doc_build.specs.declared.Piece.{Piece}
use Rattle.doc_build.specs.Built.{set_names, text_of}
use Rattle.doc_build.specs.Choices.{Choice}
use Rattle.doc_build.specs.Laws.{TextsAreOfNamesAsked, names_asked}
use Rattle.doc_build.specs.Pages.{lines_given}
use Rattle.doc_build.specs.Pieces.{pieces_among, pieces_at}

-- what holds of all in two lists holds of all in each
all-left : {X : Type 0} (P : X → Type 0) (xs ys : List X) → All P (xs ++ ys) → All P xs
all-left P [] ys all = All-nil P
all-left P (x ∷ xs) ys all = All-cons P x xs (All-head P x (xs ++ ys) all) (all-left P xs ys (All-tail P x (xs ++ ys) all))

all-right : {X : Type 0} (P : X → Type 0) (xs ys : List X) → All P (xs ++ ys) → All P ys
all-right P [] ys all = all
all-right P (x ∷ xs) ys all = all-right P xs ys (All-tail P x (xs ++ ys) all)

-- these names are set alike
abbrev Alike : List (List ℕ) → List (List ℕ) → List (List ℕ) → Type 0
Alike one other names = All (λ name. is_among one name ≡ is_among other name) names

module _ (one other : List (List ℕ)) where
  abbrev Same : List ℕ → Type 0
  Same name = is_among one name ≡ is_among other name

  any-same : (names : List (List ℕ)) → Alike one other names → list_any (is_among one) names ≡ list_any (is_among other) names
  any-same [] same = refl
  any-same (name ∷ names) same =
      ap (λ b. b || list_any (is_among one) names) (All-head Same name names same) ∙ ap (λ b. is_among other name || b) (any-same names (All-tail Same name names same))

  all-same : (names : List (List ℕ)) → Alike one other names → list_all (is_among one) names ≡ list_all (is_among other) names
  all-same [] same = refl
  all-same (name ∷ names) same =
      ap (λ b. b && list_all (is_among one) names) (All-head Same name names same) ∙ ap (λ b. is_among other name && b) (all-same names (All-tail Same name names same))

  met-same : (c : Condition) → Alike one other c.names → is_met one c ≡ is_met other c
  met-same c same =
      ap (λ (b : Bool). cond c.negated (not (cond c.any b (list_all (is_among one) c.names))) (cond c.any b (list_all (is_among one) c.names))) (any-same c.names same)
      ∙ ap (λ (b : Bool). cond c.negated (not (cond c.any (list_any (is_among other) c.names) b)) (cond c.any (list_any (is_among other) c.names) b)) (all-same c.names same)

  round-same : (round : List Condition) → Alike one other (flat_map (λ c. c.names) round) → list_all (is_met one) round ≡ list_all (is_met other) round
  round-same [] same = refl
  round-same (c ∷ round) same =
      ap (λ b. b && list_all (is_met one) round) (met-same c (all-left Same c.names (flat_map (λ c. c.names) round) same))
      ∙ ap (λ b. is_met other c && b) (round-same round (all-right Same c.names (flat_map (λ c. c.names) round) same))

  itself-same : (kind : LineKind) → Alike one other (names_in kind) → stands_by_itself one kind ≡ stands_by_itself other kind
  itself-same (OneLine negated any names from to) same = met-same (record { negated = negated; any = any; names = names }) same
  itself-same Plain same = refl
  itself-same Comment same = refl
  itself-same Other same = refl
  itself-same (Begin negated any names) same = refl
  itself-same (Close any names) same = refl
  itself-same (Chapter file) same = refl
  itself-same (Api name) same = refl
  itself-same (Validity name) same = refl
  itself-same (Refpage name) same = refl

  kept-same : (line : FlatLine) → Alike one other (names_asked line) → is_kept one line ≡ is_kept other line
  kept-same line same =
      ap (λ b. b && stands_by_itself one line.kind) (round-same line.round (all-right Same (names_in line.kind) (flat_map (λ c. c.names) line.round) same))
      ∙ ap (λ b. list_all (is_met other) line.round && b) (itself-same line.kind (all-left Same (names_in line.kind) (flat_map (λ c. c.names) line.round) same))

  filter-same : (start : ℕ) (lines : List FlatLine) → All (λ line. Alike one other (names_asked line)) lines
      → filter (λ p. is_kept one p.1) (enumerate_from start lines) ≡ filter (λ p. is_kept other p.1) (enumerate_from start lines)
  filter-same start [] same = refl
  filter-same start (line ∷ lines) same =
      let P : FlatLine → Type 0 = λ l. Alike one other (names_asked l) in
      let rest = filter-same (start + 1) lines (All-tail P line lines same) in
      ap (λ (b : Bool). cond b ((start, line) ∷ filter (λ p. is_kept one p.1) (enumerate_from (start + 1) lines)) (filter (λ p. is_kept one p.1) (enumerate_from (start + 1) lines))) (kept-same line (All-head P line lines same))
      ∙ ap (λ (ps : List (ℕ × FlatLine)). cond (is_kept other line) ((start, line) ∷ ps) ps) rest

-- over no registry, what a line gives is the same at all choices
given-same : (options : List (List ℕ)) (one other : Choice) (set also : List Bool) (number : ℕ) (line : List ℕ) (kind : LineKind)
    → pieces_at (lines_given (bare_rows options) one set) number line kind ≡ pieces_at (lines_given (bare_rows options) other also) number line kind
given-same options one other set also number line Plain = refl
given-same options one other set also number line Comment = refl
given-same options one other set also number line Other = refl
given-same options one other set also number line (OneLine negated any names from to) = refl
given-same options one other set also number line (Begin negated any names) = refl
given-same options one other set also number line (Close any names) = refl
given-same options one other set also number line (Chapter file) = refl
given-same options one other set also number line (Api name) = refl
given-same options one other set also number line (Validity name) = refl
given-same options one other set also number line (Refpage name) = refl

among-same : (options : List (List ℕ)) (one other : Choice) (set also : List Bool) (placed : List (ℕ × FlatLine))
    → pieces_among (lines_given (bare_rows options) one set) placed ≡ pieces_among (lines_given (bare_rows options) other also) placed
among-same options one other set also [] = refl
among-same options one other set also (p ∷ placed) =
    ap (λ (ps : List Piece). ps ++ pieces_among (lines_given (bare_rows options) one set) placed) (given-same options one other set also p.0 p.1.bytes p.1.kind)
    ∙ ap (λ (ps : List Piece). pieces_at (lines_given (bare_rows options) other also) p.0 p.1.bytes p.1.kind ++ ps) (among-same options one other set also placed)

pub texts-asked : TextsAreOfNamesAsked
texts-asked always options lines one other set also same =
    let r = bare_rows options in
    ap text_of
    (ap (λ (placed : List (ℕ × FlatLine)). pieces_among (lines_given r one set) placed) (filter-same (set_names always r one) (set_names always r other) 0 lines same)
    ∙ among-same options one other set also (filter (λ p. is_kept (set_names always r other) p.1) (enumerate_from 0 lines)))
