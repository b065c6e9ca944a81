-- Pages of names that aren't declared give nothing.
use Rattle.std.proofs.Common.{inl, inr, ◌≡◌, ◌∙◌, refl, ap, ℕ, ◌+◌, Bool, false, cond, List, [], ◌∷◌, ◌++◌, map, filter, All, Option, Some, None, is_some, option_map}
use Rattle.std.specs.List.{enumerate_from}
use Rattle.std.specs.Option.{option_map_or}
use Rattle.std.proofs.lemmas.Bool.{cases_Bool, true≢false}
use Rattle.std.proofs.lemmas.List.Elements.{All-head, All-tail}
use Rattle.vkb_formula.specs.Names.{place_of}
use Rattle.vkb_formula.specs.declared.name_table.NameId.{NameId}
use Rattle.doc_cond.specs.declared.LineKind.{LineKind}
use Rattle.doc_cond.specs.declared.LineKind.TheVariants.{Plain, Comment, Other, Begin, OneLine, Close, Chapter, Api, Validity, Refpage}
use Rattle.doc_tree.specs.Flat.{FlatLine, is_among, is_kept}
use Rattle.reg_registry.specs.Rows.{Rows, id_at, id_of}
use Rattle.hdr_writer.specs.Declarations.{declaration}
use Rattle.doc_build.specs.declared.Piece.{Piece}
use Rattle.doc_build.specs.Choices.{PageLine, names_set, pageless_setting}
use Rattle.doc_build.specs.Pages.{anchor_line, has, lines_given, lines_marked, listing, numbered, statement_line, usage}
use Rattle.doc_build.specs.Pieces.{page_piece, pieces_among, pieces_at}
use Rattle.doc_build.specs.Settings.{PagesAreOfNames, includes_page}
use Rattle.doc_build.proofs.TableLemmas.{is_some-place_of}

nowhere : (o : Option ℕ) → is_some o ≡ false → o ≡ None
nowhere None none = refl
nowhere (Some place) none = absurd (true≢false none)

-- a name that isn't declared has no number
no-id : (names : List (List ℕ)) (name : List ℕ) → is_among names name ≡ false → id_of names name ≡ None
no-id names name absent = ap (option_map id_at) (nowhere (place_of name names) (is_some-place_of name names ∙ absent))

-- what is given for no page
abbrev nothing : LineKind → List PageLine
nothing kind = []

-- pages that give nothing for lines which include none of a declared name
abbrev GiveNothing : List (List ℕ) → (LineKind → List PageLine) → Type 0
GiveNothing names pages = (kind : LineKind) → includes_page names kind ≡ false → (number : ℕ) (line : List ℕ) → pieces_at pages number line kind ≡ pieces_at nothing number line kind

given-none : (r : Rows) (chosen set : List Bool) → GiveNothing r.names (lines_given r chosen set)
given-none r chosen set Plain none number line = refl
given-none r chosen set Comment none number line = refl
given-none r chosen set Other none number line = refl
given-none r chosen set (OneLine negated any names from to) none number line = refl
given-none r chosen set (Begin negated any names) none number line = refl
given-none r chosen set (Close any names) none number line = refl
given-none r chosen set (Chapter file) none number line = refl
given-none r chosen set (Refpage name) none number line = refl
given-none r chosen set (Api name) none number line =
    ap (λ (o : Option NameId). map (page_piece number) (option_map_or (λ id. cond (has set id) (listing name (declaration r chosen id)) []) o [])) (no-id r.names name none)
given-none r chosen set (Validity name) none number line =
    ap (λ (o : Option NameId). map (page_piece number) (option_map_or (λ id. cond (has set id) (usage r set id) []) o [])) (no-id r.names name none)

marked-none : (r : Rows) → GiveNothing r.names (lines_marked r)
marked-none r Plain none number line = refl
marked-none r Comment none number line = refl
marked-none r Other none number line = refl
marked-none r (OneLine negated any names from to) none number line = refl
marked-none r (Begin negated any names) none number line = refl
marked-none r (Close any names) none number line = refl
marked-none r (Chapter file) none number line = refl
marked-none r (Refpage name) none number line = refl
marked-none r (Api name) none number line =
    ap (λ (o : Option NameId). map (page_piece number) (option_map_or (λ id. anchor_line name ∷ []) o [])) (no-id r.names name none)
marked-none r (Validity name) none number line =
    ap (λ (o : Option NameId). map (page_piece number) (option_map_or (λ id. map statement_line (numbered r id)) o [])) (no-id r.names name none)

module _ (r : Rows) (pages : LineKind → List PageLine) (gives : GiveNothing r.names pages) where
  abbrev First : FlatLine → Type 0
  First line = includes_page r.names line.kind ≡ false

  all-same : (number : ℕ) (lines : List FlatLine) → All First lines → pieces_among pages (enumerate_from number lines) ≡ pieces_among nothing (enumerate_from number lines)
  all-same number [] none = refl
  all-same number (line ∷ lines) none =
      ap (λ (ps : List Piece). ps ++ pieces_among pages (enumerate_from (number + 1) lines)) (gives line.kind (All-head First line lines none) number line.bytes)
      ∙ ap (λ (ps : List Piece). pieces_at nothing number line.bytes line.kind ++ ps) (all-same (number + 1) lines (All-tail First line lines none))

  kept-same : (set : List (List ℕ)) (number : ℕ) (lines : List FlatLine) → All First lines
      → pieces_among pages (filter (λ p. is_kept set p.1) (enumerate_from number lines)) ≡ pieces_among nothing (filter (λ p. is_kept set p.1) (enumerate_from number lines))
  kept-same set number [] none = refl
  kept-same set number (line ∷ lines) none =
      let rest = kept-same set (number + 1) lines (All-tail First line lines none) in
      elim (cases_Bool (is_kept set line)) [
        | inl kept ↦
            rw kept (ap (λ (ps : List Piece). ps ++ pieces_among pages (filter (λ p. is_kept set p.1) (enumerate_from (number + 1) lines))) (gives line.kind (All-head First line lines none) number line.bytes)
            ∙ ap (λ (ps : List Piece). pieces_at nothing number line.bytes line.kind ++ ps) rest)
        | inr left ↦ rw left rest
      ]

pub pages-of-names : PagesAreOfNames
pages-of-names = record {
  given = λ always r closure lines choice none.
      kept-same r (lines_given r choice (closure choice)) (given-none r choice (closure choice)) (names_set (pageless_setting always r) choice) 0 lines none;
  all = λ always r closure lines none. all-same r (lines_marked r) (marked-none r) 0 lines none;
}
