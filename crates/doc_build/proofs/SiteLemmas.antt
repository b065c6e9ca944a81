-- The marks of the lines that a document gives at some choice or other, and of those that stand in the text of a choice.
use Rattle.std.proofs.Common.{inl, inr, ◌≡◌, ◌∙◌, refl, sym, ap, ℕ, Bool, true, false, not, ◌&&◌, cond, codes, List, [], ◌∷◌, ◌++◌, map, filter, All, Option, Some, None}
use Rattle.std.specs.List.{enumerate_from, flat_map, list_all}
use Rattle.std.specs.Option.{option_map_or, option_to_list}
use Rattle.std.proofs.lemmas.Bool.{cases_Bool}
use Rattle.std.proofs.lemmas.List.{map-append}
use Rattle.std.proofs.lemmas.List.Concat.{flat_map-append}
use Rattle.std.proofs.lemmas.List.Elements.{All-nil, All-cons, All-head, All-tail, All-map, All-weaker, filter-append}
use Rattle.std.proofs.lemmas.Simd.{map-map}
use Rattle.vkb_formula.specs.declared.name_table.NameId.{NameId}
use Rattle.vkb_text.specs.Lines.{lines_of}
use Rattle.reg_registry.specs.Rows.{Rows, id_of}
use Rattle.hdr_writer.specs.Declarations.{declaration}
use Rattle.vu_implicit.specs.declared.statement.Statement.{Statement}
use Rattle.doc_marks.specs.declared.Mark.{Mark}
use Rattle.doc_cond.specs.declared.LineKind.{LineKind}
use Rattle.doc_cond.specs.declared.LineKind.TheVariants.{Plain, Comment, Other, Begin, OneLine, Close, Chapter, Api, Validity, Refpage}
use Rattle.doc_tree.specs.Flat.{FlatLine, is_kept}
use Rattle.doc_build.specs.declared.Piece.{Piece}
use Rattle.doc_build.specs.Built.{set_names}
use Rattle.doc_build.specs.Choices.{PageLine}
use Rattle.doc_build.specs.Laws.{is_kept_at}
use Rattle.doc_build.specs.Pages.{anchor_line, block, has, lines_given, lines_marked, listing, numbered, silent_line, stands, statement_line, usage}
use Rattle.doc_build.specs.Pieces.{anchor_at, link_at, marks_in, page_piece, pieces_among, pieces_at}
use Rattle.doc_build.specs.Sites.{MarksAtSomeChoice, MarksFollowTheChoice, Site, anchor_site, is_standing, pieces_of_sites, sites_at, statement_site}
use Rattle.doc_build.proofs.FoundLemmas.{All-all, filter-none, kept_places}

-- ---- lists

-- tests that agree on all of a list leave the same of it
filter-alike : {X : Type 0} (p q : X → Bool) (xs : List X) → All (λ x. p x ≡ q x) xs → filter p xs ≡ filter q xs
filter-alike p q [] all = refl
filter-alike p q (x ∷ xs) all =
    ap (λ b. cond b (x ∷ filter p xs) (filter p xs)) (All-head (λ y. p y ≡ q y) x xs all)
    ∙ ap (λ ys. cond (q x) (x ∷ ys) ys) (filter-alike p q xs (All-tail (λ y. p y ≡ q y) x xs all))

-- a test behind one whose answer is the same for all
filter-behind : {X : Type 0} (p q : X → Bool) (b : Bool) (xs : List X) → All (λ x. p x ≡ b) xs → filter (λ x. p x && q x) xs ≡ cond b (filter q xs) []
filter-behind p q true xs all = filter-alike (λ x. p x && q x) q xs (All-weaker (λ x. p x ≡ true) (λ x. (p x && q x) ≡ q x) (λ x is. ap (λ c. c && q x) is) xs all)
filter-behind p q false xs all = filter-none (λ x. p x && q x) xs (All-weaker (λ x. p x ≡ false) (λ x. (p x && q x) ≡ false) (λ x isnt. ap (λ c. c && q x) isnt) xs all)

and-true : (b : Bool) → (b && true) ≡ b
and-true true = refl
and-true false = refl

-- ---- what a site needs

-- the closure has each name that it needs
abbrev has_all : List Bool → Site → Bool
has_all set site = list_all (has set) site.needs

needs-one : (set : List Bool) (name : Option NameId) → list_all (has set) (option_to_list name) ≡ option_map_or (has set) name true
needs-one set None = refl
needs-one set (Some id) = and-true (has set id)

-- where the closure has the page's name, a statement's line needs what the statement needs
needs-all : (set : List Bool) (number : ℕ) (id : NameId) (p : ℕ × Statement) → has set id ≡ true → has_all set (statement_site number id p) ≡ stands set p.1
needs-all set number id p is = ap (λ b. b && list_all (has set) (option_to_list p.1.needs)) is ∙ needs-one set p.1.needs

-- where it hasn't, no statement's line has what it needs
needs-none : (set : List Bool) (number : ℕ) (id : NameId) (ps : List (ℕ × Statement)) → has set id ≡ false → filter (has_all set) (map (statement_site number id) ps) ≡ []
needs-none set number id ps isnt =
    filter-none (has_all set) (map (statement_site number id) ps)
    (All-map (λ (site : Site). has_all set site ≡ false) (statement_site number id) ps
    (All-all (λ (p : ℕ × Statement). has_all set (statement_site number id p) ≡ false) (λ p. ap (λ b. b && list_all (has set) (option_to_list p.1.needs)) isnt) ps))

-- the statements that stand
statements-stand : (set : List Bool) (number : ℕ) (id : NameId) (ps : List (ℕ × Statement)) → has set id ≡ true
    → map (page_piece number) (map statement_line (filter (λ p. stands set p.1) ps)) ≡ pieces_of_sites (filter (has_all set) (map (statement_site number id) ps))
statements-stand set number id [] is = refl
statements-stand set number id (p ∷ ps) is =
    let rest = statements-stand set number id ps is in
    let same = needs-all set number id p is in
    let later : List Site = map (statement_site number id) ps in
    elim (cases_Bool (stands set p.1)) [
      | inl stand ↦
          ap (λ b. map (page_piece number) (map statement_line (cond b (p ∷ filter (λ q. stands set q.1) ps) (filter (λ q. stands set q.1) ps)))) stand
          ∙ ap (λ (pieces : List Piece). page_piece number (statement_line p) ∷ pieces) rest
          ∙ sym (ap (λ b. pieces_of_sites (cond b (statement_site number id p ∷ filter (has_all set) later) (filter (has_all set) later))) (same ∙ stand))
      | inr fall ↦
          ap (λ b. map (page_piece number) (map statement_line (cond b (p ∷ filter (λ q. stands set q.1) ps) (filter (λ q. stands set q.1) ps)))) fall
          ∙ rest
          ∙ sym (ap (λ b. pieces_of_sites (cond b (statement_site number id p ∷ filter (has_all set) later) (filter (has_all set) later))) (same ∙ fall))
    ]

-- ---- the lines of sites

abbrev IsOf : ℕ → Site → Type 0
IsOf number site = site.piece.line ≡ number

one_site : (number : ℕ) (site : Site) → IsOf number site → All (IsOf number) (site ∷ [])
one_site number site is = All-cons (IsOf number) site [] is (All-nil (IsOf number))

api_lines : (number : ℕ) (name : List ℕ) (id : Option NameId) → All (IsOf number) (option_map_or (λ i. anchor_site number name i ∷ []) id [])
api_lines number name None = All-nil (IsOf number)
api_lines number name (Some id) = one_site number _ refl

validity_lines : (r : Rows) (number : ℕ) (id : Option NameId) → All (IsOf number) (option_map_or (λ i. map (statement_site number i) (numbered r i)) id [])
validity_lines r number None = All-nil (IsOf number)
validity_lines r number (Some id) =
    All-map (IsOf number) (statement_site number id) (numbered r id) (All-all (λ (p : ℕ × Statement). number ≡ number) (λ p. refl) (numbered r id))

-- what a line gives is of its number
pub site_lines : (r : Rows) (number : ℕ) (line : List ℕ) (kind : LineKind) → All (λ site. site.piece.line ≡ number) (sites_at r number line kind)
site_lines r number line Plain = one_site number _ refl
site_lines r number line (OneLine negated any names from to) = one_site number _ refl
site_lines r number line (Api name) = api_lines number name (id_of r.names name)
site_lines r number line (Validity name) = validity_lines r number (id_of r.names name)
site_lines r number line Comment = All-nil (IsOf number)
site_lines r number line Other = All-nil (IsOf number)
site_lines r number line (Refpage name) = All-nil (IsOf number)
site_lines r number line (Begin negated any names) = All-nil (IsOf number)
site_lines r number line (Close any names) = All-nil (IsOf number)
site_lines r number line (Chapter file) = All-nil (IsOf number)

-- those of lines with their places
abbrev pub sites_among : Rows → List (ℕ × FlatLine) → List Site
sites_among r placed = flat_map (λ p. sites_at r p.0 p.1.bytes p.1.kind) placed

-- ---- marks of some sort

module _ {X : Type 0} (choose : Mark → Bool) (make : Piece → Mark → X) where
  abbrev in_piece : Piece → List X
  in_piece piece = map (make piece) (filter choose (marks_in piece))

  abbrev in_pieces : List Piece → List X
  in_pieces pieces = flat_map in_piece pieces

  abbrev in_sites : List Site → List X
  in_sites places = in_pieces (pieces_of_sites places)

  abbrev in_page : ℕ → List PageLine → List X
  in_page number lines = in_pieces (map (page_piece number) lines)

  in_sites-append : (xs ys : List Site) → in_sites (xs ++ ys) ≡ in_sites xs ++ in_sites ys
  in_sites-append xs ys = ap in_pieces (map-append (λ (site : Site). site.piece) xs ys) ∙ flat_map-append in_piece (pieces_of_sites xs) (pieces_of_sites ys)

  -- a silent line behind others has none
  silent-behind : (number : ℕ) (lines : List PageLine) (bytes : List ℕ) → in_page number (lines ++ silent_line bytes ∷ []) ≡ in_page number lines
  silent-behind number [] bytes = refl
  silent-behind number (line ∷ lines) bytes = ap (λ xs. in_piece (page_piece number line) ++ xs) (silent-behind number lines bytes)

  silent-none : (number : ℕ) (lines : List (List ℕ)) → in_page number (map silent_line lines) ≡ []
  silent-none number [] = refl
  silent-none number (line ∷ lines) = silent-none number lines

  -- a declaration has those of its anchor
  in-listing : (number : ℕ) (name text : List ℕ) → in_page number (listing name text) ≡ in_page number (anchor_line name ∷ [])
  in-listing number name text =
      ap (λ xs. in_piece (page_piece number (anchor_line name)) ++ xs)
      (silent-behind number (map silent_line (lines_of text)) (codes "----") ∙ silent-none number (lines_of text))

  -- a block has those of its lines
  in-block : (number : ℕ) (lines : List PageLine) → in_page number (block lines) ≡ in_page number lines
  in-block number [] = refl
  in-block number (line ∷ lines) = silent-behind number (line ∷ lines) (codes "****")

  -- ---- at a choice

  module _ (r : Rows) (chosen set : List Bool) where
    api-given : (number : ℕ) (name : List ℕ) (found : Option NameId)
        → in_page number (option_map_or (λ id. cond (has set id) (listing name (declaration r chosen id)) []) found [])
        ≡ in_sites (filter (has_all set) (option_map_or (λ id. anchor_site number name id ∷ []) found []))
    api-given number name None = refl
    api-given number name (Some id) =
        elim (cases_Bool (has set id)) [
          | inl is ↦ rw is (in-listing number name (declaration r chosen id))
          | inr isnt ↦ rw isnt refl
        ]

    validity-given : (number : ℕ) (found : Option NameId)
        → in_page number (option_map_or (λ id. cond (has set id) (usage r set id) []) found [])
        ≡ in_sites (filter (has_all set) (option_map_or (λ id. map (statement_site number id) (numbered r id)) found []))
    validity-given number None = refl
    validity-given number (Some id) =
        elim (cases_Bool (has set id)) [
          | inl is ↦
              ap (λ b. in_page number (cond b (usage r set id) [])) is
              ∙ in-block number (map statement_line (filter (λ p. stands set p.1) (numbered r id)))
              ∙ ap in_pieces (statements-stand set number id (numbered r id) is)
          | inr isnt ↦
              ap (λ b. in_page number (cond b (usage r set id) [])) isnt
              ∙ sym (ap in_sites (needs-none set number id (numbered r id) isnt))
        ]

    -- what a kept line gives has the marks of those of its sites that have what they need
    line-given : (number : ℕ) (line : List ℕ) (kind : LineKind)
        → in_pieces (pieces_at (lines_given r chosen set) number line kind) ≡ in_sites (filter (has_all set) (sites_at r number line kind))
    line-given number line Plain = refl
    line-given number line Comment = refl
    line-given number line Other = refl
    line-given number line (OneLine negated any names from to) = refl
    line-given number line (Refpage name) = refl
    line-given number line (Begin negated any names) = refl
    line-given number line (Close any names) = refl
    line-given number line (Chapter file) = refl
    line-given number line (Api name) = api-given number name (id_of r.names name)
    line-given number line (Validity name) = validity-given number (id_of r.names name)

    module _ (names : List (List ℕ)) (lines : List FlatLine) where
      abbrev kept : ℕ → Bool
      kept number = is_kept_at names lines number

      abbrev SameAt : ℕ × FlatLine → Type 0
      SameAt p = kept p.0 ≡ is_kept names p.1

      abbrev test : Site → Bool
      test site = is_standing names set lines site

      -- of the sites of a line those stand that have what they need, if the line is kept
      line-standing : (p : ℕ × FlatLine) → SameAt p
          → filter test (sites_at r p.0 p.1.bytes p.1.kind) ≡ cond (is_kept names p.1) (filter (has_all set) (sites_at r p.0 p.1.bytes p.1.kind)) []
      line-standing p says =
          let own = sites_at r p.0 p.1.bytes p.1.kind in
          filter-behind (λ (site : Site). kept site.piece.line) (has_all set) (is_kept names p.1) own
          (All-weaker (λ (site : Site). site.piece.line ≡ p.0) (λ site. kept site.piece.line ≡ is_kept names p.1) (λ site at. ap kept at ∙ says) own (site_lines r p.0 p.1.bytes p.1.kind))

      kept-lines-given : (placed : List (ℕ × FlatLine)) → All SameAt placed
          → in_pieces (pieces_among (lines_given r chosen set) (filter (λ p. is_kept names p.1) placed)) ≡ in_sites (filter test (sites_among r placed))
      kept-lines-given [] all = refl
      kept-lines-given (p ∷ placed) all =
          let given : List Piece = pieces_at (lines_given r chosen set) p.0 p.1.bytes p.1.kind in
          let own = sites_at r p.0 p.1.bytes p.1.kind in
          let ahead : List (ℕ × FlatLine) = filter (λ q. is_kept names q.1) placed in
          let more = filter test (sites_among r placed) in
          let rest = kept-lines-given placed (All-tail SameAt p placed all) in
          let here = line-standing p (All-head SameAt p placed all) in
          let split : in_sites (filter test (own ++ sites_among r placed)) ≡ in_sites (filter test own) ++ in_sites more =
          ap in_sites (filter-append test own (sites_among r placed)) ∙ in_sites-append (filter test own) more in
          elim (cases_Bool (is_kept names p.1)) [
            | inl is ↦
                ap (λ b. in_pieces (pieces_among (lines_given r chosen set) (cond b (p ∷ ahead) ahead))) is
                ∙ flat_map-append in_piece given (pieces_among (lines_given r chosen set) ahead)
                ∙ ap (λ xs. xs ++ in_pieces (pieces_among (lines_given r chosen set) ahead)) (line-given p.0 p.1.bytes p.1.kind)
                ∙ ap (λ xs. in_sites (filter (has_all set) own) ++ xs) rest
                ∙ sym (ap (λ ss. in_sites ss ++ in_sites more) (here ∙ ap (λ b. cond b (filter (has_all set) own) []) is))
                ∙ sym split
            | inr isnt ↦
                ap (λ b. in_pieces (pieces_among (lines_given r chosen set) (cond b (p ∷ ahead) ahead))) isnt
                ∙ rest
                ∙ sym (ap (λ ss. in_sites ss ++ in_sites more) (here ∙ ap (λ b. cond b (filter (has_all set) own) []) isnt))
                ∙ sym split
          ]

  -- ---- at some choice or other

  module _ (r : Rows) where
    api-marked : (number : ℕ) (name : List ℕ) (found : Option NameId)
        → in_page number (option_map_or (λ id. anchor_line name ∷ []) found []) ≡ in_sites (option_map_or (λ id. anchor_site number name id ∷ []) found [])
    api-marked number name None = refl
    api-marked number name (Some id) = refl

    validity-marked : (number : ℕ) (found : Option NameId)
        → in_page number (option_map_or (λ id. map statement_line (numbered r id)) found []) ≡ in_sites (option_map_or (λ id. map (statement_site number id) (numbered r id)) found [])
    validity-marked number None = refl
    validity-marked number (Some id) =
        ap in_pieces (map-map (page_piece number) statement_line (numbered r id) ∙ sym (map-map (λ (site : Site). site.piece) (statement_site number id) (numbered r id)))

    line-marked : (number : ℕ) (line : List ℕ) (kind : LineKind) → in_pieces (pieces_at (lines_marked r) number line kind) ≡ in_sites (sites_at r number line kind)
    line-marked number line Plain = refl
    line-marked number line Comment = refl
    line-marked number line Other = refl
    line-marked number line (OneLine negated any names from to) = refl
    line-marked number line (Refpage name) = refl
    line-marked number line (Begin negated any names) = refl
    line-marked number line (Close any names) = refl
    line-marked number line (Chapter file) = refl
    line-marked number line (Api name) = api-marked number name (id_of r.names name)
    line-marked number line (Validity name) = validity-marked number (id_of r.names name)

    lines-marked : (placed : List (ℕ × FlatLine)) → in_pieces (pieces_among (lines_marked r) placed) ≡ in_sites (sites_among r placed)
    lines-marked [] = refl
    lines-marked (p ∷ placed) =
        flat_map-append in_piece (pieces_at (lines_marked r) p.0 p.1.bytes p.1.kind) (pieces_among (lines_marked r) placed)
        ∙ ap (λ xs. xs ++ in_pieces (pieces_among (lines_marked r) placed)) (line-marked p.0 p.1.bytes p.1.kind)
        ∙ ap (λ xs. in_sites (sites_at r p.0 p.1.bytes p.1.kind) ++ xs) (lines-marked placed)
        ∙ sym (in_sites-append (sites_at r p.0 p.1.bytes p.1.kind) (sites_among r placed))

-- ---- the laws

pub marks-follow : MarksFollowTheChoice
marks-follow = record {
  anchors = λ always r chosen set lines.
      let names = set_names always r chosen in
      kept-lines-given (λ mark. mark.anchor) anchor_at r chosen set names lines (enumerate_from 0 lines) (kept_places names (map (is_kept names) lines) [] lines refl);
  links = λ always r chosen set lines.
      let names = set_names always r chosen in
      kept-lines-given (λ mark. not mark.anchor) link_at r chosen set names lines (enumerate_from 0 lines) (kept_places names (map (is_kept names) lines) [] lines refl);
}

pub marks-at-some : MarksAtSomeChoice
marks-at-some = record {
  anchors = λ always r closure lines. lines-marked (λ mark. mark.anchor) anchor_at r (enumerate_from 0 lines);
  links = λ always r closure lines. lines-marked (λ mark. not mark.anchor) link_at r (enumerate_from 0 lines);
}
