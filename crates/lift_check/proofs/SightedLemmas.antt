-- The marks of the lines that stand in a built text, and those of all lines with marks.
use Rattle.std.proofs.Common.{◌≡◌, ◌∙◌, refl, sym, ap, subst, zero, suc, Bool, true, false, not, ◌&&◌, cond, List, [], ◌∷◌, ◌++◌, map, All, Contains, get_or, arith}
use Rattle.std.specs.Prelude.{count_by, filter}
use Rattle.std.specs.List.{flat_map}
use Rattle.std.proofs.lemmas.List.{map-append}
use Rattle.std.proofs.lemmas.List.Concat.{flat_map-cons}
use Rattle.std.proofs.lemmas.List.Elements.{All-append, All-contains_itself, All-filter, All-map, All-nil, All-same, All-weaker, Contains-append_left, Contains-append_right, filter-append, filter_passes}
use Rattle.doc_marks.specs.declared.Mark.{Mark}
use Rattle.doc_tree.specs.Flat.{FlatLine}
use Rattle.reg_registry.specs.Rows.{Rows}
use Rattle.doc_build.specs.declared.Piece.{Piece}
use Rattle.doc_build.specs.Pieces.{Anchor, Link, anchor_at, anchors_of, link_at, links_of, marks_in}
use Rattle.doc_build.specs.Sites.{Site, pieces_of_sites, sites}
use Rattle.lift_survey.specs.Survey.{Sighted, sighted, sighted_at, sighted_links}
use Rattle.lift_check.proofs.CountLemmas.{count-filter, count-map}

-- the anchor that a mark is
abbrev pub anchor_of : Sighted → Anchor
anchor_of s = anchor_at s.site.piece s.mark

-- the link that a mark is
abbrev pub link_of : Sighted → Link
link_of s = link_at s.site.piece s.mark

-- ---- lists

pub Contains-map : {X Y : Type 0} (f : X → Y) (xs : List X) (x : X) → Contains xs x → Contains (map f xs) (f x)
Contains-map f [] x (k, within, is) = absurd (omega (arith, within))
Contains-map f (y ∷ xs) x (zero, within, is) = let same : y ≡ x = is in (0, omega arith, ap f same)
Contains-map f (y ∷ xs) x (suc k, within, is) =
    let later = Contains-map f xs x (k, omega (arith, within), is) in
    (suc later.0, omega (arith, later.1), later.2)

-- an element is among others where one more stands in front, or doesn't
behind : {X : Type 0} (kept : Bool) (y : X) (xs : List X) (x : X) → Contains xs x → Contains (cond kept (y ∷ xs) xs) x
behind true y xs x (k, within, is) = (suc k, omega (arith, within), is)
behind false y xs x among = among

-- an element that passes is among those that do
pub Contains-filter : {X : Type 0} (test : X → Bool) (xs : List X) (x : X) → Contains xs x → test x ≡ true → Contains (filter test xs) x
Contains-filter test [] x (k, within, is) passes = absurd (omega (arith, within))
Contains-filter test (y ∷ xs) x (zero, within, is) passes =
    let same : y ≡ x = is in
    let first : test y ≡ true = ap test same ∙ passes in
    subst (λ (b : Bool). Contains (cond b (y ∷ filter test xs) (filter test xs)) x) (sym first) (0, omega arith, same)
Contains-filter test (y ∷ xs) x (suc k, within, is) passes = behind (test y) y (filter test xs) x (Contains-filter test xs x (k, omega (arith, within), is) passes)

swap-first : {X : Type 0} (p q : X → Bool) (x : X) (xs : List X) (a b : Bool) → p x ≡ a → q x ≡ b → filter p (filter q xs) ≡ filter q (filter p xs)
    → filter p (cond b (x ∷ filter q xs) (filter q xs)) ≡ filter q (cond a (x ∷ filter p xs) (filter p xs))
swap-first {X} p q x xs true true is also rest =
    ap (λ (c : Bool). cond c (x ∷ filter p (filter q xs)) (filter p (filter q xs))) is
    ∙ (ap (λ (ys : List X). x ∷ ys) rest ∙ sym (ap (λ (c : Bool). cond c (x ∷ filter q (filter p xs)) (filter q (filter p xs))) also))
swap-first p q x xs true false is also rest = rest ∙ sym (ap (λ (c : Bool). cond c (x ∷ filter q (filter p xs)) (filter q (filter p xs))) also)
swap-first p q x xs false true is also rest = ap (λ (c : Bool). cond c (x ∷ filter p (filter q xs)) (filter p (filter q xs))) is ∙ rest
swap-first p q x xs false false is also rest = rest

-- two tests may change places
filter-swap : {X : Type 0} (p q : X → Bool) (xs : List X) → filter p (filter q xs) ≡ filter q (filter p xs)
filter-swap p q [] = refl
filter-swap p q (x ∷ xs) = swap-first p q x xs (p x) (q x) refl refl (filter-swap p q xs)

-- ---- the marks of lines

-- what is made of the marks of lines that pass a test is made of these marks with their lines
module _ {A : Type 0} (make : Piece → Mark → A) (test : Mark → Bool) where
  made-first : (site : Site) (passes : Bool) (mark : Mark) (marks : List Mark) (others : List Sighted) → map (make site.piece) marks ≡ map (λ (s : Sighted). make s.site.piece s.mark) others
      → map (make site.piece) (cond passes (mark ∷ marks) marks) ≡ map (λ (s : Sighted). make s.site.piece s.mark) (cond passes (record { site = site; mark = mark } ∷ others) others)
  made-first site true mark marks others same = ap (λ (rest : List A). make site.piece mark ∷ rest) same
  made-first site false mark marks others same = same

  made-of : (site : Site) (marks : List Mark)
      → map (make site.piece) (filter test marks) ≡ map (λ (s : Sighted). make s.site.piece s.mark) (filter (λ (s : Sighted). test s.mark) (map (λ mark. record { site = site; mark = mark }) marks))
  made-of site [] = refl
  made-of site (mark ∷ marks) = made-first site (test mark) mark (filter test marks) (filter (λ (s : Sighted). test s.mark) (map (λ m. record { site = site; mark = m }) marks)) (made-of site marks)

  made-of-all : (places : List Site)
      → flat_map (λ piece. map (make piece) (filter test (marks_in piece))) (pieces_of_sites places) ≡ map (λ (s : Sighted). make s.site.piece s.mark) (filter (λ (s : Sighted). test s.mark) (flat_map sighted_at places))
  made-of-all [] = refl
  made-of-all (site ∷ places) =
      let each : Sighted → A = λ (s : Sighted). make s.site.piece s.mark in
      let passes : Sighted → Bool = λ (s : Sighted). test s.mark in
      flat_map-cons (λ piece. map (make piece) (filter test (marks_in piece))) site.piece (pieces_of_sites places)
      ∙ (ap (λ (front : List A). front ++ flat_map (λ piece. map (make piece) (filter test (marks_in piece))) (pieces_of_sites places)) (made-of site (marks_in site.piece))
      ∙ (ap (λ (rest : List A). map each (filter passes (sighted_at site)) ++ rest) (made-of-all places)
      ∙ (sym (map-append each (filter passes (sighted_at site)) (filter passes (flat_map sighted_at places)))
      ∙ (ap (map each) (sym (filter-append passes (sighted_at site) (flat_map sighted_at places)))
      ∙ ap (λ (seen : List Sighted). map each (filter passes seen)) (sym (flat_map-cons sighted_at site places))))))

pub anchors-made : (places : List Site) → anchors_of (pieces_of_sites places) ≡ map anchor_of (filter (λ (s : Sighted). s.mark.anchor) (flat_map sighted_at places))
anchors-made places = made-of-all anchor_at (λ mark. mark.anchor) places

pub links-made : (places : List Site) → links_of (pieces_of_sites places) ≡ map link_of (filter (λ (s : Sighted). not s.mark.anchor) (flat_map sighted_at places))
links-made places = made-of-all link_at (λ mark. not mark.anchor) places

-- ---- lines that pass a test

module _ (stands : Site → Bool) where
  -- all marks of a line pass, or none
  of-line : (site : Site) (is : Bool) → stands site ≡ is → (marks : List Mark)
      → filter (λ (s : Sighted). stands s.site) (map (λ mark. record { site = site; mark = mark }) marks) ≡ cond is (map (λ mark. record { site = site; mark = mark }) marks) []
  of-line site true was [] = refl
  of-line site false was [] = refl
  of-line site true was (mark ∷ marks) =
      let rest : List Sighted = filter (λ (s : Sighted). stands s.site) (map (λ m. record { site = site; mark = m }) marks) in
      ap (λ (b : Bool). cond b (record { site = site; mark = mark } ∷ rest) rest) was ∙ ap (λ (seen : List Sighted). record { site = site; mark = mark } ∷ seen) (of-line site true was marks)
  of-line site false was (mark ∷ marks) =
      let rest : List Sighted = filter (λ (s : Sighted). stands s.site) (map (λ m. record { site = site; mark = m }) marks) in
      ap (λ (b : Bool). cond b (record { site = site; mark = mark } ∷ rest) rest) was ∙ of-line site false was marks

  first-line : (is : Bool) (site : Site) (places : List Site) → flat_map sighted_at (cond is (site ∷ places) places) ≡ cond is (sighted_at site) [] ++ flat_map sighted_at places
  first-line true site places = flat_map-cons sighted_at site places
  first-line false site places = refl

  of-lines : (places : List Site) → flat_map sighted_at (filter stands places) ≡ filter (λ (s : Sighted). stands s.site) (flat_map sighted_at places)
  of-lines [] = refl
  of-lines (site ∷ places) =
      first-line (stands site) site (filter stands places)
      ∙ (ap (λ (front : List Sighted). front ++ flat_map sighted_at (filter stands places)) (sym (of-line site (stands site) refl (marks_in site.piece)))
      ∙ (ap (λ (rest : List Sighted). filter (λ (s : Sighted). stands s.site) (sighted_at site) ++ rest) (of-lines places)
      ∙ (sym (filter-append (λ (s : Sighted). stands s.site) (sighted_at site) (flat_map sighted_at places)) ∙ ap (filter (λ (s : Sighted). stands s.site)) (sym (flat_map-cons sighted_at site places)))))

  -- the anchors of the lines that pass are counted among all
  pub anchors-counted : (test : Anchor → Bool) (places : List Site)
      → count_by test (anchors_of (pieces_of_sites (filter stands places))) ≡ count_by (λ (s : Sighted). stands s.site && test (anchor_of s)) (filter (λ (s : Sighted). s.mark.anchor) (flat_map sighted_at places))
  anchors-counted test places =
      let anchors : Sighted → Bool = λ (s : Sighted). s.mark.anchor in
      let passes : Sighted → Bool = λ (s : Sighted). stands s.site in
      ap (count_by test) (anchors-made (filter stands places))
      ∙ (count-map test anchor_of (filter anchors (flat_map sighted_at (filter stands places)))
      ∙ (ap (λ (seen : List Sighted). count_by (λ (s : Sighted). test (anchor_of s)) (filter anchors seen)) (of-lines places)
      ∙ (ap (count_by (λ (s : Sighted). test (anchor_of s))) (filter-swap anchors passes (flat_map sighted_at places))
      ∙ count-filter (λ (s : Sighted). test (anchor_of s)) passes (filter anchors (flat_map sighted_at places)))))

-- ---- where a mark is

-- a mark's line is among these, and the mark is one of its line's
pub record IsOf (places : List Site) (s : Sighted) : Type 0 where
  pub line : Contains places s.site
  pub among : Contains (sighted_at s.site) s

all-of : (places : List Site) → All (IsOf places) (flat_map sighted_at places)
all-of [] = All-nil (IsOf [])
all-of (site ∷ places) =
    let own : All (λ mark. IsOf (site ∷ places) (record { site = site; mark = mark })) (marks_in site.piece) =
    All-weaker (Contains (marks_in site.piece)) (λ (mark : Mark). IsOf (site ∷ places) (record { site = site; mark = mark }))
    (λ mark there. record { line = (0, omega arith, refl); among = Contains-map (λ m. record { site = site; mark = m }) (marks_in site.piece) mark there })
    (marks_in site.piece) (All-contains_itself (marks_in site.piece)) in
    let others : All (IsOf (site ∷ places)) (flat_map sighted_at places) =
    All-weaker (IsOf places) (IsOf (site ∷ places)) (λ s is. record { line = Contains-append_right (site ∷ []) places s.site is.line; among = is.among }) (flat_map sighted_at places) (all-of places) in
    All-same (IsOf (site ∷ places)) (flat_map sighted_at (site ∷ places)) (sighted_at site ++ flat_map sighted_at places) (flat_map-cons sighted_at site places)
    (All-append (IsOf (site ∷ places)) (sighted_at site) (flat_map sighted_at places)
    (All-map (IsOf (site ∷ places)) (λ (m : Mark). record { site = site; mark = m }) (marks_in site.piece) own) others)

-- a link of a line with marks
pub record IsLinkOf (places : List Site) (s : Sighted) : Type 0 where
  pub line : Contains places s.site
  pub link : Contains (links_of (s.site.piece ∷ [])) (link_of s)

link-of : (places : List Site) (s : Sighted) → IsOf places s → not s.mark.anchor ≡ true → IsLinkOf places s
link-of places s is passes =
    let own : Contains (flat_map sighted_at (s.site ∷ [])) s =
    subst (λ (seen : List Sighted). Contains seen s) (sym (flat_map-cons sighted_at s.site [])) (Contains-append_left (sighted_at s.site) [] s is.among) in
    record {
      line = is.line;
      link = subst (λ (links : List Link). Contains links (link_of s)) (sym (links-made (s.site ∷ [])))
          (Contains-map link_of (filter (λ (t : Sighted). not t.mark.anchor) (flat_map sighted_at (s.site ∷ []))) s (Contains-filter (λ (t : Sighted). not t.mark.anchor) (flat_map sighted_at (s.site ∷ [])) s own passes));
    }

-- each link of a document is in one of its lines
pub links-are : (r : Rows) (lines : List FlatLine) → All (IsLinkOf (sites r lines)) (sighted_links r lines)
links-are r lines k d within =
    let seen = sighted r lines in
    let test : Sighted → Bool = λ (s : Sighted). not s.mark.anchor in
    link-of (sites r lines) (get_or (sighted_links r lines) k d) (All-filter test (IsOf (sites r lines)) seen (all-of (sites r lines)) k d within) (filter_passes test seen k d within)
