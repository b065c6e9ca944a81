-- What is made of each condition with those round it tells which lines are kept.
use Rattle.std.proofs.Common.{◌≡◌, ◌∙◌, refl, sym, ap, subst, ℕ, zero, suc, ◌+◌, ◌<◌, Bool, true, false, not, ◌&&◌, ◌||◌, cond, List, [], ◌∷◌, ◌++◌, length, map, take, All, Option, Some, None, slice_get, get_or, arith}
use Rattle.std.specs.List.{list_all, list_any}
use Rattle.std.specs.Option.{option_or}
use Rattle.std.proofs.Math.Bool.{and-true}
use Rattle.std.proofs.lemmas.List.{get_or_append_left, get_or_push, length_push, map_push, take_more}
use Rattle.std.proofs.lemmas.List.Elements.{All-head, All-tail}
use Rattle.std.proofs.lemmas.List.Folds.{list_all-append}
use Rattle.std.proofs.lemmas.Option.{get_or_from_slice_get, same_Some, slice_get-get_or, slice_get_within}
use Rattle.vkb_formula.specs.declared.name_table.NameId.{NameId}
use Rattle.doc_cond.specs.declared.LineKind.{LineKind}
use Rattle.doc_cond.specs.declared.LineKind.TheVariants.{Plain, Comment, Other, Begin, OneLine, Close, Chapter, Api, Validity, Refpage}
use Rattle.doc_tree.specs.declared.Cond.{Cond}
use Rattle.doc_tree.specs.declared.CondId.{CondId}
use Rattle.doc_tree.specs.declared.Document.{Document}
use Rattle.doc_tree.specs.Flat.{Condition, is_among, is_met, stands_by_itself}
use Rattle.doc_tree.specs.Loaded.{IsBefore, IsLoaded, IsOwn, condition_of, round_at, rounds_from, rounds_of}
use Rattle.doc_build.specs.Keeping.{KeepsLines, TellsNames, meets_by, met_at, met_from}

-- an item of a map, where what is given in its place beyond the end is mapped too
get_or-mapped : {X Y : Type 0} (f : X → Y) (xs : List X) (k : ℕ) (d : X) → get_or (map f xs) k (f d) ≡ f (get_or xs k d)
get_or-mapped f [] k d = refl
get_or-mapped f (x ∷ xs) zero d = refl
get_or-mapped f (x ∷ xs) (suc k) d = get_or-mapped f xs k d

module _ (met : Cond → Bool) where
  -- one condition more
  met_from-push : (made : List Bool) (conds : List Cond) (last : Cond) → met_from met made (conds ++ last ∷ []) ≡ met_from met made conds ++ (met_at (met_from met made conds) last.within && met last) ∷ []
  met_from-push made [] last = refl
  met_from-push made (first ∷ conds) last = met_from-push (made ++ (met_at made first.within && met first) ∷ []) conds last

  pub met_from-more : (conds : List Cond) (index : ℕ) (here : Cond) → index < length conds → here ≡ get_or conds index here
      → met_from met [] (take (index + 1) conds) ≡ met_from met [] (take index conds) ++ (met_at (met_from met [] (take index conds)) here.within && met here) ∷ []
  met_from-more conds index here within is =
      ap (met_from met []) (take_more conds index here within ∙ ap (λ last. take index conds ++ last ∷ []) (sym is)) ∙ met_from-push [] (take index conds) here

  -- what was made stays
  made-kept : (made : List Bool) (conds : List Cond) (place : ℕ) → place < length made → get_or (met_from met made conds) place true ≡ get_or made place true
  made-kept made [] place below = refl
  made-kept made (first ∷ conds) place below =
      let value = met_at made first.within && met first in
      made-kept (made ++ value ∷ []) conds place (omega (arith, below, length_push made value)) ∙ get_or_append_left made (value ∷ []) true place below

  met_at-kept : (made : List Bool) (conds : List Cond) (within : Option CondId) → IsBefore (length made) within → met_at (met_from met made conds) within ≡ met_at made within
  met_at-kept made conds None before = refl
  met_at-kept made conds (Some c) before = made-kept made conds c.0 before

  made-first : (made : List Bool) (first : Cond) (conds : List Cond) → IsBefore (length made) first.within
      → get_or (met_from met made (first ∷ conds)) (length made) true ≡ (met_at (met_from met made (first ∷ conds)) first.within && met first)
  made-first made first conds before =
      let value = met_at made first.within && met first in
      let all = met_from met (made ++ value ∷ []) conds in
      made-kept (made ++ value ∷ []) conds (length made) (omega (arith, length_push made value))
      ∙ (get_or_push made value true (length made) refl ∙ ap (λ b. b && met first) (sym (met_at-kept made (first ∷ conds) first.within before)))

  -- what is made of a condition, by what is made of all
  made-at : (made : List Bool) (conds : List Cond) (place : ℕ) (here : Cond) → slice_get conds place ≡ Some here → IsBefore (length made + place) here.within
      → get_or (met_from met made conds) (length made + place) true ≡ (met_at (met_from met made conds) here.within && met here)
  made-at made [] place here held before = absurd (cc)
  made-at made (first ∷ conds) zero here held before =
      let is : first ≡ here = same_Some first here held in
      let at : length made + 0 ≡ length made = omega arith in
      let all = met_from met made (first ∷ conds) in
      let earlier : IsBefore (length made) first.within = subst (λ (n : ℕ). IsBefore n first.within) at (subst (λ (c : Cond). IsBefore (length made + 0) c.within) (sym is) before) in
      ap (λ n. get_or all n true) at ∙ (made-first made first conds earlier ∙ ap (λ (c : Cond). met_at all c.within && met c) is)
  made-at made (first ∷ conds) (suc place) here held before =
      let value = met_at made first.within && met first in
      let next = made ++ value ∷ [] in
      let at : length made + suc place ≡ length next + place = omega (arith, length_push made value) in
      ap (λ n. get_or (met_from met next conds) n true) at ∙ made-at next conds place here held (subst (λ (n : ℕ). IsBefore n here.within) at before)

  met-at : (conds : List Cond) (place : ℕ) (here : Cond) → slice_get conds place ≡ Some here → IsBefore place here.within
      → get_or (met_from met [] conds) place true ≡ (met_at (met_from met [] conds) here.within && met here)
  met-at conds place here held before =
      let at : 0 + place ≡ place = omega arith in
      ap (λ (n : ℕ). get_or (met_from met [] conds) n true) (sym at) ∙ made-at [] conds place here held (subst (λ (n : ℕ). IsBefore n here.within) (sym at) before)

-- conditions that are met alike
met_from-alike : (p q : Cond → Bool) (made : List Bool) (conds : List Cond) → All (λ c. p c ≡ q c) conds → met_from p made conds ≡ met_from q made conds
met_from-alike p q made [] same = refl
met_from-alike p q made (first ∷ conds) same =
    ap (λ b. met_from p (made ++ (met_at made first.within && b) ∷ []) conds) (All-head (λ c. p c ≡ q c) first conds same)
    ∙ met_from-alike p q (made ++ (met_at made first.within && q first) ∷ []) conds (All-tail (λ c. p c ≡ q c) first conds same)

module _ (set : List (List ℕ)) where
  -- all of these are met
  abbrev all_met : List Condition → Bool
  all_met conditions = list_all (is_met set) conditions

  -- what is met round a place, by what is met of each
  round-met : (rounds : List (List Condition)) (within : Option CondId) → all_met (round_at rounds within) ≡ met_at (map all_met rounds) within
  round-met rounds None = refl
  round-met rounds (Some c) = sym (get_or-mapped all_met rounds c.0 [])

  round-more : (names : List (List ℕ)) (rounds : List (List Condition)) (here : Cond)
      → all_met (round_at rounds here.within ++ condition_of names here ∷ []) ≡ (met_at (map all_met rounds) here.within && is_met set (condition_of names here))
  round-more names rounds here =
      list_all-append (is_met set) (round_at rounds here.within) (condition_of names here ∷ [])
      ∙ (ap (λ b. all_met (round_at rounds here.within) && b) (and-true (is_met set (condition_of names here))) ∙ ap (λ b. b && is_met set (condition_of names here)) (round-met rounds here.within))

  -- each condition is met with those round it, one after another
  rounds-from : (names : List (List ℕ)) (rounds : List (List Condition)) (conds : List Cond)
      → map all_met (rounds_from names rounds conds) ≡ met_from (λ c. is_met set (condition_of names c)) (map all_met rounds) conds
  rounds-from names rounds [] = refl
  rounds-from names rounds (first ∷ conds) =
      let round = round_at rounds first.within ++ condition_of names first ∷ [] in
      rounds-from names (rounds ++ round ∷ []) conds
      ∙ ap (λ made. met_from (λ c. is_met set (condition_of names c)) made conds)
      (map_push all_met rounds round ∙ ap (λ b. map all_met rounds ++ b ∷ []) (round-more names rounds first))

  rounds-met : (names : List (List ℕ)) (conds : List Cond) → map all_met (rounds_from names [] conds) ≡ met_from (λ c. is_met set (condition_of names c)) [] conds
  rounds-met names conds = rounds-from names [] conds

-- ---- names by their numbers

list_any-map : {X : Type 0} (p : X → Bool) (xs : List X) → list_any (λ b. b) (map p xs) ≡ list_any p xs
list_any-map p [] = refl
list_any-map p (x ∷ xs) = ap (λ b. p x || b) (list_any-map p xs)

list_all-map : {X : Type 0} (p : X → Bool) (xs : List X) → list_all (λ b. b) (map p xs) ≡ list_all p xs
list_all-map p [] = refl
list_all-map p (x ∷ xs) = ap (λ b. p x && b) (list_all-map p xs)

-- tests that give the same values hold alike
holds-alike : {X Y : Type 0} (any : Bool) (p : X → Bool) (q : Y → Bool) (xs : List X) (ys : List Y) → map p xs ≡ map q ys → cond any (list_any p xs) (list_all p xs) ≡ cond any (list_any q ys) (list_all q ys)
holds-alike true p q xs ys same = sym (list_any-map p xs) ∙ (ap (list_any (λ b. b)) same ∙ list_any-map q ys)
holds-alike false p q xs ys same = sym (list_all-map p xs) ∙ (ap (list_all (λ b. b)) same ∙ list_all-map q ys)

module _ (set : List (List ℕ)) (d : Document) (is_set : NameId → Bool) (tells : TellsNames set d is_set) where
  -- names are set alike by their numbers and by their bytes
  names-alike : (ids : List NameId) → All (λ id. id.0 < length d.names) ids → map is_set ids ≡ map (is_among set) (map (λ id. get_or d.names id.0 []) ids)
  names-alike [] below = refl
  names-alike (id ∷ ids) below =
      let here = All-head (λ (i : NameId). i.0 < length d.names) id ids below in
      ap (λ b. b ∷ map is_set ids) (tells id.0 here)
      ∙ ap (λ bs. is_among set (get_or d.names id.0 []) ∷ bs) (names-alike ids (All-tail (λ (i : NameId). i.0 < length d.names) id ids below))

  -- a condition is met alike
  meets-alike : (here : Cond) → All (λ id. id.0 < length d.names) here.names → meets_by is_set here ≡ is_met set (condition_of d.names here)
  meets-alike here below =
      ap (λ (h : Bool). cond here.negated (not h) h)
      (holds-alike here.any is_set (is_among set) here.names (map (λ id. get_or d.names id.0 []) here.names) (names-alike here.names below))

module _ (d : Document) (set : List (List ℕ)) (met : Cond → Bool)
    (alike : All (λ c. met c ≡ is_met set (condition_of d.names c)) d.conds)
    (there : (place : ℕ) (here : Cond) → slice_get d.conds place ≡ Some here → IsBefore place here.within) where
  abbrev made : List Bool
  made = met_from met [] d.conds

  -- what is made of a condition
  round-on : (within : Option CondId) → met_at made within ≡ list_all (is_met set) (round_at (rounds_of d) within)
  round-on within =
      ap (λ (bs : List Bool). met_at bs within) (met_from-alike met (λ c. is_met set (condition_of d.names c)) [] d.conds alike ∙ sym (rounds-met set d.names d.conds))
      ∙ sym (round-met set (rounds_of d) within)

  own-on : (id : CondId) (here : Cond) → slice_get d.conds id.0 ≡ Some here → met_at made (Some id) ≡ (list_all (is_met set) (round_at (rounds_of d) here.within) && is_met set (condition_of d.names here))
  own-on id here held =
      let within = slice_get_within d.conds id.0 here held in
      let is : met here ≡ is_met set (condition_of d.names here) =
      subst (λ (c : Cond). met c ≡ is_met set (condition_of d.names c)) (get_or_from_slice_get d.conds id.0 here here held) (alike id.0 here within) in
      met-at met d.conds id.0 here held (there id.0 here held)
      ∙ (ap (λ b. b && met here) (round-on here.within)
      ∙ ap (λ b. list_all (is_met set) (round_at (rounds_of d) here.within) && b) is)

  -- a line of a kind that has no condition
  plain-on : (within own : Option CondId) → own ≡ None → met_at made (option_or own within) ≡ (list_all (is_met set) (round_at (rounds_of d) within) && true)
  plain-on within own none =
      ap (λ o. met_at made (option_or o within)) none ∙ (round-on within ∙ sym (and-true (list_all (is_met set) (round_at (rounds_of d) within))))

  -- what is made of the condition of a line
  line-on : (within own : Option CondId) (kind : LineKind) → IsOwn d within kind own
      → met_at made (option_or own within) ≡ (list_all (is_met set) (round_at (rounds_of d) within) && stands_by_itself set kind)
  line-on within own (OneLine negated any names from to) is =
      let here = is.1 in
      let whole = list_all (is_met set) in
      ap (λ o. met_at made (option_or o within)) is.2
      ∙ (own-on is.0 here is.3
      ∙ (ap (λ w. whole (round_at (rounds_of d) w) && is_met set (condition_of d.names here)) is.4
      ∙ ap (λ (c : Condition). whole (round_at (rounds_of d) within) && is_met set c) is.5))
  line-on within own Plain is = plain-on within own is
  line-on within own Comment is = plain-on within own is
  line-on within own Other is = plain-on within own is
  line-on within own (Begin negated any names) is = plain-on within own is
  line-on within own (Close any names) is = plain-on within own is
  line-on within own (Chapter file) is = plain-on within own is
  line-on within own (Api name) is = plain-on within own is
  line-on within own (Validity name) is = plain-on within own is
  line-on within own (Refpage name) is = plain-on within own is

-- what is made of all conditions tells of each line
pub keeps-lines : (text : List ℕ) (d : Document) (set : List (List ℕ)) (is_set : NameId → Bool) → IsLoaded text d → TellsNames set d is_set → KeepsLines set text d (met_from (meets_by is_set) [] d.conds)
keeps-lines text d set is_set loaded tells = λ k e below.
    let line = get_or d.lines k e in
    let alike : All (λ c. meets_by is_set c ≡ is_met set (condition_of d.names c)) d.conds = λ place c within.
    meets-alike set d is_set tells (get_or d.conds place c) (loaded.conds place (get_or d.conds place c) (slice_get-get_or d.conds place c within)).each in
    line-on d set (meets_by is_set) alike (λ place here held. (loaded.conds place here held).within) line.within line.own line.kind (loaded.lines k e below).own
