-- Lists that grow along the forms of a registry.
use Rattle.std.proofs.Common.{◌≡◌, ℕ, zero, suc, ◌+◌, ◌-◌, ◌<◌, ◌≤◌, Bool, true, false, not, ◌&&◌, ◌||◌, cond, eqb, List, [], ◌∷◌, ◌++◌, length, map, take, set, get_or, Option, Some, None, option_map, slice_get, inl, inr, refl, sym, ap, subst, ◌∙◌, arith, append-nil}
use Rattle.std.specs.List.{All, filter, filter_map, list_any, position}
use Rattle.std.specs.Option.{option_and_then, option_map_or}
use Rattle.std.specs.Str.{bytes_eq}
use Rattle.std.proofs.Math.Bool.{and-true, or-false}
use Rattle.std.proofs.Math.Dec.{eqb-suc-zero, eqb-zero-suc}
use Rattle.std.proofs.lemmas.Bool.Decides.{nat_tests}
use Rattle.std.proofs.lemmas.Bool.{cases_Bool, cases_eq, cond-true, cond-false, eq-eqb, ne_eqb, and_right, or_right}
use Rattle.std.proofs.lemmas.List.{get_or-set_other, get_or-set_same, length-map, length_push, map-append, map-set, map_more, map_push, take_more}
use Rattle.std.proofs.lemmas.List.Elements.{All-cons, All-filter, All-head, All-map, All-nil, All-tail, filter-append, filter_map-append}
use Rattle.std.proofs.lemmas.List.Folds.{list_any-append, list_any_more}
use Rattle.std.proofs.lemmas.Option.{slice_get-get_or, slice_get-map, slice_get_within}
use Rattle.vkb_formula.specs.Names.{AreDifferent, place_of}
use Rattle.vkb_formula.specs.declared.name_table.NameId.{NameId}
use Rattle.reg_registry.specs.Rows.{id_at}
use Rattle.reg_registry.specs.declared.registry.Enumerant.{Enumerant}
use Rattle.reg_forms.specs.Declarations.{is_enum_row}
use Rattle.reg_forms.specs.Sizes.{NeverFall}
use Rattle.reg_forms.specs.declared.forms.Declaration.{Declaration}
use Rattle.reg_forms.specs.declared.forms.EntryForm.{EntryForm}
use Rattle.reg_forms.specs.declared.forms.EnumForm.{EnumForm}
use Rattle.reg_forms.specs.declared.forms.Forms.{Forms}
use Rattle.reg_forms.specs.declared.forms.Mention.{Mention}
use Rattle.reg_forms.specs.declared.forms.Sort.TheVariants as sort
use Rattle.reg_tables.specs.Lists.{firsts, is_among}
use Rattle.reg_tables.specs.Tables.{is_sort}
use Rattle.reg_rows.specs.Built.{IsFirstRow}
use Rattle.reg_rows.specs.Listing.{AreByType, AreListed, AreLists, AreMarked, enum_place, is_end, places_besides, value_place, values_among}
use Rattle.reg_rows.specs.Lists.{each_number}
use Rattle.reg_rows.specs.Rows.{blocks_with, declared_in, enumerant_row, lists_value, names_in}
use Rattle.reg_rows.proofs.FirstRowsLemmas.{different-placed, firsts-find, firsts-push, place-is}
use Rattle.reg_rows.proofs.PlaceLemmas.{place_of-within, position-names, slice_get-seam}

abbrev is : ℕ → ℕ → Bool
is n other = eqb other n

other_way : (m n : ℕ) → eqb m n ≡ eqb n m
other_way m n =
    elim (cases_eq m n) [
      | inl same ↦ eq-eqb m n same ∙ sym (eq-eqb n m (sym same))
      | inr differ ↦ ne_eqb m n differ ∙ sym (ne_eqb n m (λ same. differ (sym same)))
    ]

any-push : (ns : List ℕ) (n other : ℕ) → list_any (is other) (ns ++ n ∷ []) ≡ (list_any (is other) ns || eqb n other)
any-push ns n other = list_any-append (is other) ns (n ∷ []) ∙ ap (λ b. list_any (is other) ns || b) (or-false (eqb n other))

without : (m n : ℕ) (b : Bool) → filter (λ other. not (eqb other m)) (cond b [] (n ∷ [])) ≡ cond (eqb m n || b) [] (n ∷ [])
without m n b =
    elim (cases_Bool b) [
      | inl known ↦ rw (known, or_right (eqb m n) true refl) refl
      | inr new ↦
          elim (cases_Bool (eqb n m)) [
            | inl same ↦ rw (new, other_way m n, same) refl
            | inr differs ↦ rw (new, other_way m n, differs) refl
          ]
    ]

-- one more number is put last
pub each-push : (ns : List ℕ) (n : ℕ) → each_number (ns ++ n ∷ []) ≡ each_number ns ++ cond (list_any (λ other. eqb other n) ns) [] (n ∷ [])
each-push [] n = refl
each-push (m ∷ ms) n =
    ap (λ (more : List ℕ). m ∷ filter (λ other. not (eqb other m)) more) (each-push ms n)
    ∙ ap (λ (more : List ℕ). m ∷ more) (filter-append (λ other. not (eqb other m)) (each_number ms) (cond (list_any (is n) ms) [] (n ∷ [])))
    ∙ ap (λ (more : List ℕ). m ∷ (filter (λ other. not (eqb other m)) (each_number ms) ++ more)) (without m n (list_any (is n) ms))

module _ (round p : ℕ) (so_far marks : List ℕ) (ids : List NameId) (before : AreMarked round so_far marks ids) where
  -- a place that wasn't marked in this round is
  pub mark-new : p < length marks → (get_or marks p 0 ≡ round → ⊥) → AreMarked round (so_far ++ p ∷ []) (set marks p round) (ids ++ id_at p ∷ [])
  mark-new within new = record {
    none_later = λ place.
        elim (cases_eq p place) [
          | inl same ↦ let here = ap (λ n. get_or (set marks p round) n 0) (sym same) ∙ get_or-set_same marks p round 0 within in omega arith
          | inr differ ↦ let there = get_or-set_other marks p place round 0 (λ e. differ (sym e)) in let old = before.none_later place in omega arith
        ];
    marked = λ place.
        elim (cases_eq p place) [
          | inl same ↦
              let here = ap (λ n. get_or (set marks p round) n 0) (sym same) ∙ get_or-set_same marks p round 0 within in
              eq-eqb (get_or (set marks p round) place 0) round here ∙ sym (any-push so_far p place ∙ or_right (list_any (is place) so_far) (eqb p place) (eq-eqb p place same))
          | inr differ ↦
              let there = get_or-set_other marks p place round 0 (λ e. differ (sym e)) in
              ap (λ n. eqb n round) there ∙ before.marked place ∙ sym (any-push so_far p place ∙ ap (λ b. list_any (is place) so_far || b) (ne_eqb p place differ) ∙ or-false (list_any (is place) so_far))
        ];
    ids_are =
        ap (λ (front : List NameId). front ++ id_at p ∷ []) before.ids_are ∙ sym (map_push id_at (each_number so_far) p)
        ∙ ap (map id_at) (sym (each-push so_far p ∙ ap (λ b. each_number so_far ++ cond b [] (p ∷ [])) (sym (before.marked p) ∙ ne_eqb (get_or marks p 0) round new)));
  }

  pub mark-known : get_or marks p 0 ≡ round → AreMarked round (so_far ++ p ∷ []) marks ids
  mark-known known =
      let among : list_any (is p) so_far ≡ true = sym (before.marked p) ∙ eq-eqb (get_or marks p 0) round known in
      record {
        none_later = before.none_later;
        marked = λ place.
            before.marked place
            ∙ elim (cases_eq p place) [
              | inl same ↦
                  let there : list_any (is place) so_far ≡ true = subst (λ (n : ℕ). list_any (is n) so_far ≡ true) same among in
                  there ∙ sym (any-push so_far p place ∙ or_right (list_any (is place) so_far) (eqb p place) (eq-eqb p place same))
              | inr differ ↦ sym (any-push so_far p place ∙ ap (λ b. list_any (is place) so_far || b) (ne_eqb p place differ) ∙ or-false (list_any (is place) so_far))
            ];
        ids_are =
            before.ids_are
            ∙ ap (map id_at) (sym (each-push so_far p ∙ ap (λ b. each_number so_far ++ cond b [] (p ∷ [])) among ∙ append-nil (each_number so_far)));
      }

-- names one behind another
pub besides-append : (names : List (List ℕ)) (own : List ℕ) (a b : List (List ℕ)) → places_besides names own (a ++ b) ≡ places_besides names own a ++ places_besides names own b
besides-append names own a b =
    ap (filter_map (λ name. place_of name names)) (filter-append (λ name. not (bytes_eq own name)) a b)
    ∙ filter_map-append (λ name. place_of name names) (filter (λ name. not (bytes_eq own name)) a) (filter (λ name. not (bytes_eq own name)) b)

-- one name that is another than its own, and declared
pub besides-one : (names : List (List ℕ)) (own name : List ℕ) (p : ℕ) → bytes_eq own name ≡ false → place_of name names ≡ Some p → places_besides names own (name ∷ []) ≡ p ∷ []
besides-one names own name p differs placed = rw (differs, placed) refl

-- one mention more
pub besides-more : (names : List (List ℕ)) (own : List ℕ) (mentions : List Mention) (i : ℕ) (m : Mention) → i < length mentions → m ≡ get_or mentions i m → places_besides names own (map (λ m. m.name) (take i mentions)) ++ places_besides names own (m.name ∷ []) ≡ places_besides names own (map (λ m. m.name) (take (i + 1) mentions))
besides-more names own mentions i m h here =
    ap (λ (n : Mention). places_besides names own (map (λ m. m.name) (take i mentions)) ++ places_besides names own (n.name ∷ [])) here
    ∙ sym (besides-append names own (map (λ m. m.name) (take i mentions)) ((get_or mentions i m).name ∷ []))
    ∙ ap (places_besides names own) (sym (map_more (λ m. m.name) mentions i m h))

-- what one thing more adds
pub filter_map-more : {X Y : Type 0} (h : X → Option Y) (xs : List X) (i : ℕ) (x : X) → i < length xs → x ≡ get_or xs i x → filter_map h (take (i + 1) xs) ≡ filter_map h (take i xs) ++ filter_map h (x ∷ [])
filter_map-more h xs i x within here =
    ap (filter_map h) (take_more xs i x within) ∙ filter_map-append h (take i xs) (get_or xs i x ∷ [])
    ∙ ap (λ y. filter_map h (take i xs) ++ filter_map h (y ∷ [])) (sym here)

-- what lists are where one of them was changed
pub changed-at : {A B : Type 0} (f : A → List B) (g : List B → List B) (lists : List A) (k p : ℕ) (list : A) → k < length lists → f list ≡ g (get_or (map f lists) k []) → get_or (map f (set lists k list)) p [] ≡ cond (eqb k p) (g (get_or (map f lists) p [])) (get_or (map f lists) p [])
changed-at f g lists k p list within made =
    ap (λ xs. get_or xs p []) (map-set f lists k list)
    ∙ elim (cases_eq k p) [
      | inl same ↦
          ap (λ n. get_or (set (map f lists) k (f list)) n []) (sym same)
          ∙ get_or-set_same (map f lists) k (f list) [] (omega (arith, length-map lists f))
          ∙ made ∙ ap (λ n. g (get_or (map f lists) n [])) same
          ∙ sym (cond-true (eqb k p) (g (get_or (map f lists) p [])) (get_or (map f lists) p []) (eq-eqb k p same))
      | inr differ ↦
          get_or-set_other (map f lists) k p (f list) [] (λ e. differ (sym e))
          ∙ sym (cond-false (eqb k p) (g (get_or (map f lists) p [])) (get_or (map f lists) p []) (ne_eqb k p differ))
    ]

-- an enumerant's first row and the places of names among the rows
pub first-row-is : (f : Forms) (p : ℕ) (e : EnumForm) → IsFirstRow f p e → (name : List ℕ) (o : Option ℕ) → o ≡ position (λ other. bytes_eq name other.name) f.enumerants → option_map_or (λ at. eqb at p) o false ≡ bytes_eq e.name name
first-row-is f p e first name o found =
    ap (λ (o : Option ℕ). option_map_or (λ at. eqb at p) o false) (found ∙ position-names (λ other. other.name) name f.enumerants)
    ∙ place-is (map (λ other. other.name) f.enumerants) e.name p (sym (position-names (λ other. other.name) e.name f.enumerants) ∙ first.1) name

by_tests : (s k : Bool) (o : Option ℕ) (p : ℕ) (same : Bool) → option_map_or (λ at. eqb at p) o false ≡ same → option_map_or (λ at. eqb at p) (cond (s && k) o None) false ≡ (s && same && k)
by_tests true true None p same e = e ∙ sym (and-true same)
by_tests true true (Some q) p same e = e ∙ sym (and-true same)
by_tests true false o p same e = sym (and_right same false refl)
by_tests false k o p same e = refl

-- an entry lists the enumerant at whose first row it is found
pub value-is : (f : Forms) (adds : Bool) (entry : EntryForm) (p : ℕ) (e : EnumForm) → IsFirstRow f p e → option_map_or (λ at. eqb at p) (value_place f adds entry) false ≡ lists_value f adds e.name entry
value-is f adds entry p e first =
    by_tests (is_sort sort.Value entry.mention.sort) (option_map_or (λ block. cond adds block.adds (not block.adds)) (slice_get f.blocks entry.block) false) (position (λ other. bytes_eq entry.mention.name other.name) f.enumerants) p (bytes_eq e.name entry.mention.name)
    (first-row-is f p e first entry.mention.name (position (λ other. bytes_eq entry.mention.name other.name) f.enumerants) refl)

pub within_by : (b : Bool) (o : Option ℕ) (k n : ℕ) → Some k ≡ cond b o None → ((j : ℕ) → o ≡ Some j → j < n) → k < n
within_by true o k n e h = h k (sym e)
within_by false o k n e h = absurd (cc)

pub value-within : (f : Forms) (adds : Bool) (entry : EntryForm) (k : ℕ) → Some k ≡ value_place f adds entry → k < length f.enumerants
value-within f adds entry k e =
    within_by _ (position (λ other. bytes_eq entry.mention.name other.name) f.enumerants) k (length f.enumerants) e
    (λ j found. omega (arith, place_of-within entry.mention.name (map (λ other. other.name) f.enumerants) j (sym (position-names (λ other. other.name) entry.mention.name f.enumerants) ∙ found), length-map f.enumerants (λ other. other.name)))

module _ {X : Type 0} (number : X → ℕ) where
  least-below : (xs : List X) (least i : ℕ) (x : X) → NeverFall least (map number xs) → slice_get xs i ≡ Some x → least ≤ number x
  least-below [] least i x rise e = absurd (cc)
  least-below (y ∷ ys) least zero x rise e =
      let same : y ≡ x = cc in
      let one = ap number same in
      omega (arith, rise.0)
  least-below (y ∷ ys) least (suc i) x rise e = omega (arith, rise.0, least-below ys (number y) i x rise.1 e)

  -- numbers before one are no greater
  pub none-before : (xs : List X) (least i : ℕ) (x : X) → NeverFall least (map number xs) → slice_get xs i ≡ Some x → All (λ y. number y ≤ number x) (take i xs)
  none-before [] least i x rise e = absurd (cc)
  none-before (y ∷ ys) least zero x rise e = All-nil (λ y. number y ≤ number x)
  none-before (y ∷ ys) least (suc i) x rise e =
      All-cons (λ z. number z ≤ number x) y (take i ys) (least-below ys (number y) i x rise.1 e) (none-before ys (number y) i x rise.1 e)

none-beyond : (ns : List ℕ) (n above : ℕ) → All (λ other. other ≤ n) ns → n < above → list_any (is above) ns ≡ false
none-beyond [] n above all h = refl
none-beyond (m ∷ ms) n above all h =
    let small = All-head (λ other. other ≤ n) m ms all in
    rw (ne_eqb m above (λ e. absurd (omega arith))) (none-beyond ms n above (All-tail (λ other. other ≤ n) m ms all) h)

end-pushed : (list : List ℕ) (n m : ℕ) → is_end (list ++ n ∷ []) m ≡ eqb n m
end-pushed list n m =
    let last : length (list ++ n ∷ []) - 1 ≡ length list = omega (arith, length_push list n) in
    rw (last, slice_get-seam list n) refl

front_of : (ns : List ℕ) (n m : ℕ) → All (λ other. other ≤ m) (ns ++ n ∷ []) → All (λ other. other ≤ m) ns
front_of [] n m every = All-nil (λ other. other ≤ m)
front_of (k ∷ ks) n m every =
    All-cons (λ other. other ≤ m) k ks (All-head (λ other. other ≤ m) k (ks ++ n ∷ []) every) (front_of ks n m (All-tail (λ other. other ≤ m) k (ks ++ n ∷ []) every))

every_last : (ns : List ℕ) (n m : ℕ) → All (λ other. other ≤ m) (ns ++ n ∷ []) → n ≤ m
every_last [] n m every = All-head (λ other. other ≤ m) n [] every
every_last (k ∷ ks) n m every = every_last ks n m (All-tail (λ other. other ≤ m) k (ks ++ n ∷ []) every)

-- a number is put behind a list that it doesn't end, where none before is greater
pub listed-push : (so_far list : List ℕ) (n : ℕ) → AreListed so_far list → All (λ other. other ≤ n) so_far → AreListed (so_far ++ n ∷ []) (cond (is_end list n) list (list ++ n ∷ []))
listed-push so_far list n before all =
    elim (cases_Bool (is_end list n)) [
      | inl ended ↦
          rw ended (record {
            are = before.are ∙ sym (each-push so_far n ∙ ap (λ b. each_number so_far ++ cond b [] (n ∷ [])) (before.ends n all ∙ ended) ∙ append-nil (each_number so_far));
            ends = λ m every.
                any-push so_far n m ∙ ap (λ b. b || eqb n m) (before.ends m (front_of so_far n m every))
                ∙ elim (cases_eq n m) [
                  | inl same ↦ let there : is_end list m ≡ true = subst (λ (k : ℕ). is_end list k ≡ true) same ended in rw there refl
                  | inr differ ↦ rw (ne_eqb n m differ) (or-false (is_end list m))
                ];
          })
      | inr open_ended ↦
          rw open_ended (record {
            are =
                ap (λ (front : List ℕ). front ++ n ∷ []) before.are
                ∙ sym (each-push so_far n ∙ ap (λ b. each_number so_far ++ cond b [] (n ∷ [])) (before.ends n all ∙ open_ended));
            ends = λ m every.
                any-push so_far n m
                ∙ elim (cases_eq n m) [
                  | inl same ↦ or_right (list_any (is m) so_far) (eqb n m) (eq-eqb n m same) ∙ sym (end-pushed list n m ∙ eq-eqb n m same)
                  | inr differ ↦
                      let last : n ≤ m = every_last so_far n m every in
                      let above : n < m = omega arith in
                      rw (none-beyond so_far n m all above) (sym (end-pushed list n m))
                ];
          })
    ]

mapped : (entry : EntryForm) (listed : Bool) → map (λ e. e.block) (cond listed (entry ∷ []) []) ≡ cond listed (entry.block ∷ []) []
mapped entry true = refl
mapped entry false = refl

-- the blocks that list a value, with one entry more
blocks-push : (f : Forms) (adds : Bool) (name : List ℕ) (so_far : List EntryForm) (entry : EntryForm) (listed : Bool) → lists_value f adds name entry ≡ listed → map (λ e. e.block) (filter (lists_value f adds name) (so_far ++ entry ∷ [])) ≡ map (λ e. e.block) (filter (lists_value f adds name) so_far) ++ cond listed (entry.block ∷ []) []
blocks-push f adds name so_far entry listed e =
    ap (map (λ e. e.block)) (filter-append (lists_value f adds name) so_far (entry ∷ []) ∙ ap (λ b. filter (lists_value f adds name) so_far ++ cond b (entry ∷ []) []) e)
    ∙ map-append (λ e. e.block) (filter (lists_value f adds name) so_far) (cond listed (entry ∷ []) [])
    ∙ ap (λ more. map (λ e. e.block) (filter (lists_value f adds name) so_far) ++ more) (mapped entry listed)

-- what a list of blocks is with one entry more
listed-more : (f : Forms) (adds : Bool) (name : List ℕ) (so_far : List EntryForm) (entry : EntryForm) (list : List ℕ) → AreListed (map (λ e. e.block) (filter (lists_value f adds name) so_far)) list → All (λ e. e.block ≤ entry.block) so_far → (listed : Bool) → lists_value f adds name entry ≡ listed → AreListed (map (λ e. e.block) (filter (lists_value f adds name) (so_far ++ entry ∷ []))) (cond listed (cond (is_end list entry.block) list (list ++ entry.block ∷ [])) list)
listed-more f adds name so_far entry list before all true e =
    rw (blocks-push f adds name so_far entry true e) (listed-push (map (λ e. e.block) (filter (lists_value f adds name) so_far)) list entry.block before
    (All-map (λ n. n ≤ entry.block) (λ e. e.block) (filter (lists_value f adds name) so_far) (All-filter (lists_value f adds name) (λ e. e.block ≤ entry.block) so_far all)))
listed-more f adds name so_far entry list before all false e =
    rw (blocks-push f adds name so_far entry false e, append-nil (map (λ e. e.block) (filter (lists_value f adds name) so_far))) before

-- the lists of blocks with one entry more
pub lists-more : (f : Forms) (adds : Bool) (so_far : List EntryForm) (entry : EntryForm) (lists after : List (List ℕ)) → AreLists f adds so_far lists → All (λ e. e.block ≤ entry.block) so_far → (o : Option ℕ) → o ≡ value_place f adds entry → length after ≡ length lists → ((p : ℕ) → get_or after p [] ≡ cond (option_map_or (λ at. eqb at p) o false) (cond (is_end (get_or lists p []) entry.block) (get_or lists p []) (get_or lists p [] ++ entry.block ∷ [])) (get_or lists p [])) → AreLists f adds (so_far ++ entry ∷ []) after
lists-more f adds so_far entry lists after before all o found count made = record {
  one_each = count ∙ before.one_each;
  each = λ p e first.
      let listed : lists_value f adds e.name entry ≡ option_map_or (λ at. eqb at p) o false =
      sym (ap (λ (o : Option ℕ). option_map_or (λ at. eqb at p) o false) found ∙ value-is f adds entry p e first) in
      subst (AreListed (map (λ e. e.block) (filter (lists_value f adds e.name) (so_far ++ entry ∷ [])))) (sym (made p))
      (listed-more f adds e.name so_far entry (get_or lists p []) (before.each p e first) all (option_map_or (λ at. eqb at p) o false) listed);
}

tested : (f : Forms) (e : EnumForm) (passes : Bool) (values : List Enumerant) → values ++ map (enumerant_row f) (cond passes (e ∷ []) []) ≡ cond passes (values ++ enumerant_row f e ∷ []) values
tested f e true values = refl
tested f e false values = append-nil values

pushed : (f : Forms) (test : EnumForm → Bool) (e : EnumForm) (front : List EnumForm) (enum among : Bool) → cond enum (map (enumerant_row f) (filter test (front ++ cond among [] (e ∷ [])))) [] ≡ cond (not among && (enum && test e)) (cond enum (map (enumerant_row f) (filter test front)) [] ++ enumerant_row f e ∷ []) (cond enum (map (enumerant_row f) (filter test front)) [])
pushed f test e front false true = refl
pushed f test e front false false = refl
pushed f test e front true true = ap (λ (es : List EnumForm). map (enumerant_row f) (filter test es)) (append-nil front)
pushed f test e front true false =
    ap (map (enumerant_row f)) (filter-append test front (e ∷ [])) ∙ map-append (enumerant_row f) (filter test front) (filter test (e ∷ []))
    ∙ tested f e (test e) (map (enumerant_row f) (filter test front))

-- the values of a type with one row more
values-push : (f : Forms) (d : Declaration) (so_far : List EnumForm) (e : EnumForm) (among : Bool) → is_among (map (λ e. e.name) so_far) e.name ≡ among → values_among f d (so_far ++ e ∷ []) ≡ cond (not among && (is_enum_row d && bytes_eq d.name e.of)) (values_among f d so_far ++ enumerant_row f e ∷ []) (values_among f d so_far)
values-push f d so_far e among known =
    ap (λ (es : List EnumForm). cond (is_enum_row d) (map (enumerant_row f) (filter (λ e. bytes_eq d.name e.of) es)) []) (firsts-push (λ e. e.name) so_far e ∙ ap (λ b. firsts (λ e. e.name) so_far ++ cond b [] (e ∷ [])) known)
    ∙ pushed f (λ e. bytes_eq d.name e.of) e (firsts (λ e. e.name) so_far) (is_enum_row d) among

at_place : (enum same : Bool) (q p : ℕ) → eqb q p ≡ same → option_map_or (λ at. eqb at p) (cond enum (Some q) None) false ≡ (enum && same)
at_place true same q p e = e
at_place false same q p e = refl

elsewhere : (o : Option Declaration) (p q : ℕ) → eqb q p ≡ false → option_map_or (λ at. eqb at p) (option_and_then (λ other. cond (is_enum_row other) (Some q) None) o) false ≡ false
elsewhere None p q e = refl
elsewhere (Some other) p q e = at_place (is_enum_row other) false q p e ∙ and_right (is_enum_row other) false refl

found_at : (f : Forms) (d : Declaration) (p : ℕ) → slice_get (declared_in f) p ≡ Some d → (o : Option ℕ) (same : Bool) → option_map_or (λ at. eqb at p) o false ≡ same → option_map_or (λ at. eqb at p) (option_and_then (λ other. cond (is_enum_row other) o None) (option_and_then (slice_get (declared_in f)) o)) false ≡ (is_enum_row d && same)
found_at f d p there None same e = sym (ap (λ b. is_enum_row d && b) (sym e) ∙ and_right (is_enum_row d) false refl)
found_at f d p there (Some q) same e =
    elim (cases_eq q p) [
      | inl one ↦
          ap (λ (o : Option Declaration). option_map_or (λ at. eqb at p) (option_and_then (λ other. cond (is_enum_row other) (Some q) None) o) false) (ap (slice_get (declared_in f)) one ∙ there)
          ∙ at_place (is_enum_row d) (eqb q p) q p refl ∙ ap (λ b. is_enum_row d && b) e
      | inr differ ↦
          elsewhere (slice_get (declared_in f) q) p q (ne_eqb q p differ) ∙ sym (ap (λ b. is_enum_row d && b) (sym e ∙ ne_eqb q p differ) ∙ and_right (is_enum_row d) false refl)
    ]

-- an enum type is found at its place alone
enum-is : (f : Forms) → AreDifferent (names_in f) → (p : ℕ) (d : Declaration) → slice_get (declared_in f) p ≡ Some d → (of : List ℕ) → option_map_or (λ at. eqb at p) (enum_place f (names_in f) of) false ≡ (is_enum_row d && bytes_eq d.name of)
enum-is f differ p d there of =
    let named : slice_get (names_in f) p ≡ Some d.name = slice_get-map (λ d. d.name) (declared_in f) p ∙ ap (option_map (λ d. d.name)) there in
    ap (λ (o : Option Declaration). option_map_or (λ at. eqb at p) (option_and_then (λ other. cond (is_enum_row other) (place_of of (names_in f)) None) o) false) (firsts-find (λ d. d.name) of f.declarations)
    ∙ found_at f d p there (place_of of (names_in f)) (bytes_eq d.name of) (place-is (names_in f) d.name p (different-placed (names_in f) differ d.name p named) of)

-- a row whose name stood before adds no value
pub by_type-known : (f : Forms) (from : ℕ) (so_far : List EnumForm) (e : EnumForm) (by_type : List (List Enumerant)) → AreByType f from so_far by_type → is_among (map (λ e. e.name) so_far) e.name ≡ true → AreByType f from (so_far ++ e ∷ []) by_type
by_type-known f from so_far e by_type before known = record {
  one_each = before.one_each;
  each = λ p d behind there. before.each p d behind there ∙ sym (values-push f d so_far e true known);
}

-- the first row of a name adds a value to its type
pub by_type-more : (f : Forms) (from : ℕ) (so_far : List EnumForm) (e : EnumForm) (by_type after : List (List Enumerant)) → AreDifferent (names_in f) → AreByType f from so_far by_type → is_among (map (λ e. e.name) so_far) e.name ≡ false → (o : Option ℕ) → o ≡ enum_place f (names_in f) e.of → length after ≡ length by_type → ((p : ℕ) → get_or after p [] ≡ cond (option_map_or (λ at. eqb at p) o false) (get_or by_type p [] ++ enumerant_row f e ∷ []) (get_or by_type p [])) → AreByType f from (so_far ++ e ∷ []) after
by_type-more f from so_far e by_type after differ before new o found count made = record {
  one_each = count ∙ before.one_each;
  each = λ p d behind there.
      made p
      ∙ ap (λ b. cond b (get_or by_type p [] ++ enumerant_row f e ∷ []) (get_or by_type p [])) (ap (λ (o : Option ℕ). option_map_or (λ at. eqb at p) o false) found ∙ enum-is f differ p d there e.of)
      ∙ ap (λ (values : List Enumerant). cond (is_enum_row d && bytes_eq d.name e.of) (values ++ enumerant_row f e ∷ []) values) (before.each p d behind there)
      ∙ sym (values-push f d so_far e false new);
}

next_eqb : (k p : ℕ) → eqb k p ≡ eqb (suc k) (suc p)
next_eqb k p = grind (arith, nat_tests)

-- what a mark is where one was set
marked-at : (marks : List Bool) (k p : ℕ) (b : Bool) → slice_get marks p ≡ Some b → slice_get (set marks k true) p ≡ Some (b || eqb k p)
marked-at [] k p b e = absurd (cc)
marked-at (m ∷ marks) zero zero b e = ap Some (sym (or_right b true refl))
marked-at (m ∷ marks) zero (suc p) b e = e ∙ ap Some (sym (or-false b) ∙ ap (λ same. b || same) (sym (eqb-zero-suc p)))
marked-at (m ∷ marks) (suc k) zero b e = e ∙ ap Some (sym (or-false b) ∙ ap (λ same. b || same) (sym (eqb-suc-zero k)))
marked-at (m ∷ marks) (suc k) (suc p) b e = marked-at marks k p b e ∙ ap (λ same. Some (b || same)) (next_eqb k p)

abbrev pub is_always : List ℕ → EnumForm → Bool
is_always name other = other.base && bytes_eq name other.name

module _ (f : Forms) (rows : List EnumForm) (i : ℕ) (row : EnumForm) (within : i < length rows) (here : row ≡ get_or rows i row) (p : ℕ) (e : EnumForm) (first : IsFirstRow f p e) where
  always_more : (base same : Bool) → row.base ≡ base → bytes_eq e.name row.name ≡ same → list_any (is_always e.name) (take (i + 1) rows) ≡ (list_any (is_always e.name) (take i rows) || (base && same))
  always_more base same b s =
      list_any_more (is_always e.name) rows i row within
      ∙ ap (λ other. list_any (is_always e.name) (take i rows) || is_always e.name other) (sym here)
      ∙ ap (λ base. list_any (is_always e.name) (take i rows) || (base && bytes_eq e.name row.name)) b
      ∙ ap (λ same. list_any (is_always e.name) (take i rows) || (base && same)) s

  -- a row in the block of its type
  pub always-set : (always : List Bool) (k : ℕ) → slice_get always p ≡ Some (list_any (is_always e.name) (take i rows)) → row.base ≡ true → Some k ≡ position (λ other. bytes_eq row.name other.name) f.enumerants → slice_get (set always k true) p ≡ Some (list_any (is_always e.name) (take (i + 1) rows))
  always-set always k before base found =
      marked-at always k p (list_any (is_always e.name) (take i rows)) before
      ∙ ap Some (sym (always_more true (eqb k p) base (sym (first-row-is f p e first row.name (Some k) found))))

  -- a row of another enumerant, or elsewhere
  pub always-kept : (always : List Bool) → slice_get always p ≡ Some (list_any (is_always e.name) (take i rows)) → (base : Bool) → row.base ≡ base → (base ≡ true → None ≡ position (λ other. bytes_eq row.name other.name) f.enumerants) → slice_get always p ≡ Some (list_any (is_always e.name) (take (i + 1) rows))
  always-kept always before false base none =
      before ∙ ap Some (sym (always_more false (bytes_eq e.name row.name) base refl ∙ or-false (list_any (is_always e.name) (take i rows))))
  always-kept always before true base none =
      before ∙ ap Some (sym (always_more true false base (sym (first-row-is f p e first row.name None (none refl))) ∙ or-false (list_any (is_always e.name) (take i rows))))

-- the blocks that list an enumerant, once all entries were gone through
pub lists-found : {A : Type 0} (items : A → List ℕ) (f : Forms) (adds : Bool) (lists : List A) → AreLists f adds f.entries (map items lists) → (p : ℕ) (e : EnumForm) → IsFirstRow f p e → option_map items (slice_get lists p) ≡ Some (blocks_with f adds e.name)
lists-found items f adds lists are p e first =
    let within : p < length (map items lists) = omega (arith, are.one_each, slice_get_within f.enumerants p e first.0) in
    sym (slice_get-map items lists p) ∙ slice_get-get_or (map items lists) p [] within ∙ ap Some (are.each p e first).are
