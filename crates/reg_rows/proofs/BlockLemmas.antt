-- The names that each block lists, each once, while entries are gone through in the order of their blocks.
use Rattle.std.proofs.Common.{◌≡◌, ℕ, ◌+◌, ◌<◌, ◌≤◌, Bool, true, false, not, ◌==◌, ◌||◌, cond, List, [], ◌∷◌, ◌++◌, filter, get_or, length, map, replicate, set, take, drop, Option, Some, None, refl, sym, ap, subst, ◌∙◌, arith, append-nil}
use Rattle.std.specs.List.{All, cons_option, filter_map, list_any}
use Rattle.std.specs.Option.{option_map_or, option_or}
use Rattle.std.proofs.lemmas.Bool.{eq-eqb, eqb-false, eqb-true}
use Rattle.std.proofs.lemmas.List.{drop_more, get_or-replicate, get_or-set_other, get_or-set_same, length-replicate, length-set, map-append, take-append-drop, take_more}
use Rattle.std.proofs.lemmas.List.Elements.{All-get_or, filter-append, filter_map-append}
use Rattle.vkb_formula.specs.Names.{place_of}
use Rattle.vkb_formula.specs.declared.name_table.NameId.{NameId}
use Rattle.reg_registry.specs.Rows.{id_at}
use Rattle.reg_forms.specs.Sizes.{NeverFall}
use Rattle.reg_forms.specs.declared.forms.EntryForm.{EntryForm}
use Rattle.reg_rows.specs.BuiltParts.{is_mark}
use Rattle.reg_rows.specs.Lists.{each_number}
use Rattle.reg_rows.proofs.PlaceLemmas.{place_of-within}

each_by : (same any : Bool) (m n : ℕ) (more : List ℕ) → (n == m) ≡ same → m ∷ filter (λ other. not (other == m)) (cond any more (more ++ n ∷ [])) ≡ cond (same || any) (m ∷ filter (λ other. not (other == m)) more) ((m ∷ filter (λ other. not (other == m)) more) ++ n ∷ [])
each_by true true m n more e = refl
each_by true false m n more e =
    ap (λ ns. m ∷ ns) (filter-append (λ other. not (other == m)) more (n ∷ []) ∙ ap (λ b. filter (λ other. not (other == m)) more ++ cond (not b) (n ∷ []) []) e ∙ append-nil (filter (λ other. not (other == m)) more))
each_by false true m n more e = refl
each_by false false m n more e =
    ap (λ ns. m ∷ ns) (filter-append (λ other. not (other == m)) more (n ∷ []) ∙ ap (λ b. filter (λ other. not (other == m)) more ++ cond (not b) (n ∷ []) []) e)

-- numbers, each where it stands first, with one more
pub each_number-push : (ns : List ℕ) (n : ℕ) → each_number (ns ++ n ∷ []) ≡ cond (list_any (λ other. n == other) ns) (each_number ns) (each_number ns ++ n ∷ [])
each_number-push [] n = refl
each_number-push (m ∷ ns) n =
    ap (λ more. m ∷ filter (λ other. not (other == m)) more) (each_number-push ns n)
    ∙ each_by (n == m) (list_any (λ other. n == other) ns) m n (each_number ns) refl

-- the places of the names that a block lists among these entries
abbrev pub listed_in : List (List ℕ) → ℕ → List EntryForm → List ℕ
listed_in names place entries = filter_map (λ entry. place_of entry.mention.name names) (filter (λ entry. entry.block == place) entries)

-- the block of the last of these entries that has the name at a place
abbrev pub last_by : List (List ℕ) → ℕ → List EntryForm → Option ℕ
last_by names id [] = None
last_by names id (entry ∷ more) =
    option_or (last_by names id more) (cond (option_map_or (λ other. id == other) (place_of entry.mention.name names) false) (Some entry.block) None)

listed-append : (names : List (List ℕ)) (place : ℕ) (entries : List EntryForm) (entry : EntryForm) → listed_in names place (entries ++ entry ∷ []) ≡ listed_in names place entries ++ listed_in names place (entry ∷ [])
listed-append names place entries entry =
    ap (filter_map (λ e. place_of e.mention.name names)) (filter-append (λ e. e.block == place) entries (entry ∷ []))
    ∙ filter_map-append (λ e. place_of e.mention.name names) (filter (λ e. e.block == place) entries) (filter (λ e. e.block == place) (entry ∷ []))

or_assoc : {A : Type 0} (o p q : Option A) → option_or (option_or o p) q ≡ option_or o (option_or p q)
or_assoc None p q = refl
or_assoc (Some x) p q = refl

or_none : {A : Type 0} (o : Option A) → o ≡ option_or o None
or_none None = refl
or_none (Some x) = refl

last-append : (names : List (List ℕ)) (id : ℕ) (entries : List EntryForm) (entry : EntryForm) → last_by names id (entries ++ entry ∷ []) ≡ option_or (last_by names id (entry ∷ [])) (last_by names id entries)
last-append names id [] entry = or_none (last_by names id (entry ∷ []))
last-append names id (first ∷ more) entry =
    ap (λ o. option_or o (cond (option_map_or (λ other. id == other) (place_of first.mention.name names) false) (Some first.block) None)) (last-append names id more entry)
    ∙ or_assoc (last_by names id (entry ∷ [])) (last_by names id more) (cond (option_map_or (λ other. id == other) (place_of first.mention.name names) false) (Some first.block) None)

module _ (names : List (List ℕ)) (b : ℕ) (rest : List ℕ) where
  last_from : (o : Option ℕ) (named : Bool) (block least c : ℕ) → least ≤ block → block ≤ b → ((k : ℕ) → o ≡ Some k → (block ≤ k) × (k ≤ b)) → option_or o (cond named (Some block) None) ≡ Some c → (least ≤ c) × (c ≤ b)
  last_from (Some k) named block least c low high within e =
      let one : k ≡ c = cc in
      let both = within k refl in
      (omega arith, omega arith)
  last_from None true block least c low high within e = let one : block ≡ c = cc in (omega arith, omega arith)
  last_from None false block least c low high within e = absurd (cc)

  below : (entries : List EntryForm) (least : ℕ) → NeverFall least (map (λ e. e.block) entries ++ b ∷ rest) → least ≤ b
  below [] least rise = rise.0
  below (entry ∷ more) least rise = omega (arith, rise.0, below more entry.block rise.1)

  last_within : (id : ℕ) (entries : List EntryForm) (least c : ℕ) → NeverFall least (map (λ e. e.block) entries ++ b ∷ rest) → last_by names id entries ≡ Some c → (least ≤ c) × (c ≤ b)
  last_within id [] least c rise e = absurd (cc)
  last_within id (entry ∷ more) least c rise e =
      last_from (last_by names id more) (option_map_or (λ other. id == other) (place_of entry.mention.name names) false) entry.block least c rise.0 (below more entry.block rise.1)
      (λ k. last_within id more entry.block k rise.1) e

  unmarked : (named : Bool) (block : ℕ) → (block == b) ≡ false → is_mark b (cond named (Some block) None) ≡ false
  unmarked true block e = e
  unmarked false block e = refl

  marked : (named there : Bool) (block : ℕ) → (block == b) ≡ true → false ≡ there → is_mark b (cond named (Some block) None) ≡ (named || there)
  marked true there block e is = e
  marked false there block e is = is

  marked_before : (named there : Bool) (k : ℕ) → k ≡ b → (k == b) ≡ there → (k == b) ≡ (named || there)
  marked_before true there k e is = eq-eqb k b e
  marked_before false there k e is = is

  mark_by : (id block : ℕ) (here : Bool) (o found : Option ℕ) (more : List ℕ) → (block == b) ≡ here → ((k : ℕ) → o ≡ Some k → (block ≤ k) × (k ≤ b)) → is_mark b o ≡ list_any (λ other. id == other) more
      → is_mark b (option_or o (cond (option_map_or (λ other. id == other) found false) (Some block) None)) ≡ list_any (λ other. id == other) (cond here (cons_option found more) more)
  mark_by id block false (Some k) found more e within is = is
  mark_by id block false None found more e within is = unmarked (option_map_or (λ other. id == other) found false) block e ∙ is
  mark_by id block true (Some k) None more e within is = is
  mark_by id block true None None more e within is = is
  mark_by id block true (Some k) (Some f) more e within is =
      let both = within k refl in
      let here = eqb-true block b e in
      marked_before (id == f) (list_any (λ other. id == other) more) k (omega arith) is
  mark_by id block true None (Some f) more e within is = marked (id == f) (list_any (λ other. id == other) more) block e is

  listed_first : (here : Bool) (entry : EntryForm) (more : List EntryForm) → filter_map (λ e. place_of e.mention.name names) (cond here (entry ∷ more) more) ≡ cond here (cons_option (place_of entry.mention.name names) (filter_map (λ e. place_of e.mention.name names) more)) (filter_map (λ e. place_of e.mention.name names) more)
  listed_first true entry more = refl
  listed_first false entry more = refl

  -- a block listed a name last just where it has listed it
  pub mark-is : (id : ℕ) (entries : List EntryForm) (least : ℕ) → NeverFall least (map (λ e. e.block) entries ++ b ∷ rest) → is_mark b (last_by names id entries) ≡ list_any (λ other. id == other) (listed_in names b entries)
  mark-is id [] least rise = refl
  mark-is id (entry ∷ more) least rise =
      mark_by id entry.block (entry.block == b) (last_by names id more) (place_of entry.mention.name names) (listed_in names b more) refl (λ k. last_within id more entry.block k rise.1) (mark-is id more entry.block rise.1)
      ∙ ap (list_any (λ other. id == other)) (sym (listed_first (entry.block == b) entry (filter (λ e. e.block == b) more)))

-- What was listed and marked so far, for so many blocks and for the names of a table.
pub record IsListing (names : List (List ℕ)) (blocks : ℕ) (entries : List EntryForm) (lists : List (List NameId)) (listed_by : List (Option ℕ)) : Type 0 where
  pub each_block : length lists ≡ blocks
  pub lists_are : (place : ℕ) → place < blocks → get_or lists place [] ≡ map id_at (each_number (listed_in names place entries))
  pub each_name : length listed_by ≡ length names
  pub last_are : (id : ℕ) → id < length names → get_or listed_by id None ≡ last_by names id entries

module _ (names : List (List ℕ)) (blocks : ℕ) (entries : List EntryForm) (lists : List (List NameId)) (listed_by : List (Option ℕ)) (before : IsListing names blocks entries lists listed_by) (entry : EntryForm) where
  unnamed : (here : Bool) → place_of entry.mention.name names ≡ None → filter_map (λ e. place_of e.mention.name names) (cond here (entry ∷ []) []) ≡ []
  unnamed true none = ap (λ o. cons_option o []) none
  unnamed false none = refl

  -- an entry whose name isn't declared
  pub list-none : place_of entry.mention.name names ≡ None → IsListing names blocks (entries ++ entry ∷ []) lists listed_by
  list-none none = record {
    each_block = before.each_block;
    lists_are = λ place within.
        before.lists_are place within
        ∙ ap (λ ns. map id_at (each_number ns)) (sym (listed-append names place entries entry ∙ ap (λ ns. listed_in names place entries ++ ns) (unnamed (entry.block == place) none) ∙ append-nil (listed_in names place entries)));
    each_name = before.each_name;
    last_are = λ id within.
        before.last_are id within
        ∙ sym (last-append names id entries entry ∙ ap (λ o. option_or (cond (option_map_or (λ other. id == other) o false) (Some entry.block) None) (last_by names id entries)) none);
  }

  module _ (id : ℕ) (found : place_of entry.mention.name names ≡ Some id) (id_in : id < length names) (block_in : entry.block < blocks) where
    named_here : (here : Bool) → filter_map (λ e. place_of e.mention.name names) (cond here (entry ∷ []) []) ≡ cond here (id ∷ []) []
    named_here true = ap (λ o. cons_option o []) found
    named_here false = refl

    listed_more : (place : ℕ) → listed_in names place (entries ++ entry ∷ []) ≡ listed_in names place entries ++ cond (entry.block == place) (id ∷ []) []
    listed_more place = listed-append names place entries entry ∙ ap (λ ns. listed_in names place entries ++ ns) (named_here (entry.block == place))

    last_more : (other : ℕ) → last_by names other (entries ++ entry ∷ []) ≡ option_or (cond (other == id) (Some entry.block) None) (last_by names other entries)
    last_more other =
        last-append names other entries entry
        ∙ ap (λ o. option_or (cond (option_map_or (λ k. other == k) o false) (Some entry.block) None) (last_by names other entries)) found

    last_by_cases : (other : ℕ) (same : Bool) → (other == id) ≡ same → other < length names → get_or (set listed_by id (Some entry.block)) other None ≡ option_or (cond same (Some entry.block) None) (last_by names other entries)
    last_by_cases other true e within =
        let one = eqb-true other id e in
        ap (λ k. get_or (set listed_by id (Some entry.block)) k None) one ∙ get_or-set_same listed_by id (Some entry.block) None (omega (arith, before.each_name))
    last_by_cases other false e within =
        get_or-set_other listed_by id other (Some entry.block) None (eqb-false other id e) ∙ before.last_are other within

    listed_other : (place : ℕ) → (entry.block == place) ≡ false → map id_at (each_number (listed_in names place (entries ++ entry ∷ []))) ≡ map id_at (each_number (listed_in names place entries))
    listed_other place e =
        ap (λ ns. map id_at (each_number ns)) (listed_more place ∙ ap (λ b. listed_in names place entries ++ cond b (id ∷ []) []) e ∙ append-nil (listed_in names place entries))

    listed_here : (known : Bool) → list_any (λ other. id == other) (listed_in names entry.block entries) ≡ known → map id_at (each_number (listed_in names entry.block (entries ++ entry ∷ []))) ≡ map id_at (cond known (each_number (listed_in names entry.block entries)) (each_number (listed_in names entry.block entries) ++ id ∷ []))
    listed_here known e =
        ap (λ ns. map id_at (each_number ns)) (listed_more entry.block ∙ ap (λ b. listed_in names entry.block entries ++ cond b (id ∷ []) []) (eq-eqb entry.block entry.block refl))
        ∙ ap (map id_at) (each_number-push (listed_in names entry.block entries) id ∙ ap (λ b. cond b (each_number (listed_in names entry.block entries)) (each_number (listed_in names entry.block entries) ++ id ∷ [])) e)

    known_list : (place : ℕ) (same : Bool) → (entry.block == place) ≡ same → place < blocks → list_any (λ other. id == other) (listed_in names entry.block entries) ≡ true → get_or lists place [] ≡ map id_at (each_number (listed_in names place (entries ++ entry ∷ [])))
    known_list place true e within known =
        let one = eqb-true entry.block place e in
        subst (λ k. get_or lists k [] ≡ map id_at (each_number (listed_in names k (entries ++ entry ∷ [])))) one (before.lists_are entry.block block_in ∙ sym (listed_here true known))
    known_list place false e within known = before.lists_are place within ∙ sym (listed_other place e)

    put_list : (place : ℕ) (same : Bool) → (entry.block == place) ≡ same → place < blocks → list_any (λ other. id == other) (listed_in names entry.block entries) ≡ false → get_or (set lists entry.block (get_or lists entry.block [] ++ id_at id ∷ [])) place [] ≡ map id_at (each_number (listed_in names place (entries ++ entry ∷ [])))
    put_list place true e within new =
        let one = eqb-true entry.block place e in
        subst (λ k. get_or (set lists entry.block (get_or lists entry.block [] ++ id_at id ∷ [])) k [] ≡ map id_at (each_number (listed_in names k (entries ++ entry ∷ [])))) one (
        get_or-set_same lists entry.block (get_or lists entry.block [] ++ id_at id ∷ []) [] (omega (arith, before.each_block))
        ∙ ap (λ ids. ids ++ id_at id ∷ []) (before.lists_are entry.block block_in)
        ∙ sym (map-append id_at (each_number (listed_in names entry.block entries)) (id ∷ [])) ∙ sym (listed_here false new)
        )
    put_list place false e within new =
        get_or-set_other lists entry.block place (get_or lists entry.block [] ++ id_at id ∷ []) [] (λ one. eqb-false entry.block place e (sym one))
        ∙ before.lists_are place within ∙ sym (listed_other place e)

    with_last : (lists' : List (List NameId)) → length lists' ≡ blocks → ((place : ℕ) → place < blocks → get_or lists' place [] ≡ map id_at (each_number (listed_in names place (entries ++ entry ∷ [])))) → IsListing names blocks (entries ++ entry ∷ []) lists' (set listed_by id (Some entry.block))
    with_last lists' count are = record {
      each_block = count;
      lists_are = are;
      each_name = length-set listed_by id (Some entry.block) ∙ before.each_name;
      last_are = λ other within. last_by_cases other (other == id) refl within ∙ sym (last_more other);
    }

    put_by : (mark : Bool) → list_any (λ other. id == other) (listed_in names entry.block entries) ≡ mark → IsListing names blocks (entries ++ entry ∷ []) (cond mark lists (set lists entry.block (get_or lists entry.block [] ++ id_at id ∷ []))) (set listed_by id (Some entry.block))
    put_by true known = with_last lists before.each_block (λ place within. known_list place (entry.block == place) refl within known)
    put_by false new =
        with_last (set lists entry.block (get_or lists entry.block [] ++ id_at id ∷ [])) (length-set lists entry.block (get_or lists entry.block [] ++ id_at id ∷ []) ∙ before.each_block) (λ place within. put_list place (entry.block == place) refl within new)

    -- an entry with the name at a place
    pub list-one : (rest : List ℕ) → NeverFall 0 (map (λ e. e.block) entries ++ entry.block ∷ rest) → (lists' : List (List NameId)) (listed_by' : List (Option ℕ)) → lists' ≡ cond (is_mark entry.block (get_or listed_by id None)) lists (set lists entry.block (get_or lists entry.block [] ++ id_at id ∷ [])) → listed_by' ≡ set listed_by id (Some entry.block) → IsListing names blocks (entries ++ entry ∷ []) lists' listed_by'
    list-one rest rise lists' listed_by' l m =
        let known = sym (mark-is names entry.block rest id entries 0 rise) ∙ ap (is_mark entry.block) (sym (before.last_are id id_in)) in
        rw (l, m) (put_by (is_mark entry.block (get_or listed_by id None)) known)

-- A loop over entries, as a slice shows them.
module _ (names : List (List ℕ)) (blocks : ℕ) (entries shown : List EntryForm) (items : shown ≡ entries) (i : ℕ) (entry : EntryForm) (within : i < length shown) (there : entry ≡ get_or shown i entry) (lists : List (List NameId)) (listed_by : List (Option ℕ)) (before : IsListing names blocks (take i entries) lists listed_by) where
  there_now : entry ≡ get_or entries i entry
  there_now = there ∙ ap (λ xs. get_or xs i entry) items

  within_now : i < length entries
  within_now = omega (arith, ap length items)

  one_more : take i entries ++ entry ∷ [] ≡ take (i + 1) entries
  one_more = ap (λ e. take i entries ++ e ∷ []) there_now ∙ sym (take_more entries i entry within_now)

  around : map (λ e. e.block) entries ≡ map (λ e. e.block) (take i entries) ++ entry.block ∷ map (λ e. e.block) (drop (i + 1) entries)
  around =
      ap (map (λ e. e.block)) (sym (take-append-drop i entries) ∙ ap (λ es. take i entries ++ es) (drop_more entries i entry within_now ∙ ap (λ e. e ∷ drop (i + 1) entries) (sym there_now)))
      ∙ map-append (λ e. e.block) (take i entries) (entry ∷ drop (i + 1) entries)

  pub entry-none : place_of entry.mention.name names ≡ None → IsListing names blocks (take (i + 1) entries) lists listed_by
  entry-none none = subst (λ es. IsListing names blocks es lists listed_by) one_more (list-none names blocks (take i entries) lists listed_by before entry none)

  pub entry-one : NeverFall 0 (map (λ e. e.block) entries) → All (λ e. e.block < blocks) entries → (id : ℕ) → place_of entry.mention.name names ≡ Some id → (lists' : List (List NameId)) (listed_by' : List (Option ℕ)) → lists' ≡ cond (is_mark entry.block (get_or listed_by id None)) lists (set lists entry.block (get_or lists entry.block [] ++ id_at id ∷ [])) → listed_by' ≡ set listed_by id (Some entry.block) → IsListing names blocks (take (i + 1) entries) lists' listed_by'
  entry-one rise all_in id found lists' listed_by' l m =
      let block_in : entry.block < blocks = subst (λ e. e.block < blocks) (sym there_now) (All-get_or (λ e. e.block < blocks) entries i entry within_now all_in) in
      subst (λ es. IsListing names blocks es lists' listed_by') one_more (
      list-one names blocks (take i entries) lists listed_by before entry id found (place_of-within entry.mention.name names id found) block_in (map (λ e. e.block) (drop (i + 1) entries)) (subst (NeverFall 0) around rise) lists' listed_by' l m
      )

-- before the first
pub listed-none : (names : List (List ℕ)) (blocks count : ℕ) (lists : List (List NameId)) (listed_by : List (Option ℕ)) → lists ≡ replicate blocks [] → count ≡ length names → listed_by ≡ replicate count None → IsListing names blocks [] lists listed_by
listed-none names blocks count lists listed_by l c m = record {
  each_block = ap length l ∙ length-replicate blocks [];
  lists_are = λ place within. ap (λ xs. get_or xs place []) l ∙ get_or-replicate blocks place [] [] within;
  each_name = ap length m ∙ length-replicate count None ∙ c;
  last_are = λ id within. ap (λ xs. get_or xs id None) m ∙ get_or-replicate count id None None (omega (arith, c));
}
