-- For each name those that name it.
use Rattle.std.proofs.Common.{◌≡◌, ◌≢◌, ℕ, zero, suc, ◌+◌, ◌<◌, ◌⊎◌, inl, inr, ⊎_elim, Bool, List, [], ◌∷◌, ◌++◌, length, map, get_or, set, take, slice_get, Some, Contains, sym, ap, subst, ◌∙◌, length-set, arith}
use Rattle.std.proofs.lemmas.Bool.{cases_eq}
use Rattle.std.proofs.lemmas.List.{take_more}
use Rattle.std.proofs.lemmas.List.Elements.{Contains-append_left, Contains-get_or, Contains-push, Contains-push_cases}
use Rattle.std.proofs.lemmas.Option.{same_Some, get_or_from_slice_get, slice_get_within, slice_get-get_or}
use Rattle.vkb_formula.specs.declared.name_table.NameId.{NameId}
use Rattle.reg_registry.specs.declared.registry.Row.{Row}
use Rattle.reg_registry.specs.Naming.{Names, NoneTwice}
use Rattle.reg_registry.specs.Rows.{id_at}
use Rattle.reg_closure.proofs.PlacedLemmas.{Contains-cases, Contains-first, Contains-map, Contains-rest, in-names, names-in, set-other, set-same}
use Rattle.reg_closure.specs.Closure.{IsIn}
use Rattle.reg_closure.specs.Waiting.{AreNamers, Puts}

-- a name stands once among others
again : (ids : List NameId) → NoneTwice (map (λ (id : NameId). id.0) ids) → (k : ℕ) (d : NameId)
    → k < length ids → Contains (take k ids) (get_or ids k d) → ⊥
again [] once k d l c = absurd (omega (arith, l))
again (x ∷ xs) once zero d l c = absurd (omega (arith, c.1))
again (x ∷ xs) once (suc k) d l c =
    ⊎_elim
    (λ (e : x ≡ get_or xs k d).
    once.0 (subst (λ (i : NameId). Contains (map (λ (id : NameId). id.0) xs) i.0) (sym e) (Contains-map
    (λ (id : NameId). id.0) xs (get_or xs k d) (Contains-get_or xs k d (omega (arith, l))))))
    (λ r. again xs once.1 k d (omega (arith, l)) r) (Contains-cases x (take k xs) (get_or xs k d) c)

pub puts-more : (namer : ℕ) (ids : List NameId) (k : ℕ) (d : NameId) → k < length ids
    → NoneTwice (map (λ (id : NameId). id.0) ids) → (a b c : List (List ℕ))
    → Puts namer (take k ids) a b → (get_or ids k d).0 < length b → c ≡ set b (get_or ids k d).0 (get_or b (get_or ids k d).0 [] ++ namer ∷ []) → Puts namer (take (k + 1) ids) a c
puts-more namer ids k d l once a b c m within f =
    subst (λ (xs : List NameId). Puts namer xs a c) (sym (take_more ids k d l)) all
  where
    id : NameId
    id = get_or ids k d

    new : Contains (take k ids) id → ⊥
    new h = again ids once k d l h

    here : slice_get c id.0 ≡ Some (get_or b id.0 [] ++ namer ∷ [])
    here = ap (λ (xs : List (List ℕ)). slice_get xs id.0) f
        ∙ set-same b id.0 (get_or b id.0 [] ++ namer ∷ []) (get_or b id.0 []) (slice_get-get_or b id.0 [] within)

    there : (name : ℕ) → name ≢ id.0 → slice_get c name ≡ slice_get b name
    there name n = ap (λ (xs : List (List ℕ)). slice_get xs name) f ∙ set-other b id.0 name (get_or b id.0 [] ++ namer ∷ []) n

    all : Puts namer (take k ids ++ id ∷ []) a c
    all = record {
      count = ap length f ∙ length-set b id.0 (get_or b id.0 [] ++ namer ∷ []) ∙ m.count;
      added = λ name list e h.
          ⊎_elim
          (λ old. there name (λ q. new (subst (λ (x : ℕ). Contains (take k ids) (id_at x)) q old)) ∙ m.added name list e old)
          (λ (q : id ≡ id_at name).
          let same : id.0 ≡ name = ap (λ (i : NameId). i.0) q in
          let was : slice_get b name ≡ Some list = m.others name (λ old. new (subst (λ (i : NameId). Contains (take k ids) i) (sym q) old)) ∙ e in
          let is : get_or b id.0 [] ≡ list = get_or_from_slice_get b id.0 list [] (subst (λ (x : ℕ). slice_get b x ≡ Some list) (sym same) was) in
          subst (λ (x : ℕ). slice_get c x ≡ Some (list ++ namer ∷ [])) same (here ∙ ap (λ (xs : List ℕ). Some (xs ++ namer ∷ [])) is))
          (Contains-push_cases (take k ids) id (id_at name) h);
      others = λ name n.
          there name (λ q. n (subst (λ (x : ℕ). Contains (take k ids ++ id ∷ []) (id_at x)) (sym q) (Contains-push (take k ids) id)))
          ∙ m.others name (λ old. n (Contains-append_left (take k ids) (id ∷ []) (id_at name) old));
    }

none-twice-push : (xs : List ℕ) (y : ℕ) → NoneTwice xs → (Contains xs y → ⊥) → NoneTwice (xs ++ y ∷ [])
none-twice-push [] y once n = ((λ c. omega (arith, c.1)), tt)
none-twice-push (x ∷ xs) y once n = (
  (λ c. ⊎_elim (λ d. once.0 d) (λ (e : y ≡ x). n (subst
      (λ (z : ℕ). Contains (x ∷ xs) z) (sym e) (Contains-first x xs))) (Contains-push_cases xs y x c)),
  none-twice-push xs y once.1 (λ c. n (Contains-rest x xs y c)),
)

names-or-not : (ids : List NameId) (name : ℕ) → Contains ids (id_at name) ⊎ (Contains ids (id_at name) → ⊥)
names-or-not [] name = inr (λ c. omega (arith, c.1))
names-or-not (id ∷ ids) name =
    ⊎_elim (λ (e : id.0 ≡ name). inl (subst (λ (x : ℕ). Contains (id ∷ ids) (id_at x)) e (Contains-first id ids)))
    (λ n. ⊎_elim (λ c. inl (Contains-rest id ids (id_at name) c))
    (λ m. inr (λ c. ⊎_elim (λ (e : id ≡ id_at name). n (ap
    (λ (i : NameId). i.0) e)) m (Contains-cases id ids (id_at name) c))) (names-or-not ids name))
    (cases_eq id.0 name)

module _ (rows : List Row) (set : List Bool) where
  -- the next name isn't in the set
  pub namers-less : (end : ℕ) (namers : List (List ℕ)) → AreNamers rows set end namers → (IsIn set end → ⊥) → AreNamers rows set (end + 1) namers
  namers-less end namers a out = record {
    count = a.count;
    once = a.once;
    only = λ name place list f c. let o = a.only name place list f c in (omega (arith, o.0), o.1, o.2);
    all = λ name place list f l i k. a.all name place list f (⊎_elim (λ (q : place ≡ end). absurd (out (subst (IsIn set) q i)))
        (λ (d : place ≢ end). omega (arith, l, d)) (cases_eq place end)) i k;
  }

  -- the next name is in the set, and is put behind the namers of all that it names
  pub namers-more : (end : ℕ) (old new : List (List ℕ)) (row : Row) → AreNamers rows set end old
      → IsIn set end → slice_get rows end ≡ Some row → Puts end row.named old new
      → AreNamers rows set (end + 1) new
  namers-more end old new row a i here puts = record {
    count = puts.count ∙ a.count;
    once = λ name list f.
        let was = at name list f in
        ⊎_elim
        (λ p. subst NoneTwice (sym p.1) (none-twice-push was.0 end (a.once name was.0 was.1)
        (λ c. let l = (a.only name end was.0 was.1 c).0 in omega (arith, l))))
        (λ p. subst NoneTwice (sym p.1) (a.once name was.0 was.1))
        was.2;
    only = λ name place list f c.
        let was = at name list f in
        ⊎_elim
        (λ p. ⊎_elim (λ d. old-only name place was.0 was.1 d)
        (λ (q : end ≡ place). (omega (arith, q), subst (IsIn set) q i, subst (λ (x : ℕ). Names rows x name) q (in-names rows end row here name p.0)))
        (Contains-push_cases was.0 end place (subst (λ (xs : List ℕ). Contains xs place) p.1 c)))
        (λ p. old-only name place was.0 was.1 (subst (λ (xs : List ℕ). Contains xs place) p.1 c))
        was.2;
    all = λ name place list f l j k.
        let was = at name list f in
        ⊎_elim
        (λ (q : place ≡ end).
        ⊎_elim
        (λ p. subst (λ (xs : List ℕ). Contains xs place) (sym p.1) (subst
        (λ (x : ℕ). Contains (was.0 ++ end ∷ []) x) (sym q) (Contains-push was.0 end)))
        (λ p. absurd (p.0 (names-in rows end row here name (subst (λ (x : ℕ). Names rows x name) q k))))
        was.2)
        (λ (d : place ≢ end).
        let c = a.all name place was.0 was.1 (omega (arith, l, d)) j k in
        ⊎_elim (λ p. subst (λ (xs : List ℕ). Contains xs place) (sym p.1) (Contains-append_left was.0 (end ∷ []) place c))
        (λ p. subst (λ (xs : List ℕ). Contains xs place) (sym p.1) c) was.2)
        (cases_eq place end);
  }
    where
      old-only : (name place : ℕ) (list : List ℕ) → slice_get old name ≡ Some list
          → Contains list place → (place < end + 1) × IsIn set place × Names rows place name
      old-only name place list f c = let o = a.only name place list f c in (omega (arith, o.0), o.1, o.2)

      -- the list at a name is the old one, with the new namer behind it where the row has the name
      at : (name : ℕ) (list : List ℕ) → slice_get new name ≡ Some list
          → (was : List ℕ) × (slice_get old name ≡ Some was)
          × ((Contains row.named (id_at name) × (list ≡ was ++ end ∷ [])) ⊎ ((Contains row.named (id_at name) → ⊥) × (list ≡ was)))
      at name list f =
          let was : slice_get old name ≡ Some (get_or old name []) = slice_get-get_or old name [] (omega (arith, slice_get_within new name list f, puts.count)) in (
            get_or old name [],
            was,
            ⊎_elim
                (λ c. inl (c, same_Some list (get_or old name [] ++ end ∷ []) (sym f ∙ puts.added name (get_or old name []) was c)))
                (λ n. inr (n, same_Some list (get_or old name []) (sym f ∙ puts.others name n ∙ was)))
                (names-or-not row.named name),
          )
