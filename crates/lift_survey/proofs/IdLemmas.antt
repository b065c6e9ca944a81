-- The ids of a mark, and their cases.
use Rattle.std.proofs.Common.{◌≡◌, ◌∙◌, refl, sym, ap, ℕ, zero, suc, ◌<◌, ◌==◌, Bool, true, false, ◌&&◌, cond, List, [], ◌∷◌, ◌++◌, length, map, get_or, slice_get, Option, Some, None, All, Contains, arith, subst}
use Rattle.std.specs.Prelude.{codes, nat_eq}
use Rattle.std.specs.Cmp.Lexicographic.{bytes_decides}
use Rattle.std.specs.List.{AllZip, starts_with}
use Rattle.std.specs.Str.{bytes_eq}
use Rattle.std.proofs.lemmas.Bool.{eqb-true}
use Rattle.std.proofs.lemmas.List.{get_or_append_left}
use Rattle.std.proofs.lemmas.List.Elements.{All-cons, All-head, All-nil, All-tail, All-weaker}
use Rattle.std.proofs.lemmas.Option.{get_or_from_slice_get, slice_get-get_or, slice_get_within}
use Rattle.vkb_formula.specs.Names.{AreDifferent}
use Rattle.vkb_formula.specs.declared.pool.NodeId.{NodeId}
use Rattle.vkb_formula.specs.declared.pool.PoolNode.{PoolNode}
use Rattle.doc_tree.specs.declared.Cond.{Cond}
use Rattle.doc_tree.specs.declared.CondId.{CondId}
use Rattle.doc_build.specs.Ids.{filled, filled_from, refpage}
use Rattle.lift_nodes.specs.declared.IdCase.{IdCase}
use Rattle.lift_nodes.specs.declared.Source.{Source}
use Rattle.lift_nodes.specs.Cases.{id_of, page_from, page_of}
use Rattle.lift_nodes.specs.Nodes.{IsNodeOver, is_true}
use Rattle.lift_survey.specs.declared.Case.{Case}
use Rattle.lift_survey.specs.declared.pages.Pages.{Pages}
use Rattle.lift_survey.specs.declared.spots.Spot.{Spot}
use Rattle.lift_survey.specs.Growth.{Grows, HasMore}
use Rattle.lift_survey.specs.Keeping.{AreCases, AreKept, AreTold, IsCaseOf, all_met, id_told}
use Rattle.lift_survey.specs.Survey.{AreOnce, id_named}
use Rattle.lift_survey.proofs.GrowthLemmas.{ids-count}

-- ---- what has no `{` is as it is written

is_false : (b : Bool) → (b ≡ true → ⊥) → b ≡ false
is_false true h = absurd (h refl)
is_false false h = refl

unfilled-from : (page bytes : List ℕ) → ((k : ℕ) → k < length bytes → (get_or bytes k 0 == 123) ≡ true → ⊥) → filled_from page 0 bytes ≡ bytes
unfilled-from page [] absent = refl
unfilled-from page (byte ∷ bytes) absent =
    let other : nat_eq 123 byte ≡ false = is_false (nat_eq 123 byte) (λ same. absent 0 (omega arith) (subst (λ b. (b == 123) ≡ true) (eqb-true 123 byte same) refl)) in
    let isnt : starts_with nat_eq (byte ∷ bytes) refpage ≡ false = ap (λ b. b && starts_with nat_eq bytes (codes "refpage}")) other in
    ap (λ b. cond b (page ++ filled_from page 8 bytes) (byte ∷ filled_from page 0 bytes)) isnt
    ∙ ap (λ (rest : List ℕ). byte ∷ rest) (unfilled-from page bytes (λ k below. absent (suc k) (omega (arith, below))))

pub unfilled : (bytes : List ℕ) → ((k : ℕ) → k < length bytes → (get_or bytes k 0 == 123) ≡ true → ⊥) → (page : Option (List ℕ)) → filled page bytes ≡ bytes
unfilled bytes absent None = refl
unfilled bytes absent (Some page) = unfilled-from page bytes absent

-- ---- two lists that are related element by element

pub zip-weaker : {X Y : Type 0} (R S : X → Y → Type 0) → ((x : X) (y : Y) → R x y → S x y) → (xs : List X) (ys : List Y) → AllZip R xs ys → AllZip S xs ys
zip-weaker R S weaker [] [] all = tt
zip-weaker R S weaker [] (y ∷ ys) all = absurd all
zip-weaker R S weaker (x ∷ xs) [] all = absurd all
zip-weaker R S weaker (x ∷ xs) (y ∷ ys) all = (weaker x y all.0, zip-weaker R S weaker xs ys all.1)

pub zip-push : {X Y : Type 0} (R : X → Y → Type 0) (xs : List X) (ys : List Y) (x : X) (y : Y) → AllZip R xs ys → R x y → AllZip R (xs ++ x ∷ []) (ys ++ y ∷ [])
zip-push R [] [] x y all last = (last, tt)
zip-push R [] (z ∷ ys) x y all last = absurd all
zip-push R (z ∷ xs) [] x y all last = absurd all
zip-push R (z ∷ xs) (v ∷ ys) x y all last = (all.0, zip-push R xs ys x y all.1 last)

-- ---- truth

and-by : (a b c : Bool) → (a ≡ true → b ≡ c) → (a && b) ≡ (a && c)
and-by true b c so = so refl
and-by false b c so = refl

and-true : (b : Bool) → (b && true) ≡ b
and-true true = refl
and-true false = refl

same-bytes : (xs ys : List ℕ) → xs ≡ ys → bytes_eq xs ys ≡ true
same-bytes xs ys same = (bytes_decides xs ys).1 same

-- ---- one case

-- a number that is an id's stays so
pub named-stays : (old new : List (List ℕ)) (number : ℕ) (id : List ℕ) → HasMore old new → slice_get old number ≡ Some id → slice_get new number ≡ Some id
named-stays old new number id more named =
    let below : number < length old = slice_get_within old number id named in
    slice_get-get_or new number [] (omega (arith, below, ids-count old new more))
    ∙ ap Some (ap (λ (ids : List (List ℕ)). get_or ids number []) more.is ∙ get_or_append_left old more.more [] number below ∙ get_or_from_slice_get old number id [] named)

pub case-grown : (old mid new : List PoolNode) (ids more : List (List ℕ)) (standing : NodeId) (told : IdCase) (case : Case) → Grows mid new → HasMore ids more → IsCaseOf old mid ids standing told case → IsCaseOf old new more standing told case
case-grown old mid new ids more standing told case grows has is = record {
  held = omega (arith, is.held, grows.count);
  named = named-stays ids more case.id.0 told.id has is.named;
  value = λ set. grows.kept set case.node is.held ∙ is.value set;
}

-- a case over a pool that has grown before
pub case-from : (old mid new : List PoolNode) (ids : List (List ℕ)) (standing : NodeId) (told : IdCase) (case : Case) → Grows old mid → standing.0 < length old → told.node.0 < length old → IsCaseOf mid new ids standing told case
    → IsCaseOf old new ids standing told case
case-from old mid new ids standing told case grows held node is = record {
  held = is.held;
  named = is.named;
  value = λ set. is.value set ∙ ap (λ b. b && is_true mid set told.node) (grows.kept set standing held) ∙ ap (λ b. is_true old set standing && b) (grows.kept set told.node node);
}

-- ---- all cases of a mark

module _ (old mid new : List PoolNode) (ids : List (List ℕ)) (standing : NodeId) where
  cases-held : (told : List IdCase) (cases : List Case) → AllZip (IsCaseOf mid new ids standing) told cases → All (λ case. case.node.0 < length new) cases
  cases-held [] [] all = All-nil (λ (case : Case). case.node.0 < length new)
  cases-held [] (case ∷ cases) all = absurd all
  cases-held (t ∷ told) [] all = absurd all
  cases-held (t ∷ told) (case ∷ cases) all = All-cons (λ (case : Case). case.node.0 < length new) case cases all.0.held (cases-held told cases all.1)

  cases-numbered : (told : List IdCase) (cases : List Case) → AllZip (IsCaseOf mid new ids standing) told cases → All (λ case. case.id.0 < length ids) cases
  cases-numbered [] [] all = All-nil (λ (case : Case). case.id.0 < length ids)
  cases-numbered [] (case ∷ cases) all = absurd all
  cases-numbered (t ∷ told) [] all = absurd all
  cases-numbered (t ∷ told) (case ∷ cases) all =
      All-cons (λ (case : Case). case.id.0 < length ids) case cases (slice_get_within ids case.id.0 t.id all.0.named) (cases-numbered told cases all.1)

  -- their ids are those that are told
  cases-ids : (told : List IdCase) (cases : List Case) → AllZip (IsCaseOf mid new ids standing) told cases → map (id_named ids) cases ≡ map (λ t. t.id) told
  cases-ids [] [] all = refl
  cases-ids [] (case ∷ cases) all = absurd all
  cases-ids (t ∷ told) [] all = absurd all
  cases-ids (t ∷ told) (case ∷ cases) all =
      ap (λ (id : List ℕ). id ∷ map (id_named ids) cases) (get_or_from_slice_get ids case.id.0 t.id [] all.0.named)
      ∙ ap (λ (rest : List (List ℕ)). t.id ∷ rest) (cases-ids told cases all.1)

  -- a case has the id that is told at its place
  case-at : (told : List IdCase) (cases : List Case) → AllZip (IsCaseOf mid new ids standing) told cases → (k : ℕ) (case : Case) → slice_get cases k ≡ Some case
      → slice_get ids case.id.0 ≡ slice_get (map (λ t. t.id) told) k
  case-at [] [] all k case there = absurd cc
  case-at [] (first ∷ cases) all k case there = absurd all
  case-at (t ∷ told) [] all k case there = absurd all
  case-at (t ∷ told) (first ∷ cases) all zero case there =
      let same : first ≡ case = cc in
      ap (λ (c : Case). slice_get ids c.id.0) (sym same) ∙ all.0.named
  case-at (t ∷ told) (first ∷ cases) all (suc k) case there = case-at told cases all.1 k case there

  id-at : (told : List IdCase) (cases : List Case) → AllZip (IsCaseOf mid new ids standing) told cases → (k : ℕ) (case : Case) → slice_get cases k ≡ Some case
      → slice_get (map (λ t. t.id) told) k ≡ Some (id_named ids case)
  id-at [] [] all k case there = absurd cc
  id-at [] (first ∷ cases) all k case there = absurd all
  id-at (t ∷ told) [] all k case there = absurd all
  id-at (t ∷ told) (first ∷ cases) all zero case there =
      let same : first ≡ case = cc in
      ap Some (sym (get_or_from_slice_get ids first.id.0 t.id [] all.0.named) ∙ ap (id_named ids) same)
  id-at (t ∷ told) (first ∷ cases) all (suc k) case there = id-at told cases all.1 k case there

  cases-once : (told : List IdCase) (cases : List Case) → AllZip (IsCaseOf mid new ids standing) told cases → AreDifferent (map (λ t. t.id) told) → AreOnce cases
  cases-once told cases all different i j case other here there same =
      different i j (id_named ids case) (id-at told cases all i case here)
      (sym (case-at told cases all j other there) ∙ ap (slice_get ids) (sym same) ∙ case-at told cases all i case here ∙ id-at told cases all i case here)

  -- where the mark stands or not, each tells whether it stands and has the case's id
  cases-say : (set : List Bool) (id : List ℕ) (stands : Bool) → is_true mid set standing ≡ stands → (told : List IdCase) (cases : List Case) → AllZip (IsCaseOf mid new ids standing) told cases
      → (stands ≡ true → All (λ t. is_true mid set t.node ≡ bytes_eq t.id id) told) → All (λ case. is_true new set case.node ≡ (stands && bytes_eq (id_named ids case) id)) cases
  cases-say set id stands is [] [] all say = All-nil _
  cases-say set id stands is [] (case ∷ cases) all say = absurd all
  cases-say set id stands is (t ∷ told) [] all say = absurd all
  cases-say set id stands is (t ∷ told) (case ∷ cases) all say =
      All-cons (λ (case : Case). is_true new set case.node ≡ (stands && bytes_eq (id_named ids case) id)) case cases
      (all.0.value set
      ∙ ap (λ b. b && is_true mid set t.node) is
      ∙ and-by stands (is_true mid set t.node) (bytes_eq t.id id) (λ so. All-head (λ (t : IdCase). is_true mid set t.node ≡ bytes_eq t.id id) t told (say so))
      ∙ ap (λ (name : List ℕ). stands && bytes_eq name id) (sym (get_or_from_slice_get ids case.id.0 t.id [] all.0.named)))
      (cases-say set id stands is told cases all.1 (λ so. All-tail (λ (t : IdCase). is_true mid set t.node ≡ bytes_eq t.id id) t told (say so)))

-- the cases of a mark, by those of its ids
pub cases-by : (old mid new : List PoolNode) (ids : List (List ℕ)) (conds : List Cond) (spot : Spot) (pages : Pages) (bytes : List ℕ) (told : List IdCase) (cases : List Case) → Grows old mid → spot.standing.0 < length old
    → AreTold old mid conds spot.within pages bytes told → AllZip (IsCaseOf mid new ids spot.standing) told cases → AreCases old new ids conds spot pages bytes cases
cases-by old mid new ids conds spot pages bytes told cases grows held are all = record {
  held = cases-held old mid new ids spot.standing told cases all;
  numbered = cases-numbered old mid new ids spot.standing told cases all;
  once = cases-once old mid new ids spot.standing told cases all are.different;
  each = λ set table names kept round.
      cases-say old mid new ids spot.standing set (id_told (is_true old set) pages bytes) (is_true old set spot.standing) (grows.kept set spot.standing held) told cases all
      (λ stands. are.each set table names kept (round stands));
  some = λ set table names kept round stands.
      subst (λ (names : List (List ℕ)). Contains names (id_told (is_true old set) pages bytes)) (sym (cases-ids old mid new ids spot.standing told cases all)) (are.some set table names kept (round stands));
}

-- the one case of a mark whose id doesn't depend on the page
pub cases-one : (pool : List PoolNode) (ids : List (List ℕ)) (conds : List Cond) (spot : Spot) (pages : Pages) (bytes : List ℕ) (case : Case) → case.node ≡ spot.standing → spot.standing.0 < length pool
    → slice_get ids case.id.0 ≡ Some bytes → ((page : Option (List ℕ)) → filled page bytes ≡ bytes) → AreCases pool pool ids conds spot pages bytes (case ∷ [])
cases-one pool ids conds spot pages bytes case stands held named fixed =
    let id : id_named ids case ≡ bytes = get_or_from_slice_get ids case.id.0 bytes [] named in
    record {
      held = All-cons (λ (c : Case). c.node.0 < length pool) case [] (omega (arith, held, ap (λ (n : NodeId). n.0) stands)) (All-nil (λ (c : Case). c.node.0 < length pool));
      numbered = All-cons (λ (c : Case). c.id.0 < length ids) case [] (slice_get_within ids case.id.0 bytes named) (All-nil (λ (c : Case). c.id.0 < length ids));
      once = λ i j one other here there same. omega (arith, slice_get_within (case ∷ []) i one here, slice_get_within (case ∷ []) j other there);
      each = λ set table names kept round.
          All-cons (λ (c : Case). is_true pool set c.node ≡ (is_true pool set spot.standing && bytes_eq (id_named ids c) (id_told (is_true pool set) pages bytes))) case []
          (ap (is_true pool set) stands
          ∙ sym (ap (λ b. is_true pool set spot.standing && b) (same-bytes (id_named ids case) (id_told (is_true pool set) pages bytes) (id ∙ sym (fixed (page_from (is_true pool set) None pages.sources.items))))
          ∙ and-true (is_true pool set spot.standing)))
          (All-nil (λ (c : Case). is_true pool set c.node ≡ (is_true pool set spot.standing && bytes_eq (id_named ids c) (id_told (is_true pool set) pages bytes))));
      some = λ set table names kept round stand. (0, omega arith, id ∙ sym (fixed (page_from (is_true pool set) None pages.sources.items)));
    }

-- what is told of the ids of a mark, where the page at it is that of some of the lines that set it
pub told-by : (old new : List PoolNode) (conds : List Cond) (within : Option CondId) (pages : Pages) (bytes : List ℕ) (over : List NodeId) (clauses variables : ℕ) (covered : Bool) (sources : List Source) (cases : List IdCase)
    → AreDifferent (map (λ case. case.id) cases) → ((set : List Bool) → Contains (map (λ case. case.id) cases) (id_of (is_true old set) bytes covered sources))
    → All (λ case. IsNodeOver old new over clauses variables (λ set. bytes_eq case.id (id_of (is_true old set) bytes covered sources)) case.node) cases
    → ((set : List Bool) (table names : List (List ℕ)) → AreKept (is_true old set) (all_met table names conds) pages → all_met table names conds within ≡ true
    → page_of (is_true old set) covered sources ≡ page_from (is_true old set) None pages.sources.items)
    → AreTold old new conds within pages bytes cases
told-by old new conds within pages bytes over clauses variables covered sources cases different among nodes page = record {
  held = All-weaker (λ (case : IdCase). IsNodeOver old new over clauses variables (λ set. bytes_eq case.id (id_of (is_true old set) bytes covered sources)) case.node) (λ (case : IdCase). case.node.0 < length new) (λ case is. is.held) cases nodes;
  different = different;
  each = λ set table names kept met.
      All-weaker (λ (case : IdCase). IsNodeOver old new over clauses variables (λ set. bytes_eq case.id (id_of (is_true old set) bytes covered sources)) case.node)
      (λ (case : IdCase). is_true new set case.node ≡ bytes_eq case.id (id_told (is_true old set) pages bytes))
      (λ case is. is.value set ∙ ap (λ (p : Option (List ℕ)). bytes_eq case.id (filled p bytes)) (page set table names kept met)) cases nodes;
  some = λ set table names kept met.
      subst (λ (p : Option (List ℕ)). Contains (map (λ case. case.id) cases) (filled p bytes)) (page set table names kept met) (among set);
}
