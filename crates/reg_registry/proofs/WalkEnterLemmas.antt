-- A walk begins, a name is entered, and all names are done.
use Rattle.std.proofs.Common.{◌≡◌, ℕ, ◌+◌, ◌<◌, ◌≤◌, List, [], ◌∷◌, ◌++◌, length, get_or, map, set, replicate, slice_get, Option, Some, None, All, Contains, IfSome, MatchOption, refl, sym, ap, subst, ◌∙◌, length-append, arith}
use Rattle.std.proofs.lemmas.List.{get_or-replicate, length-map, length-replicate}
use Rattle.std.specs.Option.{IsSomeAnd}
use Rattle.std.proofs.lemmas.List.Elements.{All-contains, All-map}
use Rattle.std.proofs.lemmas.Option.{none-some, get_or_from_slice_get, slice_get_within, slice_get-get_or}
use Rattle.vkb_bytes.specs.First.{IsFirst}
use Rattle.vkb_formula.specs.declared.name_table.NameId.{NameId}
use Rattle.reg_registry.specs.declared.registry.Row.{Row}
use Rattle.reg_registry.specs.declared.circles.groups.Group.{Group}
use Rattle.reg_registry.specs.declared.circles.walk.Mark.{Mark}
use Rattle.reg_registry.specs.declared.circles.walk.Mark.TheVariants.{Unseen, OnPath, Done}
use Rattle.reg_registry.specs.Naming.{IsOnCircle, Leads, step, more, Names}
use Rattle.reg_registry.specs.Rows.{id_at}
use Rattle.reg_registry.specs.Walks.{IsAhead, IsDone, AreStacked, IsWalk, Walked, steps_of, weight_of}
use Rattle.reg_registry.proofs.PlacedLemmas.{Contains-at, Contains-map, map-Contains}
use Rattle.reg_registry.proofs.WalkLemmas.{walk-enter}
use Rattle.reg_registry.proofs.WalkWeightLemmas.{weight-enter}

abbrev pub numbers_in : Row → List ℕ
numbers_in row = map (λ (id : NameId). id.0) row.named

pub names-in : (rows : List Row) (name : ℕ) (row : Row) → slice_get rows name ≡ Some row → (other : ℕ) → Names rows name other → Contains row.named (id_at other)
names-in rows name row e other n = subst (λ (o : Option Row). IsSomeAnd o (λ r. Contains r.named (id_at other))) e n

pub in-names : (rows : List Row) (name : ℕ) (row : Row) → slice_get rows name ≡ Some row → (other : ℕ) → Contains row.named (id_at other) → Names rows name other
in-names rows name row e other c = subst (λ (o : Option Row). IsSomeAnd o (λ r. Contains r.named (id_at other))) (sym e) c

pub row-names : (row : Row) (other : ℕ) → Contains (numbers_in row) other → Contains row.named (id_at other)
row-names row other c =
    let m = map-Contains (λ (id : NameId). id.0) row.named other c in subst (λ (x : ℕ). Contains row.named (id_at x)) m.2 m.1

pub enter-step : (rows : List Row) (w : Walked) → IsWalk rows w → (name : ℕ) → IsAhead w name → slice_get w.marks name ≡ Some Unseen
    → (row : Row) → slice_get rows name ≡ Some row → All (λ r. All (λ id. id.0 < length rows) r.named) rows
    → (marks : List Mark) (path ahead : List ℕ) (groups : List Group)
    → marks ≡ set w.marks name (OnPath (length w.path)) → path ≡ w.path ++ name ∷ [] → ahead ≡ w.ahead ++ numbers_in row
    → groups ≡ record { start = length w.path; ahead = length w.ahead } ∷ w.groups
    → IsWalk rows (record { marks = marks; path = path; ahead = ahead; groups = groups; first = w.first })
    × (steps_of rows (record { marks = marks; path = path; ahead = ahead; groups = groups; first = w.first }) < steps_of rows w)
enter-step rows w walk name ahead unseen row e ids marks path ahead' groups em ep ea eg =
    let within : All (λ other. other < length rows) (numbers_in row) =
    All-map (λ n. n < length rows) (λ (id : NameId). id.0) row.named (All-contains (λ r. All (λ id. id.0 < length rows) r.named) rows row ids (Contains-at rows name row e)) in
    let entered = walk-enter rows w walk name ahead unseen (numbers_in row)
    (λ other n. Contains-map (λ (id : NameId). id.0) row.named (id_at other) (names-in rows name row e other n))
    (λ other c. in-names rows name row e other (row-names row other c)) within in
    let weight : weight_of rows marks + length row.named + 2 ≡ weight_of rows w.marks =
    ap (λ (x : List Mark). weight_of rows x + length row.named + 2) em ∙ weight-enter rows w.marks name (length w.path) row e unseen in
    let more-ahead : length ahead' ≡ length w.ahead + length row.named =
    omega (arith, ap (λ (x : List ℕ). length x) ea, length-append w.ahead (numbers_in row), length-map row.named (λ (id : NameId). id.0)) in
    let more-groups : length groups ≡ length w.groups + 1 = omega (arith, ap (λ (x : List Group). length x) eg) in (
      subst (λ (x : Walked). IsWalk rows x) (λ i. record { marks = sym em i; path = sym ep i; ahead = sym ea i; groups = sym eg i; first = w.first }) entered,
      omega (arith, weight, more-ahead, more-groups),
    )

all-unseen : (n name : ℕ) (m : Mark) → slice_get (replicate n Unseen) name ≡ Some m → m ≡ Unseen
all-unseen n name m e =
    let l : name < n = omega (arith, slice_get_within (replicate n Unseen) name m e, length-replicate n Unseen) in
    sym (get_or_from_slice_get (replicate n Unseen) name m Done e) ∙ get_or-replicate n name Unseen Done l

pub walk-begin : (rows : List Row) (ahead : List ℕ) → All (λ name. name < length rows) ahead → ((name : ℕ) → name < length rows → Contains ahead name)
    → IsWalk rows (record { marks = replicate (length rows) Unseen; path = []; ahead = ahead; groups = []; first = None })
walk-begin rows ahead within each = record {
  count = length-replicate (length rows) Unseen;
  stacked = refl;
  placed = λ n p e. absurd (none-some n e);
  found = λ n p e. absurd (cc (all-unseen (length rows) n (OnPath p) e));
  within = within;
  left = λ n e. each n (omega (arith, slice_get_within (replicate (length rows) Unseen) n Unseen e, length-replicate (length rows) Unseen));
  joined = λ low high one other e1 e2. absurd (none-some one e1);
  looked = λ g c n other f names. absurd (omega (arith, c.1));
  leads = λ g c n other e f. absurd (omega (arith, c.1));
  closed = λ n other d names. absurd (cc (all-unseen (length rows) n Done d));
  least = λ n d circle. absurd (cc (all-unseen (length rows) n Done d));
  first = tt;
}

circle-within : (rows : List Row) (name other : ℕ) → Leads rows name other → name < length rows
circle-within rows name other l = slice_get_within rows name (row-of name other l).0 (row-of name other l).1
  where
    some-row : (o : Option Row) (n : ℕ) → IsSomeAnd o (λ r. Contains r.named (id_at n)) → (row : Row) × (o ≡ Some row)
    some-row None n s = absurd s
    some-row (Some row) n s = (row, refl)

    row-of : (name other : ℕ) → Leads rows name other → (row : Row) × (slice_get rows name ≡ Some row)
    row-of name other (step {other = o} n) = some-row (slice_get rows name) o n
    row-of name other (more {next = next} n l) = some-row (slice_get rows name) next n

-- where nothing is ahead, all names are done
pub walk-end : (rows : List Row) (w : Walked) → IsWalk rows w → (w.groups ≡ []) × (w.ahead ≡ [])
    → MatchOption w.first ((place : ℕ) → IsOnCircle rows place → ⊥) (IsFirst (IsOnCircle rows))
walk-end rows w walk over = by w.first refl
  where
    all-done : (name : ℕ) → name < length rows → IsDone w.marks name
    all-done name l = mark-of (get_or w.marks name Unseen) (slice_get-get_or w.marks name Unseen (omega (arith, l, walk.count)))
      where
        empty : length w.path ≡ 0
        empty = subst (λ (x : List Group). AreStacked x (length w.path) (length w.ahead)) over.0 walk.stacked

        mark-of : (m : Mark) → slice_get w.marks name ≡ Some m → IsDone w.marks name
        mark-of Unseen e = absurd (let c : Contains [] name = subst (λ (x : List ℕ). Contains x name) over.1 (walk.left name e) in omega (arith, c.1))
        mark-of (OnPath p) e = absurd (omega (arith, empty, slice_get_within w.path p name (walk.found name p e)))
        mark-of Done e = e

    least : (name : ℕ) → IsOnCircle rows name → IsSomeAnd w.first (λ first. first ≤ name)
    least name circle = walk.least name (all-done name (circle-within rows name name circle)) circle

    by : (o : Option ℕ) → w.first ≡ o → MatchOption o ((place : ℕ) → IsOnCircle rows place → ⊥) (IsFirst (IsOnCircle rows))
    by None e = λ place circle. subst (λ (x : Option ℕ). IsSomeAnd x (λ first. first ≤ place)) e (least place circle)
    by (Some first) e = record {
      here = subst (λ (x : Option ℕ). IfSome x (IsOnCircle rows)) e walk.first;
      first = λ before l circle.
          let m : first ≤ before = subst (λ (x : Option ℕ). IsSomeAnd x (λ f. f ≤ before)) e (least before circle) in omega (arith, m, l);
    }
