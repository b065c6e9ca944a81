-- The header that is written has each name of the closure once, behind all that it names.
use Rattle.std.proofs.Common.{inl, inr, ⊎_elim, ◌≡◌, ℕ, zero, suc, ◌<◌, Bool, true, false, not, cond, List, [], ◌∷◌, ◌++◌, codes, filter, map, Option, Some, None, slice_get, Contains, option_map, refl, sym, ap, ◌∙◌, subst, arith, append_assoc}
use Rattle.std.specs.Prelude.{IsSomeAnd}
use Rattle.std.specs.List.{flat_map}
use Rattle.std.specs.Option.{option_map_or}
use Rattle.std.proofs.lemmas.Bool.{cases_Bool, false≢true}
use Rattle.std.proofs.lemmas.Grind.{flat_map-append}
use Rattle.std.proofs.lemmas.List.{map-append}
use Rattle.std.proofs.lemmas.List.Elements.{Contains-append_cases, Contains-append_left, Contains-append_right, filter-append}
use Rattle.std.proofs.lemmas.Option.{none-some, same_Some, slice_get-map}
use Rattle.vkb_formula.specs.declared.name_table.NameId.{NameId}
use Rattle.reg_registry.specs.Naming.{Names, NoneTwice}
use Rattle.reg_registry.specs.Rows.{Rows, id_at}
use Rattle.reg_registry.specs.declared.kinds.Kind.{Kind}
use Rattle.reg_registry.specs.declared.kinds.Kind.TheVariants as kind
use Rattle.reg_registry.specs.declared.registry.Row.{Row}
use Rattle.reg_closure.specs.Existence.{OrdersHaveAll}
use Rattle.reg_closure.specs.Laws.{ClosuresAreClosed}
use Rattle.reg_closure.specs.Orders.{StandBehind}
use Rattle.reg_rows.specs.Commands.{OnlyCommandsNameCommands}
use Rattle.reg_closure.proofs.NumberLemmas.{none-twice}
use Rattle.reg_closure.proofs.PlacedLemmas.{Contains-cases, Contains-first, Contains-map, Contains-rest, place-of}
use Rattle.hdr_writer.specs.Declarations.{declaration}
use Rattle.hdr_writer.specs.Headers.{defines, header, is_command, is_command_kind, prologue}
use Rattle.hdr_writer.specs.Lines.{line}
use Rattle.vkb_tool.specs.Laws.{HeadersAreWhole, StandsBefore, written_order}
use Rattle.vkb_tool.specs.Registry.{IsRegistry}
use Rattle.vkb_tool.proofs.HeaderLemmas.{rows_counted, rows_in_no_circle}
use Rattle.vkb_tool.proofs.ListLemmas.{Contains-filter}

-- the places of names
abbrev places_of : List NameId → List ℕ
places_of ids = map (λ id. id.0) ids

-- ---- those that pass a test

module _ (test : NameId → Bool) where
  passed_first : (id : NameId) (ids : List NameId) → test id ≡ true → filter test (id ∷ ids) ≡ id ∷ filter test ids
  passed_first id ids passes = ap (λ (b : Bool). cond b (id ∷ filter test ids) (filter test ids)) passes

  failed_first : (id : NameId) (ids : List NameId) → test id ≡ false → filter test (id ∷ ids) ≡ filter test ids
  failed_first id ids fails = ap (λ (b : Bool). cond b (id ∷ filter test ids) (filter test ids)) fails

  -- a place of one that passes is a place of one, and that passes
  passed : (ids : List NameId) (place : ℕ) → Contains (places_of (filter test ids)) place → Contains (places_of ids) place × (test (id_at place) ≡ true)
  passed [] place c = absurd (let below = c.1 in omega arith)
  passed (id ∷ ids) place c =
      elim (cases_Bool (test id)) [
        | inl passes ↦
            ⊎_elim (λ (same : id.0 ≡ place). (subst (Contains (id.0 ∷ places_of ids)) same (Contains-first id.0 (places_of ids)), subst (λ (n : ℕ). test (id_at n) ≡ true) same passes))
            (λ later. let rest = passed ids place later in (Contains-rest id.0 (places_of ids) place rest.0, rest.1))
            (Contains-cases id.0 (places_of (filter test ids)) place (subst (λ (xs : List NameId). Contains (places_of xs) place) (passed_first id ids passes) c))
        | inr fails ↦
            let rest = passed ids place (subst (λ (xs : List NameId). Contains (places_of xs) place) (failed_first id ids fails) c) in
            (Contains-rest id.0 (places_of ids) place rest.0, rest.1)
      ]

  -- none of them stands twice where none stands twice
  once_passed : (ids : List NameId) → NoneTwice (places_of ids) → NoneTwice (places_of (filter test ids))
  once_passed [] once = tt
  once_passed (id ∷ ids) once =
      elim (cases_Bool (test id)) [
        | inl passes ↦
            subst (λ (xs : List NameId). NoneTwice (places_of xs)) (sym (passed_first id ids passes)) ((λ c. once.0 (passed ids id.0 c).0), once_passed ids once.1)
        | inr fails ↦ subst (λ (xs : List NameId). NoneTwice (places_of xs)) (sym (failed_first id ids fails)) (once_passed ids once.1)
      ]

  -- and they stand as they stood
  before_passed : (ids : List NameId) (first second : NameId) → StandsBefore ids first second → test first ≡ true → test second ≡ true → StandsBefore (filter test ids) first second
  before_passed ids first second (front, middle, back, split) one other =
      let behind : filter test (middle ++ second ∷ back) ≡ filter test middle ++ second ∷ filter test back =
      filter-append test middle (second ∷ back) ∙ ap (λ (xs : List NameId). filter test middle ++ xs) (passed_first second back other) in (
        filter test front,
        filter test middle,
        filter test back,
        ap (filter test) split
            ∙ filter-append test front (first ∷ (middle ++ second ∷ back))
            ∙ ap (λ (xs : List NameId). filter test front ++ xs) (passed_first first (middle ++ second ∷ back) one ∙ ap (λ (xs : List NameId). first ∷ xs) behind),
      )

-- ---- lists by their parts

-- two lists, of which none has what the other has
once_both : (xs ys : List ℕ) → NoneTwice xs → NoneTwice ys → ((place : ℕ) → Contains xs place → Contains ys place → ⊥) → NoneTwice (xs ++ ys)
once_both [] ys once others apart = others
once_both (x ∷ xs) ys once others apart = (
  (λ c. ⊎_elim once.0 (apart x (Contains-first x xs)) (Contains-append_cases xs ys x c)),
  once_both xs ys once.1 others (λ place a. apart place (Contains-rest x xs place a)),
)

-- the name at a place is among those whose places have it
id_among : (ids : List NameId) (place : ℕ) → Contains (places_of ids) place → Contains ids (id_at place)
id_among [] place c = absurd (let below = c.1 in omega arith)
id_among (id ∷ ids) place c =
    ⊎_elim (λ (same : id.0 ≡ place). subst (λ (n : ℕ). Contains (id ∷ ids) (id_at n)) same (Contains-first id ids))
    (λ later. Contains-rest id ids (id_at place) (id_among ids place later)) (Contains-cases id.0 (places_of ids) place c)

-- what stands at a place parts a list
parted : (ids : List NameId) (at : ℕ) (id : NameId) → slice_get ids at ≡ Some id → (front back : List NameId) × (ids ≡ front ++ id ∷ back)
parted [] at id e = absurd (none-some id e)
parted (first ∷ ids) zero id e = ([], ids, ap (λ (x : NameId). x ∷ ids) (same_Some first id e))
parted (first ∷ ids) (suc at) id e = let rest = parted ids at id e in (first ∷ rest.0, rest.1, ap (λ (xs : List NameId). first ∷ xs) rest.2)

-- and what stands at two
parted_twice : (ids : List NameId) (before at : ℕ) (first second : NameId) → before < at → slice_get ids before ≡ Some first → slice_get ids at ≡ Some second → StandsBefore ids first second
parted_twice [] before at first second below one other = absurd (none-some first one)
parted_twice (id ∷ ids) before zero first second below one other = absurd (omega arith)
parted_twice (id ∷ ids) zero (suc at) first second below one other =
    let rest = parted ids at second other in ([], rest.0, rest.1, ap (λ (x : NameId). x ∷ ids) (same_Some id first one) ∙ ap (λ (xs : List NameId). first ∷ xs) rest.2)
parted_twice (id ∷ ids) (suc before) (suc at) first second below one other =
    let rest = parted_twice ids before at first second (omega arith) one other in (id ∷ rest.0, rest.1, rest.2, ap (λ (xs : List NameId). id ∷ xs) rest.3)

-- the one in the one list and the other in the next
before_across : (xs ys : List NameId) (first second : NameId) → Contains xs first → Contains ys second → StandsBefore (xs ++ ys) first second
before_across xs ys first second one other =
    let at = place-of xs first one in
    let then = place-of ys second other in
    let left = parted xs at.0 first at.1 in
    let right = parted ys then.0 second then.1 in (
      left.0,
      left.1 ++ right.0,
      right.1,
      ap (λ (l : List NameId). l ++ ys) left.2
          ∙ append_assoc left.0 (first ∷ left.1) ys
          ∙ ap (λ (r : List NameId). left.0 ++ first ∷ (left.1 ++ r)) right.2
          ∙ ap (λ (r : List NameId). left.0 ++ first ∷ r) (sym (append_assoc left.1 right.0 (second ∷ right.1))),
    )

-- both in the one list, with others behind them
before_left : (xs ys : List NameId) (first second : NameId) → StandsBefore xs first second → StandsBefore (xs ++ ys) first second
before_left xs ys first second (front, middle, back, split) = (
  front,
  middle,
  back ++ ys,
  ap (λ (l : List NameId). l ++ ys) split
      ∙ append_assoc front (first ∷ (middle ++ second ∷ back)) ys
      ∙ ap (λ (r : List NameId). front ++ first ∷ r) (append_assoc middle (second ∷ back) ys),
)

-- or before them
before_right : (xs ys : List NameId) (first second : NameId) → StandsBefore ys first second → StandsBefore (xs ++ ys) first second
before_right xs ys first second (front, middle, back, split) =
    (xs ++ front, middle, back, ap (λ (r : List NameId). xs ++ r) split ∙ sym (append_assoc xs front (first ∷ (middle ++ second ∷ back))))

-- ---- the header

module _ (r : Rows) (chosen : List Bool) (order : List NameId) where
  abbrev is_type : NameId → Bool
  is_type id = not (is_command r id)

  abbrev types : List NameId
  types = filter is_type order

  abbrev commands : List NameId
  commands = filter (is_command r) order

  -- the declarations in the order in which they are written
  written_text : header r chosen order ≡ prologue ++ defines r chosen ++ flat_map (declaration r chosen) (written_order r order) ++ line (codes "#endif" ∷ [])
  written_text = ap (λ (text : List ℕ). prologue ++ defines r chosen ++ text ++ line (codes "#endif" ∷ [])) (sym (flat_map-append (declaration r chosen) types commands))

  -- no name is a command and none
  never_both : (place : ℕ) → Contains (places_of types) place → Contains (places_of commands) place → ⊥
  never_both place one other = false≢true (sym (ap not (passed (is_command r) order place other).1) ∙ (passed is_type order place one).1)

  module _ (once : NoneTwice (places_of order)) (behind : StandBehind r.rows (places_of order)) where
    written_once : NoneTwice (places_of (written_order r order))
    written_once =
        subst NoneTwice (sym (map-append (λ (id : NameId). id.0) types commands))
        (once_both (places_of types) (places_of commands) (once_passed is_type order once) (once_passed (is_command r) order once) never_both)

    -- a name of the order is written
    written_all : (id : NameId) → Contains order id → Contains (written_order r order) id
    written_all id among =
        elim (cases_Bool (is_command r id)) [
          | inl command ↦ Contains-append_right types commands id (Contains-filter (is_command r) order id among command)
          | inr other ↦ Contains-append_left types commands id (Contains-filter is_type order id among (ap not other))
        ]

    -- and no other
    written_only : (id : NameId) → Contains (written_order r order) id → Contains (places_of order) id.0
    written_only id among =
        ⊎_elim (λ one. (passed is_type order id.0 (Contains-map (λ (i : NameId). i.0) types id one)).0)
        (λ other. (passed (is_command r) order id.0 (Contains-map (λ (i : NameId). i.0) commands id other)).0)
        (Contains-append_cases types commands id among)

    -- what a name of the order names stands before it there
    named_before : (id other : NameId) → Contains order id → Names r.rows id.0 other.0 → StandsBefore order other id
    named_before id other among names =
        let at = place-of order id among in
        let here : slice_get (places_of order) at.0 ≡ Some id.0 = slice_get-map (λ (i : NameId). i.0) order at.0 ∙ ap (option_map (λ (i : NameId). i.0)) at.1 in
        let before = behind at.0 id.0 other.0 here names in
        parted_twice order before.0 at.0 other id before.1 (found_id order before.0 other before.2) at.1
      where
        found_id : (ids : List NameId) (at : ℕ) (id : NameId) → slice_get (places_of ids) at ≡ Some id.0 → slice_get ids at ≡ Some id
        found_id [] at id e = absurd (none-some id.0 e)
        found_id (first ∷ ids) zero id e = ap (λ (n : ℕ). Some (id_at n)) (same_Some first.0 id.0 e)
        found_id (first ∷ ids) (suc at) id e = found_id ids at id e

    written_behind : (id other : NameId) → Contains (written_order r order) id → Names r.rows id.0 other.0 → (is_command r other ≡ true → is_command r id ≡ true) → StandsBefore (written_order r order) other id
    written_behind id other among names command_too =
        let held = id_among order id.0 (written_only id among) in
        let before = named_before id other held names in
        elim (cases_Bool (is_command r id)) [
          | inl command ↦ elim (cases_Bool (is_command r other)) [
            | inl also ↦ before_right types commands other id (before_passed (is_command r) order other id before also command)
            | inr type ↦
                before_across types commands other id (Contains-filter is_type order other (first_of_two before) (ap not type)) (Contains-filter (is_command r) order id held command)
          ]
          | inr no_command ↦ elim (cases_Bool (is_command r other)) [
            | inl also ↦ absurd (false≢true (sym no_command ∙ command_too also))
            | inr type ↦ before_left types commands other id (before_passed is_type order other id before (ap not type) (ap not no_command))
          ]
        ]
      where
        first_of_two : StandsBefore order other id → Contains order other
        first_of_two (front, middle, back, split) = subst (λ (ids : List NameId). Contains ids other) (sym split) (Contains-append_right front (other ∷ (middle ++ id ∷ back)) other (Contains-first other (middle ++ id ∷ back)))

kind_of_command : (k : Kind) → is_command_kind k ≡ true → k ≡ kind.Command
kind_of_command kind.Command is = refl
kind_of_command _ is = absurd (false≢true is)

-- in a registry that was read what names a command is a command
command_too : OnlyCommandsNameCommands → (found : Option (List ℕ)) (api : List ℕ) (r : Rows) → IsRegistry found api r → (id other : NameId) → Names r.rows id.0 other.0 → is_command r other ≡ true → is_command r id ≡ true
command_too only found api r read id other = go (slice_get r.rows id.0) (slice_get r.rows other.0) refl refl
  where
    go : (naming named : Option Row) → slice_get r.rows id.0 ≡ naming → slice_get r.rows other.0 ≡ named → IsSomeAnd naming (λ row. Contains row.named (id_at other.0))
        → option_map_or (λ row. is_command_kind row.kind) named false ≡ true → option_map_or (λ row. is_command_kind row.kind) naming false ≡ true
    go None named here there names command = absurd names
    go (Some row) None here there names command = absurd (false≢true command)
    go (Some row) (Some named) here there names command =
        ap is_command_kind (only read.bytes api read.root r id.0 other.0 row named read.spelled read.answered here there names (kind_of_command named.kind command))

pub headers_whole : ClosuresAreClosed → OrdersHaveAll → OnlyCommandsNameCommands → HeadersAreWhole
headers_whole closed have_all only files registry api names r chosen order is =
    let counted = rows_counted (files registry) api r is.read in
    let whole = have_all r is.set (places_of order) counted (rows_in_no_circle (files registry) api r is.read) is.closure.count (closed r chosen is.set is.closure) is.ordered in
    let once = none-twice (places_of order) whole.0.once in
    record {
      text = written_text r chosen order;
      only = λ id among. is.closure.has_only id.0 (whole.0.only id.0 (written_only r chosen order once whole.1 id among));
      all = λ id inside. written_all r chosen order once whole.1 id (id_among order id.0 (whole.0.all id.0 (is.closure.has_all id.0 inside)));
      once = written_once r chosen order once whole.1;
      behind = λ id other among naming. written_behind r chosen order once whole.1 id other among naming (command_too only (files registry) api r is.read id other naming);
    }
