-- Only commands name commands: the first declaration of a name has the sort as which the name is mentioned.
use Rattle.std.proofs.Common.{◌≡◌, ◌<◌, ◌≤◌, ◌+◌, ◌⊎◌, ⊎_elim, inl, inr, ℕ, zero, suc, Bool, true, false, not, ◌&&◌, nat_lt, cond, List, [], ◌∷◌, ◌++◌, map, filter, slice_get, All, Option, Some, None, codes, option_map, refl, sym, ap, subst, ◌∙◌, arith}
use Rattle.std.specs.Prelude.{Contains}
use Rattle.std.specs.List.{cons_option, filter_map, flat_map, list_any}
use Rattle.std.specs.Option.{option_and_then, option_map_or}
use Rattle.std.specs.Str.{bytes_eq}
use Rattle.std.specs.Cmp.Lexicographic.{bytes_decides}
use Rattle.std.proofs.lemmas.Bool.{and_from, and_parts, both_ways, cases_Bool, lt-ltb, not-false, or_cases, true≢false}
use Rattle.std.proofs.lemmas.List.Elements.{All-append, All-cons, All-contains, All-filter, All-head, All-map, All-nil, All-tail}
use Rattle.std.proofs.lemmas.Option.{none-some, same_Some, slice_get-map}
use Rattle.vkb_formula.specs.Names.{place_of}
use Rattle.vkb_formula.specs.declared.name_table.NameId.{NameId}
use Rattle.reg_registry.specs.Rows.{Rows, id_at}
use Rattle.reg_registry.specs.declared.kinds.Kind.TheVariants as kind
use Rattle.reg_registry.specs.declared.registry.Row.{Row}
use Rattle.reg_reader.specs.Laws.{RiseFrom}
use Rattle.reg_forms.specs.declared.forms.Declaration.{Declaration}
use Rattle.reg_forms.specs.declared.forms.Fault.{Fault}
use Rattle.reg_forms.specs.declared.forms.Forms.{Forms}
use Rattle.reg_forms.specs.declared.forms.Mention.{Mention}
use Rattle.reg_forms.specs.declared.forms.RowCode.TheVariants.{DuplicateName, UnknownName}
use Rattle.reg_forms.specs.declared.forms.Sort.{Sort}
use Rattle.reg_forms.specs.declared.forms.Sort.TheVariants as sort
use Rattle.reg_forms.specs.Forms.{forms_of}
use Rattle.reg_forms.specs.Laws.{DeclarationsRise, IsCommandOrMentionsNone, IsTypeOrConstant, OnlyCommandsMentionCommands}
use Rattle.reg_tables.specs.Bits.{Readings}
use Rattle.reg_rows.specs.Commands.{OnlyCommandsNameCommands}
use Rattle.reg_rows.specs.Faults.{declared_besides, declared_twice, duplicates_in, faults_of, grouped_twice, of_two_types, offered_twice, unknown, unknown_alias, unknowns_in, without_flags}
use Rattle.reg_tables.specs.Wrong.{bad_text, fault_if, limits_in, wrong_values_in}
use Rattle.reg_rows.specs.Lists.{each_number}
use Rattle.reg_rows.specs.Rows.{declared_in, mentioned, named_of, names_in, row_of}
use Rattle.reg_tables.specs.Tables.{declaration_of, first_named, is_constant, is_declared, is_known, is_mask64, is_sort, shape_of, sort_of}
use Rattle.reg_rows.proofs.ApartLemmas.{all-firsts}
use Rattle.reg_rows.proofs.FirstRowsLemmas.{firsts-find}
use Rattle.reg_rows.proofs.ListLemmas.{all-numbers, nil-parts}
use Rattle.reg_rows.proofs.SoundNameLemmas.{no-fault}

-- what is nothing of all things together is nothing of each
none-each : {X Y : Type 0} (h : X → List Y) (xs : List X) → flat_map h xs ≡ [] → All (λ x. h x ≡ []) xs
none-each h [] none = All-nil (λ x. h x ≡ [])
none-each h (x ∷ xs) none =
    let parts = nil-parts (h x) (flat_map h xs) none in All-cons (λ x. h x ≡ []) x xs parts.0 (none-each h xs parts.1)

all-at : {X : Type 0} (P : X → Type 0) (xs : List X) (at : ℕ) (x : X) → All P xs → slice_get xs at ≡ Some x → P x
all-at P [] at x all there = absurd (none-some x there)
all-at P (first ∷ xs) zero x all there = subst P (same_Some first x there) (All-head P first xs all)
all-at P (first ∷ xs) (suc at) x all there = all-at P xs at x (All-tail P first xs all) there

abbrev places_of : List Declaration → List ℕ
places_of ds = map (λ d. d.place) ds

-- among declarations in the order of their places, of which something holds
module _ (named : Sort) (name : List ℕ) (P : Declaration → Type 0) where
  -- one of the sort has the name
  abbrev is_one : Declaration → Bool
  is_one d = is_sort named (sort_of d.kind) && bytes_eq name d.name

  -- one of that sort and name, not before a place
  abbrev OneFrom : ℕ → Type 0
  OneFrom low = (d : Declaration) × P d × (is_one d ≡ true) × (low ≤ d.place)

  one-lower : (low from : ℕ) → low ≤ from → OneFrom from → OneFrom low
  one-lower low from le (d, holds, one, behind) = (d, holds, one, omega (arith, le, behind))

  one-from : (ds : List Declaration) (low : ℕ) → RiseFrom low (places_of ds) → All P ds → list_any is_one ds ≡ true → OneFrom low
  one-from [] low rise all some = absurd (true≢false (sym some))
  one-from (d ∷ ds) low rise all some =
      ⊎_elim (λ one. (d, All-head P d ds all, one, rise.0))
      (λ later. one-lower low (d.place + 1) (omega (arith, rise.0)) (one-from ds (d.place + 1) rise.1 (All-tail P d ds all) later))
      (or_cases (is_one d) (list_any is_one ds) some)

  -- the first of the name is of the sort, or one that is stands behind it
  first-or-later : (ds : List Declaration) (low : ℕ) → RiseFrom low (places_of ds) → All P ds → (first : Declaration) → first_named (λ d. d.name) ds name ≡ Some first
      → list_any is_one ds ≡ true → (is_sort named (sort_of first.kind) ≡ true) ⊎ OneFrom (first.place + 1)
  first-or-later [] low rise all first found some = absurd (true≢false (sym some))
  first-or-later (d ∷ ds) low rise all first found some =
      elim (cases_Bool (bytes_eq name d.name)) [
        | inl same ↦
            let is : d ≡ first = same_Some d first (sym (ap (λ b. cond b (Some d) (first_named (λ d. d.name) ds name)) same) ∙ found) in
            subst (λ (d : Declaration). (is_sort named (sort_of d.kind) ≡ true) ⊎ OneFrom (d.place + 1)) is
            (⊎_elim (λ one. inl (and_parts (is_sort named (sort_of d.kind)) (bytes_eq name d.name) one).0)
            (λ later. inr (one-from ds (d.place + 1) rise.1 (All-tail P d ds all) later))
            (or_cases (is_one d) (list_any is_one ds) some))
        | inr differs ↦
            let rest : first_named (λ d. d.name) ds name ≡ Some first = sym (ap (λ b. cond b (Some d) (first_named (λ d. d.name) ds name)) differs) ∙ found in
            ⊎_elim (λ one. absurd (both_ways (bytes_eq name d.name) differs (and_parts (is_sort named (sort_of d.kind)) (bytes_eq name d.name) one).1))
            (first-or-later ds (d.place + 1) rise.1 (All-tail P d ds all) first rest)
            (or_cases (is_one d) (list_any is_one ds) some)
      ]

-- forms that have no faults, whose declarations stand in the order of their places
module _ (f : Forms) (rise : RiseFrom 0 (places_of f.declarations)) (once : All (λ d. declared_twice f d ≡ []) f.declarations) where
  -- a command doesn't stand before another declaration of its name
  never-twice : (first d : Declaration) → declaration_of f d.name ≡ Some first → first.kind ≡ kind.Command → first.place < d.place → declared_twice f d ≡ [] → ⊥
  never-twice first d found command before none =
      let test : Bool = nat_lt first.place d.place && not (is_constant first && is_constant d) in
      let fault : fault_if test DuplicateName d.place d.name ≡ [] =
      subst (λ o. option_map_or (λ (first : Declaration). fault_if (nat_lt first.place d.place && not (is_constant first && is_constant d)) DuplicateName d.place d.name) o [] ≡ []) found none in
      both_ways test (no-fault test DuplicateName d.place d.name fault)
      (and_from (nat_lt first.place d.place) (not (is_constant first && is_constant d)) (lt-ltb first.place d.place before)
      (ap (λ k. not (is_sort sort.Constant (sort_of k) && is_constant d)) command))

  -- a command isn't found where a type or a constant is
  never-found : (named : Sort) → is_sort named sort.Command ≡ false → (name : List ℕ) (first : Declaration) → is_declared f named name ≡ true
      → declaration_of f name ≡ Some first → first.kind ≡ kind.Command → ⊥
  never-found named other name first known found command =
      ⊎_elim (λ is. both_ways (is_sort named (sort_of first.kind)) (ap (λ k. is_sort named (sort_of k)) command ∙ other) is)
      (λ (later : OneFrom named name (λ d. declared_twice f d ≡ []) (first.place + 1)).
      let d = later.0 in
      let same : name ≡ d.name = (bytes_decides name d.name).0 (and_parts (is_sort named (sort_of d.kind)) (bytes_eq name d.name) later.2).1 in
      never-twice first d (ap (declaration_of f) (sym same) ∙ found) command (omega (arith, later.3)) later.1)
      (first-or-later named name (λ d. declared_twice f d ≡ []) f.declarations 0 rise once first found known)

  -- what has the name is no command
  abbrev NamesNone : List ℕ → Type 0
  NamesNone name = (at : ℕ) (named : Declaration) → place_of name (names_in f) ≡ Some at → slice_get (declared_in f) at ≡ Some named → named.kind ≡ kind.Command → ⊥

  known-none : (named : Sort) → is_sort named sort.Command ≡ false → (name : List ℕ) → is_declared f named name ≡ true → NamesNone name
  known-none named other name known at d place there command =
      let found : declaration_of f name ≡ Some d = firsts-find (λ d. d.name) name f.declarations ∙ ap (option_and_then (slice_get (declared_in f))) place ∙ there in
      never-found named other name d known found command

  mention-none : (m : Mention) → IsTypeOrConstant m.sort → unknown f m ≡ [] → NamesNone m.name
  mention-none m is none =
      let known : is_known f m.sort m.name ≡ true = not-false (is_known f m.sort m.name) (no-fault (not (is_known f m.sort m.name)) UnknownName m.place m.name none) in
      elim is [
        | inl type ↦ known-none sort.Type refl m.name (subst (λ (s : Sort). is_known f s m.name ≡ true) type known)
        | inr constant ↦ known-none sort.Constant refl m.name (subst (λ (s : Sort). is_known f s m.name ≡ true) constant known)
      ]

  mentions-none : (ms : List Mention) → All (λ m. IsTypeOrConstant m.sort) ms → flat_map (unknown f) ms ≡ [] → All (λ m. NamesNone m.name) ms
  mentions-none [] sorts none = All-nil (λ m. NamesNone m.name)
  mentions-none (m ∷ ms) sorts none =
      let parts = nil-parts (unknown f m) (flat_map (unknown f) ms) none in
      All-cons (λ m. NamesNone m.name) m ms (mention-none m (All-head (λ m. IsTypeOrConstant m.sort) m ms sorts) parts.0)
      (mentions-none ms (All-tail (λ m. IsTypeOrConstant m.sort) m ms sorts) parts.1)

  -- the type of flags of 64 bits, where it is named
  flags-none : (d : Declaration) (masks : Bool) → fault_if (masks && not (is_known f sort.Type (codes "VkFlags64"))) UnknownName d.place (codes "VkFlags64") ≡ []
      → All NamesNone (cond masks (codes "VkFlags64" ∷ []) [])
  flags-none d false none = All-nil NamesNone
  flags-none d true none =
      let known : is_known f sort.Type (codes "VkFlags64") ≡ true =
      not-false (is_known f sort.Type (codes "VkFlags64")) (no-fault (not (is_known f sort.Type (codes "VkFlags64"))) UnknownName d.place (codes "VkFlags64") none) in
      All-cons NamesNone (codes "VkFlags64") [] (known-none sort.Type refl (codes "VkFlags64") known) (All-nil NamesNone)

  -- what stands at the place is no command
  abbrev IsNone : ℕ → Type 0
  IsNone at = (named : Declaration) → slice_get (declared_in f) at ≡ Some named → named.kind ≡ kind.Command → ⊥

  found-none : (names : List (List ℕ)) → All NamesNone names → All IsNone (filter_map (λ name. place_of name (names_in f)) names)
  found-none [] all = All-nil IsNone
  found-none (name ∷ names) all =
      one-found name (All-head NamesNone name names all) (place_of name (names_in f)) refl (filter_map (λ name. place_of name (names_in f)) names)
      (found-none names (All-tail NamesNone name names all))
    where
      one-found : (name : List ℕ) → NamesNone name → (o : Option ℕ) → place_of name (names_in f) ≡ o → (rest : List ℕ) → All IsNone rest → All IsNone (cons_option o rest)
      one-found name none None e rest others = others
      one-found name none (Some at) e rest others = All-cons IsNone at rest (λ named there command. none at named e there command) others

  -- what it names that is no command
  named-none : (d : Declaration) → All (λ m. IsTypeOrConstant m.sort) d.mentions → flat_map (unknown f) d.mentions ≡ [] → without_flags f d ≡ [] → All (λ (id : NameId). IsNone id.0) (named_of f d)
  named-none d sorts none flags =
      let masks : List (List ℕ) = cond (is_mask64 (shape_of f d)) (codes "VkFlags64" ∷ []) [] in
      let all : All NamesNone (mentioned f d) =
      All-append NamesNone (map (λ m. m.name) d.mentions) masks
      (All-map NamesNone (λ m. m.name) d.mentions (mentions-none d.mentions sorts none)) (flags-none d (is_mask64 (shape_of f d)) flags) in
      let others : List (List ℕ) = filter (λ name. not (bytes_eq d.name name)) (mentioned f d) in
      let places : List ℕ = filter_map (λ name. place_of name (names_in f)) others in
      All-map (λ (id : NameId). IsNone id.0) id_at (each_number places)
      (all-numbers IsNone places (found-none others (All-filter (λ name. not (bytes_eq d.name name)) NamesNone (mentioned f d) all)))

module _ (f : Forms) (readings : Readings) (sound : faults_of f readings ≡ []) where
  -- the rules, one after another, each of which finds nothing
  unknowns-before : f.faults ++ flat_map bad_text readings ++ duplicates_in f ++ unknowns_in f ≡ []
  unknowns-before =
      (nil-parts (f.faults ++ flat_map bad_text readings ++ duplicates_in f ++ unknowns_in f) (wrong_values_in f)
      (nil-parts (f.faults ++ flat_map bad_text readings ++ duplicates_in f ++ unknowns_in f ++ wrong_values_in f) (limits_in f readings) sound).0).0

  unknowns-none : unknowns_in f ≡ []
  unknowns-none = (nil-parts (f.faults ++ flat_map bad_text readings ++ duplicates_in f) (unknowns_in f) unknowns-before).1

  duplicates-none : duplicates_in f ≡ []
  duplicates-none =
      (nil-parts (f.faults ++ flat_map bad_text readings) (duplicates_in f)
      (nil-parts (f.faults ++ flat_map bad_text readings ++ duplicates_in f) (unknowns_in f) unknowns-before).0).1

  abbrev twice : List Fault
  twice = flat_map (declared_twice f) f.declarations

  none-twice : All (λ d. declared_twice f d ≡ []) f.declarations
  none-twice =
      let groups = (nil-parts (twice ++ offered_twice [] f.options ++ flat_map (grouped_twice f) f.groups ++ flat_map (of_two_types f) f.enumerants) (flat_map (declared_besides f) f.enumerants) duplicates-none).0 in
      let types = (nil-parts (twice ++ offered_twice [] f.options ++ flat_map (grouped_twice f) f.groups) (flat_map (of_two_types f) f.enumerants) groups).0 in
      let two = (nil-parts (twice ++ offered_twice [] f.options) (flat_map (grouped_twice f) f.groups) types).0 in
      none-each (declared_twice f) f.declarations (nil-parts twice (offered_twice [] f.options) two).0

  abbrev mentions : List Fault
  mentions = flat_map (λ d. flat_map (unknown f) d.mentions) f.declarations

  abbrev entries : List Fault
  entries = flat_map (λ entry. unknown f entry.mention) f.entries

  none-unknown : All (λ d. flat_map (unknown f) d.mentions ≡ []) f.declarations
  none-unknown =
      let aliases = (nil-parts (mentions ++ entries ++ flat_map (unknown f) f.mentions ++ flat_map (unknown_alias f) f.enumerants) (flat_map (without_flags f) f.declarations) unknowns-none).0 in
      let besides = (nil-parts (mentions ++ entries ++ flat_map (unknown f) f.mentions) (flat_map (unknown_alias f) f.enumerants) aliases).0 in
      let listed = (nil-parts (mentions ++ entries) (flat_map (unknown f) f.mentions) besides).0 in
      none-each (λ d. flat_map (unknown f) d.mentions) f.declarations (nil-parts mentions entries listed).0

  none-without : All (λ d. without_flags f d ≡ []) f.declarations
  none-without =
      none-each (without_flags f) f.declarations
      (nil-parts (mentions ++ entries ++ flat_map (unknown f) f.mentions ++ flat_map (unknown_alias f) f.enumerants) (flat_map (without_flags f) f.declarations) unknowns-none).1

  module _ (rise : RiseFrom 0 (places_of f.declarations)) (sorts : All IsCommandOrMentionsNone f.declarations) where
    -- a declaration at a place names a command at another
    declared-command : (place other : ℕ) (d named : Declaration) → slice_get (declared_in f) place ≡ Some d → slice_get (declared_in f) other ≡ Some named
        → Contains (named_of f d) (id_at other) → named.kind ≡ kind.Command → d.kind ≡ kind.Command
    declared-command place other d named here there names command =
        let first_each : (P : Declaration → Type 0) → All P f.declarations → P d = λ P all. all-at P (declared_in f) place d (all-firsts (λ d. d.name) P [] f.declarations all) here in
        elim (first_each IsCommandOrMentionsNone sorts) [
          | inl is ↦ is
          | inr types ↦
              absurd (All-contains (λ (id : NameId). IsNone f rise none-twice id.0) (named_of f d) (id_at other)
              (named-none f rise none-twice d types (first_each (λ d. flat_map (unknown f) d.mentions ≡ []) none-unknown) (first_each (λ d. without_flags f d ≡ []) none-without))
              names named there command)
        ]

    row-command : (place other : ℕ) (row named : Row) → slice_get (map (row_of f) (declared_in f)) place ≡ Some row → slice_get (map (row_of f) (declared_in f)) other ≡ Some named
        → Contains row.named (id_at other) → named.kind ≡ kind.Command → row.kind ≡ kind.Command
    row-command place other row named here there names command =
        let one = made place row here in
        let also = made other named there in
        ap (λ (r : Row). r.kind) (sym one.2)
        ∙ declared-command place other one.0 also.0 one.1 also.1 (subst (λ (r : Row). Contains r.named (id_at other)) (sym one.2) names) (ap (λ (r : Row). r.kind) also.2 ∙ command)
      where
        -- the declaration of which a row is made
        made : (at : ℕ) (row : Row) → slice_get (map (row_of f) (declared_in f)) at ≡ Some row → (d : Declaration) × (slice_get (declared_in f) at ≡ Some d) × (row_of f d ≡ row)
        made at row there = go (slice_get (declared_in f) at) refl
          where
            go : (o : Option Declaration) → slice_get (declared_in f) at ≡ o → (d : Declaration) × (slice_get (declared_in f) at ≡ Some d) × (row_of f d ≡ row)
            go None e = absurd (none-some row (sym (ap (option_map (row_of f)) e) ∙ sym (slice_get-map (row_of f) (declared_in f) at) ∙ there))
            go (Some d) e = (d, e, same_Some (row_of f d) row (sym (ap (option_map (row_of f)) e) ∙ sym (slice_get-map (row_of f) (declared_in f) at) ∙ there))

pub only-commands : DeclarationsRise → OnlyCommandsMentionCommands → OnlyCommandsNameCommands
only-commands rise sorts b api root r place other row named spelled (readings, accepted, same, no_circle) here there names command =
    row-command (forms_of api root) readings accepted.sound (rise b api root spelled) (sorts api root) place other row named
    (subst (λ (r : Rows). slice_get r.rows place ≡ Some row) same here)
    (subst (λ (r : Rows). slice_get r.rows other ≡ Some named) same there) names command
