use Rattle.std.proofs.Common.{◌≡◌, ◌<◌, ◌∷◌, [], ◌+◌, ◌++◌, List, ℕ, Bool, Option, false, not, Some, None, eqb, length, map, set, take, get_or, refl, subst, sym, ap, ◌∙◌, arith}
use Rattle.std.specs.List.{position}
use Rattle.std.specs.Option.{option_map_or}
use Rattle.std.specs.Str.{bytes_eq}
use Rattle.std.proofs.lemmas.Bool.{not-false, not-true}
use Rattle.std.proofs.lemmas.List.{get_or-map, length-map, length-set, take_more}
use Rattle.std.proofs.lemmas.Option.{slice_get_read}
use Rattle.vkb_formula.specs.Names.{AreDifferent}
use Rattle.reg_registry.specs.declared.registry.Enumerant.{Enumerant}
use Rattle.reg_forms.specs.declared.forms.EnumForm.{EnumForm}
use Rattle.reg_tables.specs.Lists.{is_among}
use Rattle.reg_rows.specs.Listing.{AreByType, enum_place}
use Rattle.reg_rows.specs.Rows.{declared_in, enumerant_row, names_in}
use Rattle.reg_rows.proofs.ListingLemmas.{by_type-known, by_type-more, changed-at}
use Rattle.reg_rows.proofs.RowLemmas.{among-is, at-is, enum-within}
use Rattle.reg_rows.proofs.building.values.enumerants_by_type.Goals as goal
use Rattle.reg_rows.proofs.building.values.enumerants_by_type.Goals.{then-is_at+in-Some+in_ok-made+in_ok-push, then-is_at+in_default, else-is_at}

pub enumerant-requires-clause-first : goal.enumerant-requires-clause-first
enumerant-requires-clause-first c =
    let f = c.args.tables.now in
    let i = c.loop-place.place in
    let row = c.row-item.result in
    let items : c.as_slice-row-items.result.now ≡ f.enumerants = c.as_slice-row-items.ensures ∙ ap (λ f. f.enumerants) c.forms.ensures in
    let within : i < length f.enumerants = omega (arith, ap length items) in
    let here : row ≡ get_or f.enumerants i row = c.row-item.is ∙ ap (λ xs. get_or xs i row) items in
    let found : c.enumerant_at.result ≡ position (λ other. bytes_eq row.name other.name) f.enumerants =
    c.enumerant_at.ensures ∙ ap (λ n. position (λ other. bytes_eq n other.name) f.enumerants) c.as_slice.ensures in
    (slice_get_read f.enumerants (length f.enumerants) i row refl within here, sym found ∙ at-is c.enumerant_at.result i (sym c.if-is_at.ensures))

pub index_mut-requires : goal.index_mut-requires
index_mut-requires c =
    let within = enum-within c.args.tables.now c.args.names.now c.as_slice-then-is_at.result.now c.in-Some.of c.in-Some.ensures in
    omega (arith, ap length c.requires.names, length-map (declared_in c.args.tables.now) (λ d. d.name), length-map c.loop-place.by_type.items (λ list. list.items), c.loop-place.invariant.one_each)

pub loop-place-preserved : goal.loop-place-preserved
loop-place-preserved c =
    let f = c.args.tables.now in
    let i = c.loop-place.place in
    let row = c.row-item.result in
    let items : c.as_slice-row-items.result.now ≡ f.enumerants = c.as_slice-row-items.ensures ∙ ap (λ f. f.enumerants) c.forms.ensures in
    let within : i < length f.enumerants = omega (arith, ap length items) in
    let here : row ≡ get_or f.enumerants i row = c.row-item.is ∙ ap (λ xs. get_or xs i row) items in
    let there = slice_get_read f.enumerants (length f.enumerants) i row refl within here in
    let found : c.enumerant_at.result ≡ position (λ other. bytes_eq row.name other.name) f.enumerants =
    c.enumerant_at.ensures ∙ ap (λ n. position (λ other. bytes_eq n other.name) f.enumerants) c.as_slice.ensures in
    let stood : Bool = is_among (map (λ e. e.name) (take i f.enumerants)) row.name in
    let known : not stood ≡ c.is_at.result =
    among-is (λ e. e.name) f.enumerants i row there c.is_at.result (ap (λ (o : Option ℕ). option_map_or (λ at. eqb at i) o false) (sym found) ∙ sym c.is_at.ensures) in
    let more : take i f.enumerants ++ row ∷ [] ≡ take (i + 1) f.enumerants = ap (λ (e : EnumForm). take i f.enumerants ++ e ∷ []) here ∙ sym (take_more f.enumerants i row within) in
    let lists = c.loop-place.by_type.items in
    let before = map (λ list. list.items) lists in
    let differ : AreDifferent (names_in f) = subst AreDifferent c.requires.names c.len.ensures.different in
    elim c.if-is_at.branch [
      | then-is_at+in-Some+in_ok-made+in_ok-push w ↦
          let of = w.in-Some.of in
          let pushed = w.push.new.self in
          let after = ap (λ v. map (λ list. list.items) v.items) w.by_type-is in
          let placed = enum-within f c.args.names.now w.as_slice-then-is_at.result.now of w.in-Some.ensures in
          let in_lists : of < length lists =
          omega (arith, placed, ap length c.requires.names, length-map (declared_in f) (λ d. d.name), length-map lists (λ list. list.items), c.loop-place.invariant.one_each) in
          let made = w.in_ok-push.ensures.items
          ∙ ap (λ front. front ++ w.in_ok-made.made ∷ []) (ap (λ list. list.items) w.index_mut.ensures.value ∙ sym (get_or-map (λ list. list.items) lists of w.index_mut.result.now [] in_lists))
          ∙ ap (λ (e : Enumerant). get_or before of [] ++ e ∷ []) w.in_ok-made.ensures in
          subst (λ (so_far : List EnumForm). AreByType f 0 so_far (map (λ list. list.items) c.if-is_at.by_type.items)) more
          (by_type-more f 0 (take i f.enumerants) row before (map (λ list. list.items) c.if-is_at.by_type.items) differ c.loop-place.invariant (not-true stood (known ∙ w.if-is_at.true)) (Some of)
          (w.in-Some.ensures ∙ ap (enum_place f c.args.names.now) w.as_slice-then-is_at.ensures ∙ ap (λ names. enum_place f names row.of) c.requires.names)
          (ap length after ∙ length-map (set lists of pushed) (λ list. list.items) ∙ length-set lists of pushed ∙ sym (length-map lists (λ list. list.items)))
          (λ p. ap (λ xs. get_or xs p []) after ∙ changed-at (λ list. list.items) (λ list. list ++ enumerant_row f row ∷ []) lists of p pushed in_lists made))
      | then-is_at+in_default w ↦
          let after = ap (λ v. map (λ list. list.items) v.items) w.by_type-is in
          subst (λ (so_far : List EnumForm). AreByType f 0 so_far (map (λ list. list.items) c.if-is_at.by_type.items)) more
          (by_type-more f 0 (take i f.enumerants) row before (map (λ list. list.items) c.if-is_at.by_type.items) differ c.loop-place.invariant (not-true stood (known ∙ w.if-is_at.true)) None
          (w.in_default.ensures ∙ ap (enum_place f c.args.names.now) w.as_slice-then-is_at.ensures ∙ ap (λ names. enum_place f names row.of) c.requires.names)
          (ap length after) (λ p. ap (λ xs. get_or xs p []) after))
      | else-is_at w ↦
          let after = ap (λ v. map (λ list. list.items) v.items) w.by_type-is in
          subst (λ (so_far : List EnumForm). AreByType f 0 so_far (map (λ list. list.items) c.if-is_at.by_type.items)) more
          (subst (AreByType f 0 (take i f.enumerants ++ row ∷ [])) (sym after)
          (by_type-known f 0 (take i f.enumerants) row before c.loop-place.invariant (not-false stood (known ∙ w.if-is_at.false))))
    ]
