use Rattle.std.proofs.Common.{◌<◌, All, List, Some, length, map, slice_get, ◌≡◌, sym, subst, ap, ◌∙◌, ℕ}
use Rattle.reg_registry.specs.Naming.{AreSound, IsOnCircle}
use Rattle.reg_registry.specs.declared.registry.Row.{Row}
use Rattle.reg_rows.proofs.AcceptedLemmas.{are-options, are-sound, few-names, named-within}
use Rattle.reg_rows.proofs.BuildLemmas.{found-within, named-circle, none-found, one-found, parts-are, rows-few}
use Rattle.reg_forms.specs.declared.forms.Forms.{Forms}
use Rattle.reg_rows.specs.Rows.{rows_of}
use Rattle.reg_registry.specs.Rows.{Rows}
use Rattle.reg_rows.proofs.building.build.Goals as goal

pub declared_names-requires : goal.declared_names-requires
declared_names-requires c = few-names c.args.tables.now c.requires.accepted.0 c.requires.accepted.1

pub option_names-requires : goal.option_names-requires
option_names-requires c =
    are-options c.args.tables.now c.requires.accepted.0 c.args.bits.now c.requires.small c.requires.once c.requires.accepted.1
    (c.requires.bits c.requires.accepted.0 c.requires.accepted.1.read)

pub option_rows-requires-clause-bits : goal.option_rows-requires-clause-bits
option_rows-requires-clause-bits c =
    are-options c.args.tables.now c.requires.accepted.0 c.args.bits.now c.requires.small c.requires.once c.requires.accepted.1
    (c.requires.bits c.requires.accepted.0 c.requires.accepted.1.read)

pub first_circle-requires-clause-ids : goal.first_circle-requires-clause-ids
first_circle-requires-clause-ids c =
    subst (λ (rows : List Row). All (λ row. All (λ id. id.0 < length rows) row.named) rows) (sym (c.deref.ensures.value ∙ c.in_ok-rows.ensures))
    (named-within c.args.tables.now)

pub first_circle-requires-clause-few : goal.first_circle-requires-clause-few
first_circle-requires-clause-few c =
    subst (λ (rows : List Row). length rows < 4294967296) (sym (c.deref.ensures.value ∙ c.in_ok-rows.ensures))
    (rows-few c.args.tables.now (few-names c.args.tables.now c.requires.accepted.0 c.requires.accepted.1))

pub names_at-requires : goal.names_at-requires
names_at-requires c =
    subst (λ (places : List ℕ). All (λ p. p < length c.in_ok-names.names) places) (sym c.deref-in-Some.ensures.value)
    (subst (λ (names : List (List ℕ)). All (λ p. p < length names) c.in-Some.places.items) (sym c.in_ok-names.ensures)
    (found-within c.args.tables.now c.in-Some.places.items
    (one-found _ _ c.deref.result.now c.in_ok-places.field-0 c.in-Some.places (c.deref.ensures.value ∙ c.in_ok-rows.ensures) c.in-Some.is c.in_ok-places.ensures)))

pub returns-in-Some : goal.returns-in-Some
returns-in-Some c = (
  c.requires.accepted.0,
  c.requires.accepted.1,
  named-circle c.args.tables.now c.requires.accepted.0 c.in-Some.places.items c.in_ok-names.names c.from_vec.result c.in_ok-names.ensures
      (one-found _ _ c.deref.result.now c.in_ok-places.field-0 c.in-Some.places (c.deref.ensures.value ∙ c.in_ok-rows.ensures) c.in-Some.is c.in_ok-places.ensures)
      (subst (λ (names : List (List ℕ)). map Some names ≡ map (slice_get c.in_ok-names.names) c.in-Some.places.items) (sym c.from_vec.ensures)
      (c.in_ok-names-2.ensures ∙ ap (map (slice_get c.in_ok-names.names)) c.deref-in-Some.ensures.value)),
)

pub from_parts-requires : goal.from_parts-requires
from_parts-requires c =
    subst AreSound (sym (parts-are c.args.tables.now c.requires.accepted.0 _ _ _ _ _ _ c.in_ok-names.ensures c.in_ok-rows.ensures
    (c.in_ok-options.ensures c.requires.accepted.0 c.requires.accepted.1.read) (c.in_ok-asked.ensures c.requires.accepted.0 c.requires.accepted.1.read)
    (c.in_ok-listed.ensures c.requires.accepted.0 c.requires.accepted.1.read) (c.in_ok-tags.ensures ∙ c.as_slice.ensures ∙ ap (λ (f : Forms). f.tags) c.forms.ensures)))
    (are-sound c.args.tables.now c.requires.accepted.0 c.requires.small c.requires.accepted.1
    (none-found _ _ c.deref.result.now c.in_ok-places.field-0 (c.deref.ensures.value ∙ c.in_ok-rows.ensures) c.in_default.is c.in_ok-places.ensures))

pub returns : goal.returns
returns c =
    let same : c.from_parts.result ≡ rows_of c.args.tables.now c.requires.accepted.0 =
    c.from_parts.ensures ∙ parts-are c.args.tables.now c.requires.accepted.0 _ _ _ _ _ _ c.in_ok-names.ensures c.in_ok-rows.ensures
    (c.in_ok-options.ensures c.requires.accepted.0 c.requires.accepted.1.read) (c.in_ok-asked.ensures c.requires.accepted.0 c.requires.accepted.1.read)
    (c.in_ok-listed.ensures c.requires.accepted.0 c.requires.accepted.1.read) (c.in_ok-tags.ensures ∙ c.as_slice.ensures ∙ ap (λ (f : Forms). f.tags) c.forms.ensures) in (
      c.requires.accepted.0,
      c.requires.accepted.1,
      same,
      subst (λ (r : Rows). (place : ℕ) → IsOnCircle r.rows place → ⊥) (sym same)
          (none-found _ _ c.deref.result.now c.in_ok-places.field-0 (c.deref.ensures.value ∙ c.in_ok-rows.ensures) c.in_default.is c.in_ok-places.ensures),
    )
