-- Types read one after another, with the names of those before in two tables.
use Rattle.std.proofs.Common.{◌≡◌, ℕ, List, [], ◌∷◌, ◌++◌, true, ◌&&◌, Some, is_none, codes, filter, append_assoc, refl, sym, ap, subst, ◌∙◌}
use Rattle.std.specs.List.{filter_map, flat_map}
use Rattle.std.proofs.lemmas.Grind.{flat_map-append}
use Rattle.std.proofs.lemmas.List.{append-nil}
use Rattle.std.proofs.lemmas.List.Elements.{filter_map-append}
use Rattle.reg_registry.specs.declared.kinds.Kind.{Kind}
use Rattle.reg_reader.specs.Views.{Element}
use Rattle.reg_forms.specs.declared.forms.Declaration.{Declaration}
use Rattle.reg_forms.specs.Attributes.{children, counts, is_named, value_of}
use Rattle.reg_forms.specs.Declarations.{declaration_in, is_enum_kind, is_enum_row, kind_of, type_items, type_name, type_row}
use Rattle.reg_forms.specs.EnumTypes.{AreNamesOf, rows_in, rows_of}
use Rattle.reg_forms.proofs.ItemLemmas.{flat_map-counted}
use Rattle.reg_forms.proofs.RowLemmas.{rows_of-named}

-- the types that these children of a block declare
abbrev pub rows_among : List ℕ → List Element → List Declaration
rows_among api es = filter_map declaration_in (flat_map (type_items api) (filter (is_named (codes "type")) es))

-- the types that the blocks among these children of the root declare
abbrev pub rows_among_blocks : List ℕ → List Element → List Declaration
rows_among_blocks api es =
    filter_map declaration_in (flat_map (type_items api) (flat_map (children (codes "type")) (filter (is_named (codes "types")) es)))

-- the tables have the names of those of all types that aren't ahead
pub record IsPartRead (ahead all : List Declaration) (enums others : List (List ℕ)) : Type 0 where
  pub read : List Declaration
  pub cut : read ++ ahead ≡ all
  pub names : AreNamesOf read enums others

pub part_read : (said old ahead all : List Declaration) (enums others enums_then others_then : List (List ℕ)) → old ≡ said ++ ahead → ((rows : List Declaration) → AreNamesOf rows enums others → AreNamesOf (rows ++ said) enums_then others_then) → IsPartRead old all enums others → IsPartRead ahead all enums_then others_then
part_read said old ahead all enums others enums_then others_then first put so_far = record {
  read = so_far.read ++ said;
  cut = append_assoc so_far.read said ahead ∙ ap (λ r. so_far.read ++ r) (sym first) ∙ so_far.cut;
  names = put so_far.read so_far.names;
}

module _ (api : List ℕ) (e : Element) (old es : List Element) (first : old ≡ e ∷ es) where
  pub rows_among-counted : is_named (codes "type") e ≡ true → rows_among api old ≡ rows_of api e ++ rows_among api es
  rows_among-counted is_so =
      ap (rows_among api) first
      ∙ ap (filter_map declaration_in) (flat_map-counted (type_items api) (is_named (codes "type")) e es is_so)
      ∙ filter_map-append declaration_in (type_items api e) (flat_map (type_items api) (filter (is_named (codes "type")) es))

  pub rows_among_blocks-counted : is_named (codes "types") e ≡ true → rows_among_blocks api old ≡ rows_in api e ++ rows_among_blocks api es
  rows_among_blocks-counted is_so =
      let rest = flat_map (children (codes "type")) (filter (is_named (codes "types")) es) in
      ap (rows_among_blocks api) first
      ∙ ap (λ types. filter_map declaration_in (flat_map (type_items api) types)) (flat_map-counted (children (codes "type")) (is_named (codes "types")) e es is_so)
      ∙ ap (filter_map declaration_in) (flat_map-append (type_items api) (children (codes "type") e) rest)
      ∙ filter_map-append declaration_in (flat_map (type_items api) (children (codes "type") e)) (flat_map (type_items api) rest)

-- an element that declares nothing
pub none_read : (api : List ℕ) (e : Element) (enums others : List (List ℕ)) → rows_of api e ≡ [] → (rows : List Declaration) → AreNamesOf rows enums others → AreNamesOf (rows ++ rows_of api e) enums others
none_read api e enums others none rows names =
    subst (λ r. AreNamesOf r enums others) (sym (append-nil rows) ∙ ap (λ r. rows ++ r) (sym none)) names

-- an element that declares a type, under its name
pub one_read : (api : List ℕ) (e : Element) (kind : Kind) (name given : List ℕ) (enums others enums_then others_then : List (List ℕ)) → counts api e ≡ true → kind_of e ≡ Some kind → type_name kind e ≡ Some name → given ≡ name → ((rows : List Declaration) (row : Declaration) → row.name ≡ given → is_enum_row row ≡ (is_enum_kind kind && is_none (value_of (codes "alias") e)) → AreNamesOf rows enums others → AreNamesOf (rows ++ row ∷ []) enums_then others_then) → (rows : List Declaration) → AreNamesOf rows enums others → AreNamesOf (rows ++ rows_of api e) enums_then others_then
one_read api e kind name given enums others enums_then others_then counted known named same put rows names =
    subst (λ r. AreNamesOf (rows ++ r) enums_then others_then) (sym (rows_of-named api e counted kind known name named)) (put rows (type_row api kind e name) (sym same) refl names)
