-- What the elements of types and commands say, case by case.
use Rattle.std.proofs.Common.{◌≡◌, ℕ, List, [], ◌∷◌, ◌++◌, true, false, Some, None, codes, is_some, map, cond, ap, ◌∙◌}
use Rattle.reg_registry.specs.declared.kinds.Kind.{Kind}
use Rattle.reg_reader.specs.Views.{Element}
use Rattle.reg_forms.specs.Attributes.{counts, has, value_of}
use Rattle.reg_forms.specs.Declarations.{kind_of, is_named_within, type_items, type_mentions, type_name, type_row}
use Rattle.reg_forms.specs.Items.{Item, bad_at}
use Rattle.reg_forms.specs.Parts.{part_faults}

module _ (api : List ℕ) (e : Element) (counted : counts api e ≡ true) (kind : Kind) (known : kind_of e ≡ Some kind) where
  -- what a type with a name says
  pub type_items-named : (name : List ℕ) → type_name kind e ≡ Some name → type_items api e ≡ cond (has (codes "alias") e) [] (part_faults api kind e) ++ Item.declares (type_row api kind e name) ∷ []
  type_items-named name named = rw (counted, known) (rw named)

  pub type_items-plain : (name : List ℕ) → value_of (codes "alias") e ≡ None → type_name kind e ≡ Some name → type_items api e ≡ part_faults api kind e ++ Item.declares (type_row api kind e name) ∷ []
  type_items-plain name plain named =
      type_items-named name named
      ∙ ap (λ b. cond b [] (part_faults api kind e) ++ Item.declares (type_row api kind e name) ∷ []) (ap is_some plain)

  -- what a type without a name says, where it isn't in a prototype that a name is looked for
  pub type_items-bad : type_name kind e ≡ None → is_named_within kind e ≡ false → type_items api e ≡ bad_at e (codes "name") ∷ []
  type_items-bad nameless outside = rw (counted, known) (rw (nameless, outside))

  -- what a type without a name says, where a prototype is at fault for it
  pub type_items-within : type_name kind e ≡ None → is_named_within kind e ≡ true → type_items api e ≡ cond (has (codes "alias") e) [] (part_faults api kind e) ++ map Item.mentions (type_mentions api kind e)
  type_items-within nameless within = rw (counted, known) (rw (nameless, within))
