-- What a whole registry says, by its root.
use Rattle.std.proofs.Common.{◌≡◌, ℕ, List, [], ◌∷◌, Bool, true, false, sym, ap, ◌∙◌}
use Rattle.std.specs.Prelude.{codes}
use Rattle.std.proofs.lemmas.Bool.{cond-true, cond-false}
use Rattle.reg_reader.specs.Views.{Element, elements_in}
use Rattle.reg_forms.specs.Attributes.{is_named}
use Rattle.reg_forms.specs.Declarations.{is_enum_type, type_rows}
use Rattle.reg_forms.specs.Forms.{children_items, forms_of, no_forms, with_item, with_items}
use Rattle.reg_forms.specs.Items.{bad_at}

-- the root has another name
pub forms_astray : (api : List ℕ) (root : Element) → is_named (codes "registry") root ≡ false → with_item no_forms (bad_at root (codes "registry")) ≡ forms_of api root
forms_astray api root other = ap (with_items no_forms) (sym (cond-false (is_named (codes "registry") root) _ (bad_at root (codes "registry") ∷ []) other))

-- the root is one, and what is taken for an enum type is one
pub forms_whole : (api : List ℕ) (root : Element) (is_enum : List ℕ → Bool) → is_named (codes "registry") root ≡ true → ((name : List ℕ) → is_enum name ≡ is_enum_type (type_rows api root) name) → with_items no_forms (children_items api is_enum [] (elements_in root.content)) ≡ forms_of api root
forms_whole api root is_enum is_so each =
    let same : is_enum ≡ is_enum_type (type_rows api root) = λ i. λ name. each name i in
    ap (λ known. with_items no_forms (children_items api known [] (elements_in root.content))) same
    ∙ ap (with_items no_forms) (sym (cond-true (is_named (codes "registry") root) _ _ is_so))
