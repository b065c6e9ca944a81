-- All that a registry says fits into its size.
use Rattle.std.proofs.Common.{ℕ, Bool, List, [], ◌∷◌, arith}
use Rattle.std.specs.Prelude.{codes, is_none}
use Rattle.std.specs.List.{flat_map}
use Rattle.std.proofs.lemmas.Bool.{cond_both}
use Rattle.reg_reader.specs.Views.{Content, Element, content_size, element_size, elements_in}
use Rattle.reg_forms.specs.Attributes.{children, is_named, name_of, word_if}
use Rattle.reg_forms.specs.Declarations.{command_items, is_enum_type, type_items, type_rows}
use Rattle.reg_forms.specs.Enums.{enums_items, own_name}
use Rattle.reg_forms.specs.Forms.{child_items, children_items, items_of, tag_items, with_version}
use Rattle.reg_forms.specs.Items.{Item, bad_at}
use Rattle.reg_forms.specs.Options.{extension_items, feature_items, is_feature}
use Rattle.reg_forms.proofs.DeclarationSizeLemmas.{command-fits, fits-if, type-fits}
use Rattle.reg_forms.proofs.EnumSizeLemmas.{enums-fit, fits-one}
use Rattle.reg_forms.proofs.ItemSizeLemmas.{Fits, fits-append, fits-kept, fits-more, fits-none, fits-unless, fits-wrong}
use Rattle.reg_forms.proofs.OptionSizeLemmas.{extension-fits, feature-fits}

module _ (options blocks : ℕ) where
  tag-fits : (e : Element) → Fits (element_size e) options blocks (tag_items e)
  tag-fits e =
      fits-unless options blocks (element_size e) e (word_if (is_none (name_of e)) (codes "name")) (Item.tags (own_name e) ∷ [])
      (λ none. fits-one options blocks e (Item.tags (own_name e)) (λ count is. is.tags (own_name e)) tt tt)

  -- what the children of a name say
  children-fit : (say : Element → List Item) (name : List ℕ) (e : Element) → ((inner : Element) → Fits (element_size inner) options blocks (say inner)) → Fits (element_size e) options blocks (flat_map say (children name e))
  children-fit say name e each =
      fits-more options blocks (content_size e.content) (element_size e) (flat_map say (children name e)) (omega arith) (fits-kept options blocks say each (is_named name) e.content)

  module _ (api : List ℕ) (is_enum : List ℕ → Bool) where
    child-fits : (earlier : List (ℕ × ℕ)) (e : Element) → Fits (element_size e) options blocks (child_items api is_enum earlier e)
    child-fits earlier e =
        cond_both (is_named (codes "tags") e) (flat_map tag_items (children (codes "tag") e)) _ (Fits (element_size e) options blocks) (λ _. children-fit tag_items (codes "tag") e tag-fits)
        (λ _. cond_both (is_named (codes "types") e) (flat_map (type_items api) (children (codes "type") e)) _ (Fits (element_size e) options blocks)
        (λ _. children-fit (type_items api) (codes "type") e (type-fits options blocks api))
        (λ _. cond_both (is_named (codes "enums") e) (enums_items api is_enum e) _ (Fits (element_size e) options blocks) (λ _. enums-fit options blocks api is_enum e)
        (λ _. cond_both (is_named (codes "commands") e) (flat_map (command_items api) (children (codes "command") e)) _ (Fits (element_size e) options blocks)
        (λ _. children-fit (command_items api) (codes "command") e (command-fits options blocks api))
        (λ _. cond_both (is_feature api e) (feature_items api is_enum earlier e) _ (Fits (element_size e) options blocks) (λ _. feature-fits options blocks api is_enum earlier e)
        (λ _. fits-if options blocks (element_size e) (is_named (codes "extensions") e) (flat_map (extension_items api is_enum) (children (codes "extension") e))
        (children-fit (extension_items api is_enum) (codes "extension") e (extension-fits options blocks api is_enum)))))))

    all-fit : (c : Content) (earlier : List (ℕ × ℕ)) → Fits (content_size c) options blocks (children_items api is_enum earlier (elements_in c))
    all-fit Content.none earlier = fits-none options blocks 0
    all-fit (Content.chars text after) earlier =
        fits-more options blocks (content_size after) (content_size (Content.chars text after)) (children_items api is_enum earlier (elements_in after)) (omega arith) (all-fit after earlier)
    all-fit (Content.child place name attributes inner after) earlier =
        let e : Element = record { place = place; name = name; attributes = attributes; content = inner } in
        let later : List (ℕ × ℕ) = with_version api earlier e in
        fits-append options blocks (element_size e) (content_size after) (content_size (Content.child place name attributes inner after)) (child_items api is_enum earlier e) (children_items api is_enum later (elements_in after)) (omega arith) (child-fits earlier e) (all-fit after later)

pub items-fit : (api : List ℕ) (root : Element) → Fits (element_size root) 0 0 (items_of api root)
items-fit api root =
    cond_both (is_named (codes "registry") root) (children_items api (is_enum_type (type_rows api root)) [] (elements_in root.content)) (bad_at root (codes "registry") ∷ []) (Fits (element_size root) 0 0)
    (λ _. fits-more 0 0 (content_size root.content) (element_size root) (children_items api (is_enum_type (type_rows api root)) [] (elements_in root.content)) (omega arith) (all-fit 0 0 api (is_enum_type (type_rows api root)) root.content []))
    (λ _. fits-wrong 0 0 (element_size root) _)
