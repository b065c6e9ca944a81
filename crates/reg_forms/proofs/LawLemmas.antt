-- The laws on declarations: what is said, one thing after another, and the list into which it is put.
use Rattle.std.proofs.Common.{◌≡◌, ℕ, List, [], ◌∷◌, ◌++◌, map, sym, ap, subst, ◌∙◌}
use Rattle.std.specs.Prelude.{All}
use Rattle.std.proofs.lemmas.List.{append-nil, append_assoc, map-append}
use Rattle.std.proofs.lemmas.List.Elements.{All-append, All-cons, All-head, All-nil, All-tail}
use Rattle.reg_reader.specs.Laws.{PlacesRise, RiseFrom}
use Rattle.reg_forms.specs.declared.forms.Declaration.{Declaration}
use Rattle.reg_forms.specs.declared.forms.Forms.{Forms}
use Rattle.reg_forms.specs.Forms.{items_of, no_forms, with_item, with_items}
use Rattle.reg_forms.specs.Items.{Item}
use Rattle.reg_forms.specs.Laws.{DeclarationsRise, IsCommandOrMentionsNone, OnlyCommandsMentionCommands}
use Rattle.reg_forms.proofs.RiseLemmas.{IsSorted, items-stand, part-rises, place_said, places_said}

abbrev places_of : List Declaration → List ℕ
places_of declarations = map (λ d. d.place) declarations

place-put : (f : Forms) (item : Item) → places_of (with_item f item).declarations ≡ places_of f.declarations ++ place_said item
place-put f (Item.declares d) = map-append (λ (d : Declaration). d.place) f.declarations (d ∷ [])
place-put f _ = sym (append-nil (places_of f.declarations))

places-put : (items : List Item) (f : Forms) → places_of (with_items f items).declarations ≡ places_of f.declarations ++ places_said items
places-put [] f = sym (append-nil (places_of f.declarations))
places-put (item ∷ items) f =
    places-put items (with_item f item) ∙ ap (λ places. places ++ places_said items) (place-put f item)
    ∙ append_assoc (places_of f.declarations) (place_said item) (places_said items)

sorted-put : (f : Forms) (item : Item) → All IsCommandOrMentionsNone f.declarations → IsSorted item → All IsCommandOrMentionsNone (with_item f item).declarations
sorted-put f (Item.declares d) all sorted =
    All-append IsCommandOrMentionsNone f.declarations (d ∷ []) all (All-cons IsCommandOrMentionsNone d [] sorted (All-nil IsCommandOrMentionsNone))
sorted-put f _ all sorted = all

all-put : (items : List Item) (f : Forms) → All IsCommandOrMentionsNone f.declarations → All IsSorted items → All IsCommandOrMentionsNone (with_items f items).declarations
all-put [] f all sorted = all
all-put (item ∷ items) f all sorted =
    all-put items (with_item f item) (sorted-put f item all (All-head IsSorted item items sorted)) (All-tail IsSorted item items sorted)

pub declarations-rise : PlacesRise → DeclarationsRise
declarations-rise rise b api root spelled =
    subst (RiseFrom 0) (sym (places-put (items_of api root) no_forms)) (part-rises (items-stand api root).part 0 (rise b root spelled))

pub only-commands : OnlyCommandsMentionCommands
only-commands api root = all-put (items_of api root) no_forms (All-nil IsCommandOrMentionsNone) (items-stand api root).sorted
