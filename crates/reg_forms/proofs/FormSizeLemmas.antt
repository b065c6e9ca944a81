-- What is put into the lists of a registry, as things that are said fit into its size.
use Rattle.std.proofs.Common.{◌≡◌, ℕ, suc, ◌+◌, ◌-◌, ◌<◌, ◌≤◌, Bool, true, List, [], ◌∷◌, ◌++◌, length, map, Option, Some, None, sym, subst, arith, length-append}
use Rattle.std.specs.Prelude.{All, IfSome, sum_by}
use Rattle.std.proofs.lemmas.List.Elements.{All-append, All-cons, All-head, All-nil, All-push, All-tail, All-weaker}
use Rattle.std.proofs.lemmas.List.Sums.{sum_by-cons}
use Rattle.reg_registry.specs.Words.{is_name}
use Rattle.reg_reader.specs.Views.{Element, element_size}
use Rattle.reg_forms.specs.declared.forms.BlockForm.{BlockForm}
use Rattle.reg_forms.specs.declared.forms.DependsText.{DependsText}
use Rattle.reg_forms.specs.declared.forms.EntryForm.{EntryForm}
use Rattle.reg_forms.specs.declared.forms.EnumForm.{EnumForm}
use Rattle.reg_forms.specs.declared.forms.Forms.{Forms}
use Rattle.reg_forms.specs.declared.forms.Mention.{Mention}
use Rattle.reg_forms.specs.declared.forms.OptionForm.{OptionForm}
use Rattle.reg_forms.specs.Options.{is_option_name}
use Rattle.reg_forms.specs.Forms.{forms_of, items_of, no_forms, text_at, with_item, with_items}
use Rattle.reg_forms.specs.Items.{Item}
use Rattle.reg_forms.specs.Sizes.{AreSmall, IsSmallDeclaration, NeverFall}
use Rattle.reg_forms.proofs.ItemSizeLemmas.{Fits, IsCount, IsOrdered, IsSmallItem, ordered-more}
use Rattle.reg_forms.proofs.RootSizeLemmas.{items-fit}
use Rattle.reg_forms.proofs.VersionLemmas.{versions-differ}

-- how much one thing adds to a list
abbrev adds : (Forms → ℕ) → Item → ℕ
adds measure item = measure (with_item no_forms item)

-- a list that grows by what each thing adds, whatever is in it
abbrev Grows : (Forms → ℕ) → Type 0
Grows measure = (f : Forms) (item : Item) → measure (with_item f item) ≡ measure f + adds measure item

grown : (measure : Forms → ℕ) → Grows measure → (items : List Item) (f : Forms) → measure (with_items f items) ≡ measure f + sum_by (adds measure) items
grown measure grows [] f = omega arith
grown measure grows (item ∷ items) f = omega (arith, grown measure grows items (with_item f item), grows f item, sum_by-cons (adds measure) item items)

few : (measure : Forms → ℕ) → measure no_forms ≡ 0 → Grows measure → IsCount (adds measure) → (most : ℕ) (items : List Item) → Fits most 0 0 items → measure (with_items no_forms items) ≤ most
few measure none grows is most items fits = omega (arith, none, grown measure grows items no_forms, fits.few (adds measure) is)

abbrev tags : Forms → ℕ
tags f = length f.tags

abbrev declarations : Forms → ℕ
declarations f = length f.declarations

abbrev groups : Forms → ℕ
groups f = length f.groups

abbrev enumerants : Forms → ℕ
enumerants f = length f.enumerants

abbrev options : Forms → ℕ
options f = length f.options

abbrev blocks : Forms → ℕ
blocks f = length f.blocks

abbrev entries : Forms → ℕ
entries f = length f.entries

abbrev texts : Forms → ℕ
texts f = length f.texts

tags-grow : Grows tags
tags-grow f (Item.tags tag) = length-append f.tags (tag ∷ [])
tags-grow f _ = omega arith

declarations-grow : Grows declarations
declarations-grow f (Item.declares declaration) = length-append f.declarations (declaration ∷ [])
declarations-grow f _ = omega arith

groups-grow : Grows groups
groups-grow f (Item.groups group) = length-append f.groups (group ∷ [])
groups-grow f _ = omega arith

enumerants-grow : Grows enumerants
enumerants-grow f (Item.numbers enumerant) = length-append f.enumerants (enumerant ∷ [])
enumerants-grow f _ = omega arith

options-grow : Grows options
options-grow f (Item.offers place name version depends) = omega (arith, length-append f.options)
options-grow f _ = omega arith

blocks-grow : Grows blocks
blocks-grow f (Item.opens place adds depends) = omega (arith, length-append f.blocks)
blocks-grow f _ = omega arith

entries-grow : Grows entries
entries-grow f (Item.lists mention) = omega (arith, length-append f.entries)
entries-grow f _ = omega arith

texts-grow : Grows texts
texts-grow f (Item.offers place name version depends) = length-append f.texts (text_at place depends)
texts-grow f (Item.opens place adds depends) = length-append f.texts (text_at place depends)
texts-grow f _ = omega arith

text_at-few : (place : ℕ) (depends : Option (List ℕ)) → length (text_at place depends) ≤ 1
text_at-few place None = omega arith
text_at-few place (Some text) = omega arith

tags-count : IsCount (adds tags)
tags-count = omega arith

declarations-count : IsCount (adds declarations)
declarations-count = omega arith

groups-count : IsCount (adds groups)
groups-count = omega arith

enumerants-count : IsCount (adds enumerants)
enumerants-count = omega arith

options-count : IsCount (adds options)
options-count = omega arith

blocks-count : IsCount (adds blocks)
blocks-count = omega arith

entries-count : IsCount (adds entries)
entries-count = omega arith

texts-count : IsCount (adds texts)
texts-count = omega (arith, text_at-few)

-- what holds of each declaration, enumerant, option and text
record HasSmall (most : ℕ) (f : Forms) : Type 0 where
  each_declaration : All (IsSmallDeclaration most) f.declarations
  each_enumerant : All (λ e. (is_name e.name ≡ true) × (length e.name ≤ most)) f.enumerants
  each_option : All (λ o. (is_name o.name ≡ true) × (is_option_name o.name ≡ true)) f.options
  each_text : All (λ t. length t.text ≤ most) f.texts

-- a text that is put in, if there is one
text_at-small : (most place : ℕ) (depends : Option (List ℕ)) → IfSome depends (λ text. length text ≤ most) → All (λ t. length t.text ≤ most) (text_at place depends)
text_at-small most place None short = All-nil _
text_at-small most place (Some text) short = All-cons (λ (t : DependsText). length t.text ≤ most) _ [] short (All-nil _)

texts-small : (most place : ℕ) (depends : Option (List ℕ)) (texts : List DependsText) → IfSome depends (λ text. length text ≤ most) → All (λ t. length t.text ≤ most) texts → All (λ t. length t.text ≤ most) (texts ++ text_at place depends)
texts-small most place depends texts short small =
    All-append (λ (t : DependsText). length t.text ≤ most) texts (text_at place depends) small (text_at-small most place depends short)

small-put : (most : ℕ) (f : Forms) (item : Item) → IsSmallItem most item → HasSmall most f → HasSmall most (with_item f item)
small-put most f (Item.declares declaration) small so_far = record {
  each_declaration = All-push (IsSmallDeclaration most) f.declarations declaration so_far.each_declaration small;
  each_enumerant = so_far.each_enumerant;
  each_option = so_far.each_option;
  each_text = so_far.each_text;
}
small-put most f (Item.numbers enumerant) small so_far = record {
  each_declaration = so_far.each_declaration;
  each_enumerant = All-push (λ (e : EnumForm). (is_name e.name ≡ true) × (length e.name ≤ most)) f.enumerants enumerant so_far.each_enumerant small;
  each_option = so_far.each_option;
  each_text = so_far.each_text;
}
small-put most f (Item.offers place name version depends) small so_far = record {
  each_declaration = so_far.each_declaration;
  each_enumerant = so_far.each_enumerant;
  each_option = All-push (λ (o : OptionForm). (is_name o.name ≡ true) × (is_option_name o.name ≡ true)) f.options _ so_far.each_option small.0;
  each_text = texts-small most place depends f.texts small.1 so_far.each_text;
}
small-put most f (Item.opens place adds depends) small so_far = record {
  each_declaration = so_far.each_declaration;
  each_enumerant = so_far.each_enumerant;
  each_option = so_far.each_option;
  each_text = texts-small most place depends f.texts small so_far.each_text;
}
small-put most f _ small so_far = record {
  each_declaration = so_far.each_declaration;
  each_enumerant = so_far.each_enumerant;
  each_option = so_far.each_option;
  each_text = so_far.each_text;
}

small-items : (most : ℕ) (items : List Item) (f : Forms) → All (IsSmallItem most) items → HasSmall most f → HasSmall most (with_items f items)
small-items most [] f small so_far = so_far
small-items most (item ∷ items) f small so_far =
    small-items most items (with_item f item) (All-tail (IsSmallItem most) item items small)
    (small-put most f item (All-head (IsSmallItem most) item items small) so_far)

-- each block is one of an option, each name that is listed one of a block, and the names stand in the order of the blocks
record AreInOrder (f : Forms) : Type 0 where
  each_block : All (λ b. b.owner < length f.options) f.blocks
  each_entry : All (λ entry. entry.block < length f.blocks) f.entries
  entries_rise : NeverFall 0 (map (λ entry. entry.block) f.entries)

-- one entry more that is no lower than those before it
entries-push : (least : ℕ) (entries : List EntryForm) (entry : EntryForm) → NeverFall least (map (λ e. e.block) entries) → All (λ e. e.block ≤ entry.block) entries → least ≤ entry.block → NeverFall least (map (λ e. e.block) (entries ++ entry ∷ []))
entries-push least [] entry rise below low = (low, tt)
entries-push least (e ∷ entries) entry rise below low =
    (rise.0, entries-push e.block entries entry rise.1 (All-tail (λ (other : EntryForm). other.block ≤ entry.block) e entries below) (All-head (λ (other : EntryForm). other.block ≤ entry.block) e entries below))

module _ (f : Forms) (so_far : AreInOrder f) where
  -- one option more
  offers-ordered : (place : ℕ) (name : List ℕ) (version : Option (ℕ × ℕ)) (depends : Option (List ℕ)) → AreInOrder (with_item f (Item.offers place name version depends))
  offers-ordered place name version depends = record {
    each_block =
        All-weaker (λ (b : BlockForm). b.owner < length f.options) (λ b. b.owner < length (with_item f (Item.offers place name version depends)).options)
        (λ b within. omega (arith, within, length-append f.options)) f.blocks so_far.each_block;
    each_entry = so_far.each_entry;
    entries_rise = so_far.entries_rise;
  }

  -- one block more, of the last option
  opens-ordered : (place : ℕ) (adds : Bool) (depends : Option (List ℕ)) → 0 < length f.options → AreInOrder (with_item f (Item.opens place adds depends))
  opens-ordered place adds depends some = record {
    each_block = All-push (λ (b : BlockForm). b.owner < length f.options) f.blocks _ so_far.each_block (omega (arith, some));
    each_entry =
        All-weaker (λ (entry : EntryForm). entry.block < length f.blocks) (λ entry. entry.block < length (with_item f (Item.opens place adds depends)).blocks)
        (λ entry within. omega (arith, within, length-append f.blocks)) f.entries so_far.each_entry;
    entries_rise = so_far.entries_rise;
  }

  -- one name more, in the last block
  lists-ordered : (mention : Mention) → 0 < length f.blocks → AreInOrder (with_item f (Item.lists mention))
  lists-ordered mention some =
      let entry : EntryForm = record { block = length f.blocks - 1; mention = mention } in
      record {
        each_block = so_far.each_block;
        each_entry = All-push (λ (e : EntryForm). e.block < length f.blocks) f.entries entry so_far.each_entry (omega (arith, some));
        entries_rise =
            entries-push 0 f.entries entry so_far.entries_rise
            (All-weaker (λ (e : EntryForm). e.block < length f.blocks) (λ e. e.block ≤ entry.block) (λ e within. omega (arith, within)) f.entries so_far.each_entry)
            (omega arith);
      }

ordered-items : (items : List Item) (f : Forms) → IsOrdered (length f.options) (length f.blocks) items → AreInOrder f → AreInOrder (with_items f items)
ordered-items [] f ordered so_far = so_far
ordered-items (Item.offers place name version depends ∷ items) f ordered so_far =
    ordered-items items (with_item f (Item.offers place name version depends))
    (ordered-more items (suc (length f.options)) (length f.blocks) _ (length f.blocks) (omega (arith, length-append f.options)) (omega arith) ordered)
    (offers-ordered f so_far place name version depends)
ordered-items (Item.opens place adds depends ∷ items) f ordered so_far =
    ordered-items items (with_item f (Item.opens place adds depends))
    (ordered-more items (length f.options) (suc (length f.blocks)) (length f.options) _ (omega arith) (omega (arith, length-append f.blocks)) ordered.1)
    (opens-ordered f so_far place adds depends ordered.0)
ordered-items (Item.lists mention ∷ items) f ordered so_far =
    ordered-items items (with_item f (Item.lists mention)) ordered.1 (lists-ordered f so_far mention ordered.0)
ordered-items (item ∷ items) f ordered so_far =
    ordered-items items (with_item f item) ordered (record { each_block = so_far.each_block; each_entry = so_far.each_entry; entries_rise = so_far.entries_rise })

-- what a registry comes to is small
pub forms-small : (api : List ℕ) (root : Element) → AreSmall (element_size root) (forms_of api root)
forms-small api root =
    let most : ℕ = element_size root in
    let items : List Item = items_of api root in
    let fits : Fits most 0 0 items = items-fit api root in
    let small : HasSmall most (forms_of api root) = small-items most items no_forms fits.small (record { each_declaration = All-nil _; each_enumerant = All-nil _; each_option = All-nil _; each_text = All-nil _ }) in
    let ordered : AreInOrder (forms_of api root) = ordered-items items no_forms fits.ordered (record { each_block = All-nil _; each_entry = All-nil _; entries_rise = tt }) in
    record {
      tags = few tags (omega arith) tags-grow tags-count most items fits;
      declarations = few declarations (omega arith) declarations-grow declarations-count most items fits;
      each_declaration = small.each_declaration;
      groups = few groups (omega arith) groups-grow groups-count most items fits;
      enumerants = few enumerants (omega arith) enumerants-grow enumerants-count most items fits;
      each_enumerant = small.each_enumerant;
      options = few options (omega arith) options-grow options-count most items fits;
      each_option = small.each_option;
      numbers_differ = versions-differ api root;
      blocks = few blocks (omega arith) blocks-grow blocks-count most items fits;
      each_block = ordered.each_block;
      entries = few entries (omega arith) entries-grow entries-count most items fits;
      each_entry = ordered.each_entry;
      entries_rise = ordered.entries_rise;
      texts = few texts (omega arith) texts-grow texts-count most items fits;
      each_text = small.each_text;
    }

pub said-small : (api : List ℕ) (root : Element) (forms : Forms) → forms ≡ forms_of api root → AreSmall (element_size root) forms
said-small api root forms same = subst (AreSmall (element_size root)) (sym same) (forms-small api root)
