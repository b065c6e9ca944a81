-- What always holds of what a registry comes to: no list and no text is longer than the registry, what has a name has one of the right
-- form, and features have different numbers.
use Rattle.std.specs.Prelude.{◌≡◌, ℕ, ◌<◌, ◌≤◌, true, List, [], ◌∷◌, Some, length, map, slice_get, All}
use Rattle.reg_registry.specs.Words.{is_name}
use Rattle.reg_forms.specs.Options.{is_option_name}
use Rattle.reg_forms.specs.declared.forms.Declaration.{Declaration}
use Rattle.reg_forms.specs.declared.forms.Forms.{Forms}
use Rattle.reg_forms.specs.declared.forms.MemberForm.{MemberForm}
use Rattle.reg_forms.specs.declared.forms.OptionForm.{OptionForm}

pub record IsSmallMember (most : ℕ) (m : MemberForm) : Type 0 where
  pub named : is_name m.name ≡ true
  pub name : length m.name ≤ most
  pub text : length m.text ≤ most
  pub base : length m.base ≤ most
  pub values : length m.values ≤ most
  pub len : length m.len ≤ most
  pub stars : m.stars ≤ most

pub record IsSmallDeclaration (most : ℕ) (d : Declaration) : Type 0 where
  pub named : is_name d.name ≡ true
  pub name : length d.name ≤ most
  pub text : length d.text ≤ most
  pub result : length d.result ≤ most
  pub extends : length d.extends ≤ most
  pub members : length d.members ≤ most
  pub each_member : All (IsSmallMember most) d.members
  -- there is room for one name more
  pub mentions : length d.mentions < most

-- numbers that never fall, from a least one on
abbrev pub NeverFall : ℕ → List ℕ → Type 0
NeverFall least [] = Unit {0}
NeverFall least (n ∷ more) = (least ≤ n) × NeverFall n more

-- no two features have one number
abbrev pub VersionsDiffer : List OptionForm → Type 0
VersionsDiffer options =
    (place other : ℕ) (o p : OptionForm) (version : ℕ × ℕ) → slice_get options place ≡ Some o → slice_get options other ≡ Some p
    → o.version ≡ Some version → p.version ≡ Some version → place ≡ other

pub record AreSmall (most : ℕ) (f : Forms) : Type 0 where
  pub tags : length f.tags ≤ most
  pub declarations : length f.declarations ≤ most
  pub each_declaration : All (IsSmallDeclaration most) f.declarations
  pub groups : length f.groups ≤ most
  pub enumerants : length f.enumerants ≤ most
  pub each_enumerant : All (λ e. (is_name e.name ≡ true) × (length e.name ≤ most)) f.enumerants
  pub options : length f.options ≤ most
  pub each_option : All (λ o. (is_name o.name ≡ true) × (is_option_name o.name ≡ true)) f.options
  pub numbers_differ : VersionsDiffer f.options
  pub blocks : length f.blocks ≤ most
  pub each_block : All (λ b. b.owner < length f.options) f.blocks
  pub entries : length f.entries ≤ most
  pub each_entry : All (λ entry. entry.block < length f.blocks) f.entries
  -- entries stand in the order of their blocks
  pub entries_rise : NeverFall 0 (map (λ entry. entry.block) f.entries)
  pub texts : length f.texts ≤ most
  pub each_text : All (λ t. length t.text ≤ most) f.texts
