-- What is answered for the forms of a registry, by what was found in them.
use Rattle.std.proofs.Common.{◌≡◌, ℕ, Bool, true, false, ◌||◌, List, [], ◌∷◌, Option, None, Some, cond, filter, length, get_or, ◌≤◌, arith, refl, subst, sym, ap, ◌∙◌}
use Rattle.std.specs.List.{list_any}
use Rattle.std.specs.Option.{MatchOption}
use Rattle.std.specs.Prelude.{is_some}
use Rattle.std.proofs.lemmas.Bool.{true≢false}
use Rattle.std.proofs.lemmas.List.Elements.{All-weaker}
use Rattle.reg_registry.specs.Words.{is_name}
use Rattle.reg_reader.specs.Views.{Element}
use Rattle.reg_forms.specs.Sizes.{AreSmall, IsSmallDeclaration, IsSmallMember}
use Rattle.reg_forms.specs.declared.forms.Declaration.{Declaration}
use Rattle.reg_forms.specs.declared.forms.DependsText.{DependsText}
use Rattle.reg_forms.specs.declared.forms.EnumForm.{EnumForm}
use Rattle.reg_forms.specs.declared.forms.MemberForm.{MemberForm}
use Rattle.reg_forms.specs.declared.forms.Fault.{Fault}
use Rattle.reg_forms.specs.declared.forms.Forms.{Forms}
use Rattle.reg_forms.specs.declared.forms.OptionForm.{OptionForm}
use Rattle.reg_tables.specs.Bits.{Readings}
use Rattle.reg_tables.specs.Tables.{features_in}
use Rattle.reg_tables.specs.Words.{AreReadings, AreWords}
use Rattle.reg_rows.specs.Answer.{AreReadOnce, IsAccepted}
use Rattle.reg_rows.specs.Faults.{IsFirst, faults_of}

-- the first fault, if there is one
abbrev pub IsFirstOf : Forms → Option Fault → Type 0
IsFirstOf f found = (readings : Readings) → AreReadings f readings → MatchOption found (faults_of f readings ≡ []) (IsFirst (faults_of f readings))

none-left : (keeps : Bool) (o : OptionForm) (kept : List OptionForm) (any : Bool) → (keeps || any) ≡ false → (any ≡ false → kept ≡ []) → cond keeps (o ∷ kept) kept ≡ []
none-left true o kept any none rest = absurd (true≢false none)
none-left false o kept any none rest = rest none

pub no-features : (options : List OptionForm) → list_any (λ o. is_some o.version) options ≡ false → filter (λ o. is_some o.version) options ≡ []
no-features [] none = refl
no-features (o ∷ options) none =
    none-left (is_some o.version) o (filter (λ o. is_some o.version) options) (list_any (λ o. is_some o.version) options) none (no-features options)

one-left : (keeps : Bool) (o : OptionForm) (kept : List OptionForm) (any : Bool) → (keeps || any) ≡ true → (any ≡ true → kept ≡ [] → ⊥) → cond keeps (o ∷ kept) kept ≡ [] → ⊥
one-left true o kept any some rest none = absurd (let never : ⊥ = cc in never)
one-left false o kept any some rest none = rest some none

pub some-feature : (options : List OptionForm) → list_any (λ o. is_some o.version) options ≡ true → filter (λ o. is_some o.version) options ≡ [] → ⊥
some-feature [] some none = true≢false (sym some)
some-feature (o ∷ options) some none =
    one-left (is_some o.version) o (filter (λ o. is_some o.version) options) (list_any (λ o. is_some o.version) options) some (some-feature options) none

-- a fault is told
pub told : (f : Forms) (words : List (Option (List (ℕ × ℕ)))) (found : Option Fault) (fault : Fault) → AreWords f words → IsFirstOf f found → found ≡ Some fault
    → (readings : Readings) × AreReadings f readings × IsFirst (faults_of f readings) fault
told f words found fault are first some = (
  are.readings,
  are.are_readings,
  subst (λ (o : Option Fault). MatchOption o (faults_of f are.readings ≡ []) (IsFirst (faults_of f are.readings))) some (first are.readings are.are_readings),
)

-- none is
pub none-told : (f : Forms) (words : List (Option (List (ℕ × ℕ)))) (found : Option Fault) (are : AreWords f words) → IsFirstOf f found → found ≡ None
    → faults_of f are.readings ≡ []
none-told f words found are first none =
    subst (λ (o : Option Fault). MatchOption o (faults_of f are.readings ≡ []) (IsFirst (faults_of f are.readings))) none (first are.readings are.are_readings)

-- no feature is
pub without-features : (f : Forms) (words : List (Option (List (ℕ × ℕ)))) (found : Option Fault) → AreWords f words → IsFirstOf f found → found ≡ None
    → list_any (λ o. is_some o.version) f.options ≡ false
    → (readings : Readings) × AreReadings f readings × (faults_of f readings ≡ []) × (features_in f ≡ [])
without-features f words found are first none absent =
    (are.readings, are.are_readings, none-told f words found are first none, no-features f.options absent)

-- nothing is wrong
pub accepted : (f : Forms) (words : List (Option (List (ℕ × ℕ)))) (found : Option Fault) → AreWords f words → IsFirstOf f found → found ≡ None
    → list_any (λ o. is_some o.version) f.options ≡ true → (readings : Readings) × IsAccepted f readings
accepted f words found are first none there = (
  are.readings,
  record {
    read = are.are_readings;
    sound = none-told f words found are first none;
    offered = some-feature f.options there;
  },
)

pub read-once : (f : Forms) (words : List (Option (List (ℕ × ℕ)))) → AreWords f words → AreReadOnce f
read-once f words are readings other one two = are.only other two ∙ sym (are.only readings one)

-- what is shown as one element is one
pub same-root : (elements : List Element) (one other : Element) → elements ≡ one ∷ [] → elements ≡ other ∷ [] → one ≡ other
same-root elements one other first second = ap (λ (es : List Element). get_or es 0 one) (sym first ∙ second)

member-more : (n most : ℕ) → n ≤ most → (m : MemberForm) → IsSmallMember n m → IsSmallMember most m
member-more n most le m small = record {
  named = small.named;
  name = omega (arith, le, small.name);
  text = omega (arith, le, small.text);
  base = omega (arith, le, small.base);
  values = omega (arith, le, small.values);
  len = omega (arith, le, small.len);
  stars = omega (arith, le, small.stars);
}

declaration-more : (n most : ℕ) → n ≤ most → (d : Declaration) → IsSmallDeclaration n d → IsSmallDeclaration most d
declaration-more n most le d small = record {
  named = small.named;
  name = omega (arith, le, small.name);
  text = omega (arith, le, small.text);
  result = omega (arith, le, small.result);
  extends = omega (arith, le, small.extends);
  members = omega (arith, le, small.members);
  each_member = All-weaker (IsSmallMember n) (IsSmallMember most) (member-more n most le) d.members small.each_member;
  mentions = omega (arith, le, small.mentions);
}

-- what is small is small beside more
pub small-more : (n most : ℕ) (f : Forms) → n ≤ most → AreSmall n f → AreSmall most f
small-more n most f le small = record {
  tags = omega (arith, le, small.tags);
  declarations = omega (arith, le, small.declarations);
  each_declaration = All-weaker (IsSmallDeclaration n) (IsSmallDeclaration most) (declaration-more n most le) f.declarations small.each_declaration;
  groups = omega (arith, le, small.groups);
  enumerants = omega (arith, le, small.enumerants);
  each_enumerant =
      All-weaker (λ (e : EnumForm). (is_name e.name ≡ true) × (length e.name ≤ n)) (λ (e : EnumForm). (is_name e.name ≡ true) × (length e.name ≤ most))
      (λ e short. (short.0, omega (arith, le, short.1))) f.enumerants small.each_enumerant;
  options = omega (arith, le, small.options);
  each_option = small.each_option;
  numbers_differ = small.numbers_differ;
  blocks = omega (arith, le, small.blocks);
  each_block = small.each_block;
  entries = omega (arith, le, small.entries);
  each_entry = small.each_entry;
  entries_rise = small.entries_rise;
  texts = omega (arith, le, small.texts);
  each_text = All-weaker (λ (t : DependsText). length t.text ≤ n) (λ (t : DependsText). length t.text ≤ most) (λ t short. omega (arith, le, short)) f.texts small.each_text;
}
