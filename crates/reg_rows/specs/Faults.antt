-- What is wrong with a registry. Each rule gives its faults as a list; the first of all by place, code and word is the one that is told.
use Rattle.std.specs.Prelude.{◌≡◌, ℕ, max, Bool, true, false, not, ◌&&◌, ◌||◌, ◌==◌, nat_lt, List, [], ◌∷◌, ◌++◌, is_none, codes, Contains, All}
use Rattle.std.specs.List.{flat_map}
use Rattle.std.specs.Option.{option_map_or}
use Rattle.std.specs.Str.{bytes_eq}
use Rattle.std.specs.Cmp.Lexicographic.{slice_cmp}
use Rattle.std.specs.Ordering.{is_lt, nat_cmp}
use Rattle.reg_forms.specs.declared.forms.Declaration.{Declaration}
use Rattle.reg_forms.specs.declared.forms.EnumForm.{EnumForm}
use Rattle.reg_forms.specs.declared.forms.Fault.{Fault}
use Rattle.reg_forms.specs.declared.forms.Forms.{Forms}
use Rattle.reg_forms.specs.declared.forms.GroupForm.{GroupForm}
use Rattle.reg_forms.specs.declared.forms.Mention.{Mention}
use Rattle.reg_forms.specs.declared.forms.OptionForm.{OptionForm}
use Rattle.reg_forms.specs.declared.forms.RowCode.{RowCode}
use Rattle.reg_forms.specs.declared.forms.RowCode.TheVariants.{BadAttribute, ApiType, BadExpression, DuplicateName, UnknownName, ValueRange, ValueClash, AliasCircle, NameLimit}
use Rattle.reg_forms.specs.declared.forms.Sort.TheVariants as sort
use Rattle.reg_tables.specs.Bits.{Readings}
use Rattle.reg_tables.specs.Lists.{is_among}
use Rattle.reg_tables.specs.Tables.{declaration_of, enumerant_of, group_of, is_constant, is_known, is_mask64, shape_of}
use Rattle.reg_tables.specs.Values.{alias_of, next_of}
use Rattle.reg_tables.specs.Wrong.{bad_text, fault_if, limits_in, wrong_values_in}

-- DuplicateName: another type, constant or command stands before it under its name, and not both are constants
abbrev pub declared_twice : Forms → Declaration → List Fault
declared_twice f d =
    option_map_or (λ first. fault_if (nat_lt first.place d.place && not (is_constant first && is_constant d)) DuplicateName d.place d.name)
    (declaration_of f d.name) []

-- DuplicateName: of options in order, behind those of some names, each whose name stands before it
abbrev pub offered_twice : List (List ℕ) → List OptionForm → List Fault
offered_twice seen [] = []
offered_twice seen (o ∷ more) = fault_if (is_among seen o.name) DuplicateName o.place o.name ++ offered_twice (o.name ∷ seen) more

-- DuplicateName: a block of the name stands before it
abbrev pub grouped_twice : Forms → GroupForm → List Fault
grouped_twice f g = option_map_or (λ first. fault_if (nat_lt first.place g.place) DuplicateName g.place g.name) (group_of f g.name) []

-- DuplicateName: the first enumerant of the name is one of another type
abbrev pub of_two_types : Forms → EnumForm → List Fault
of_two_types f e = option_map_or (λ first. fault_if (not (bytes_eq first.of e.of)) DuplicateName e.place e.name) (enumerant_of f e.name) []

-- DuplicateName: the enumerant has a declared name, too; the later of the two is at fault
abbrev pub declared_besides : Forms → EnumForm → List Fault
declared_besides f e = option_map_or (λ d. fault_if true DuplicateName (max d.place e.place) e.name) (declaration_of f e.name) []

-- UnknownName: nothing of the right sort has the name
abbrev pub unknown : Forms → Mention → List Fault
unknown f m = fault_if (not (is_known f m.sort m.name)) UnknownName m.place m.name

-- UnknownName: the alias is no enumerant of the type
abbrev pub unknown_alias : Forms → EnumForm → List Fault
unknown_alias f e = option_map_or (λ alias. fault_if (is_none (next_of f e)) UnknownName e.place alias) (alias_of e) []

-- UnknownName: the type of flags of 64 bits isn't there
abbrev pub without_flags : Forms → Declaration → List Fault
without_flags f d =
    fault_if (is_mask64 (shape_of f d) && not (is_known f sort.Type (codes "VkFlags64"))) UnknownName d.place (codes "VkFlags64")

-- names that stand twice
abbrev pub duplicates_in : Forms → List Fault
duplicates_in f =
    flat_map (declared_twice f) f.declarations ++ offered_twice [] f.options ++ flat_map (grouped_twice f) f.groups
    ++ flat_map (of_two_types f) f.enumerants ++ flat_map (declared_besides f) f.enumerants

-- names that nothing has
abbrev pub unknowns_in : Forms → List Fault
unknowns_in f =
    flat_map (λ d. flat_map (unknown f) d.mentions) f.declarations ++ flat_map (λ entry. unknown f entry.mention) f.entries
    ++ flat_map (unknown f) f.mentions ++ flat_map (unknown_alias f) f.enumerants ++ flat_map (without_flags f) f.declarations

-- all that is wrong with a registry whose `depends` texts are read so
abbrev pub faults_of : Forms → Readings → List Fault
faults_of f readings =
    f.faults ++ flat_map bad_text readings ++ duplicates_in f ++ unknowns_in f ++ wrong_values_in f ++ limits_in f readings

-- the order of codes at one place
abbrev pub rank : RowCode → ℕ
rank BadAttribute = 0
rank ApiType = 1
rank BadExpression = 2
rank DuplicateName = 3
rank UnknownName = 4
rank ValueRange = 5
rank ValueClash = 6
rank AliasCircle = 7
rank NameLimit = 8

abbrev pub is_less : List ℕ → List ℕ → Bool
is_less word other = is_lt (slice_cmp nat_cmp word other)

-- a fault stands before another: by place, then by the order of codes, then by word in the order of bytes
abbrev pub stands_before : Fault → Fault → Bool
stands_before a b =
    nat_lt a.at b.at
    || (a.at == b.at && (nat_lt (rank a.code) (rank b.code) || (rank a.code == rank b.code && is_less a.word b.word)))

-- the fault is one of these, and none of them stands before it
pub record IsFirst (faults : List Fault) (fault : Fault) : Type 0 where
  pub one : Contains faults fault
  pub first : All (λ other. stands_before other fault ≡ false) faults
