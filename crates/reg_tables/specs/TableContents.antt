-- What always holds of the tables over the forms of a registry. No public contract names it.
use Rattle.std.specs.Prelude.{◌≡◌, ℕ, List, map, is_some}
use Rattle.vkb_formula.specs.Names.{place_of}
use Rattle.reg_forms.specs.declared.forms.Forms.{Forms}
use Rattle.reg_forms.specs.declared.forms.Sort.{Sort}
use Rattle.reg_forms.specs.declared.forms.Sort.TheVariants as sort
use Rattle.reg_tables.specs.Places.{AreFirstPlaces}
use Rattle.reg_tables.specs.Tables.{is_declared}
use Rattle.reg_tables.specs.declared.places.Places.{Places}

abbrev pub AreOf : Places → List (List ℕ) → Type 0
AreOf table names = AreFirstPlaces table.names table.places.items names

-- the table has the names of the declarations of a sort
abbrev pub HasDeclared : Forms → Sort → List (List ℕ) → Type 0
HasDeclared f sort table = (name : List ℕ) → is_some (place_of name table) ≡ is_declared f sort name

pub record AreTables (f : Forms) (declared enumerants groups : Places) (types constants commands : List (List ℕ)) : Type 0 where
  pub declared_are : AreOf declared (map (λ d. d.name) f.declarations)
  pub enumerants_are : AreOf enumerants (map (λ e. e.name) f.enumerants)
  pub groups_are : AreOf groups (map (λ g. g.name) f.groups)
  pub types_are : HasDeclared f sort.Type types
  pub constants_are : HasDeclared f sort.Constant constants
  pub commands_are : HasDeclared f sort.Command commands
