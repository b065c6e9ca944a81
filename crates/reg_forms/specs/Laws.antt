-- What is true of all that registries come to: the laws of this crate.
use Rattle.std.specs.Prelude.{◌≡◌, ◌⊎◌, ℕ, List, map, All}
use Rattle.reg_registry.specs.declared.kinds.Kind.TheVariants as kind
use Rattle.reg_reader.specs.Laws.{RiseFrom}
use Rattle.reg_reader.specs.Shown.{SpellsElement}
use Rattle.reg_reader.specs.Views.{Element}
use Rattle.reg_forms.specs.declared.forms.Declaration.{Declaration}
use Rattle.reg_forms.specs.declared.forms.Sort.{Sort}
use Rattle.reg_forms.specs.declared.forms.Sort.TheVariants as sort
use Rattle.reg_forms.specs.Forms.{forms_of}

-- declarations stand in the order of the text, and no two at one place
abbrev pub DeclarationsRise : Type 0
DeclarationsRise =
    (b api : List ℕ) (root : Element) → SpellsElement b root → RiseFrom 0 (map (λ d. d.place) (forms_of api root).declarations)

abbrev pub IsTypeOrConstant : Sort → Type 0
IsTypeOrConstant named = (named ≡ sort.Type) ⊎ (named ≡ sort.Constant)

-- it is a command, or all that it mentions has to be a type or a constant
abbrev pub IsCommandOrMentionsNone : Declaration → Type 0
IsCommandOrMentionsNone d = (d.kind ≡ kind.Command) ⊎ All (λ m. IsTypeOrConstant m.sort) d.mentions

-- only commands mention commands
abbrev pub OnlyCommandsMentionCommands : Type 0
OnlyCommandsMentionCommands = (api : List ℕ) (root : Element) → All IsCommandOrMentionsNone (forms_of api root).declarations
