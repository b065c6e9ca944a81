-- Who names commands: a law of this crate.
use Rattle.std.specs.Prelude.{◌≡◌, ℕ, List, Some, Ok, Contains, slice_get}
use Rattle.reg_registry.specs.Rows.{Rows, id_at}
use Rattle.reg_registry.specs.declared.kinds.Kind.TheVariants as kind
use Rattle.reg_registry.specs.declared.registry.Row.{Row}
use Rattle.reg_reader.specs.Shown.{SpellsElement}
use Rattle.reg_reader.specs.Views.{Element}
use Rattle.reg_forms.specs.Forms.{forms_of}
use Rattle.reg_rows.specs.Answer.{IsAnswer}

-- in the rows of a registry that bytes spell, what names a command is a command
abbrev pub OnlyCommandsNameCommands : Type 0
OnlyCommandsNameCommands =
    (b api : List ℕ) (root : Element) (r : Rows) (place other : ℕ) (row named : Row) → SpellsElement b root → IsAnswer (forms_of api root) (Ok r)
    → slice_get r.rows place ≡ Some row → slice_get r.rows other ≡ Some named → Contains row.named (id_at other)
    → named.kind ≡ kind.Command → row.kind ≡ kind.Command
