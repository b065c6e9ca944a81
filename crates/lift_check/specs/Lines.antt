-- What the names of a document are over the options of a registry.
use Rattle.std.specs.Prelude.{◌≡◌, ℕ, List, length}
use Rattle.doc_tree.specs.declared.Document.{Document}
use Rattle.reg_registry.specs.Rows.{Rows}
use Rattle.lift_check.specs.Options.{AreSettings, Settings}

-- the settings are those of a document's names over the options of a registry, where some names are always set
pub record AreOptionsOf (always : List (List ℕ)) (r : Rows) (d : Document) (settings : Settings) : Type 0 where
  pub count : settings.count ≡ length r.options
  pub each : AreSettings always r.options d.names settings.each
