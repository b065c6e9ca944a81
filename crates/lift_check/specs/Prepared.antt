-- For private contracts: the nodes by which a document over a registry is judged.
use Rattle.std.specs.Prelude.{◌≡◌, ℕ, ◌<◌, ◌≤◌, Bool, List, All, length}
use Rattle.vkb_formula.specs.Pools.{pool_reach}
use Rattle.doc_tree.specs.Flat.{FlatLine}
use Rattle.doc_tree.specs.declared.Document.{Document}
use Rattle.reg_registry.specs.Rows.{Rows}
use Rattle.reg_closure.specs.Closure.{IsClosure}
use Rattle.reg_permit.specs.Size.{SaysPermitted}
use Rattle.doc_build.specs.Built.{set_names}
use Rattle.doc_build.specs.Choices.{Choice}
use Rattle.lift_nodes.specs.Cases.{AreConstant}
use Rattle.lift_nodes.specs.Nodes.{is_true}
use Rattle.lift_survey.specs.Survey.{Tells}
use Rattle.lift_check.specs.declared.nodes.Prepared.{Prepared}

-- there is a node of the pool for each line and for each name, and no more is read than the options
pub record AreHeld (d : Document) (r : Rows) (p : Prepared) : Type 0 where
  pub constants : AreConstant p.pool p.constants
  pub line_count : length p.lines.items ≡ length d.lines
  pub lines : All (λ node. node.0 < length p.pool) p.lines.items
  pub name_count : length p.names.items ≡ length r.names
  pub names : All (λ node. node.0 < length p.pool) p.names.items
  pub permit : p.permit.0 < length p.pool
  pub reach : pool_reach p.pool ≤ length r.options

-- At each choice they tell which lines are kept, which names the closure has, and whether the choice is permitted.
pub record SayAll (always : List (List ℕ)) (r : Rows) (lines : List FlatLine) (p : Prepared) : Type 0 where
  pub permitted : (choice : Choice) → length choice ≡ length r.options → SaysPermitted r p.pool p.permit choice
  pub tells : (choice : Choice) (set : List Bool) → length choice ≡ length r.options → IsClosure r choice set
      → Tells r lines p.lines.items p.names.items (is_true p.pool choice) (set_names always r choice) set
