-- For private contracts: the rules of options as nodes, in which a feature's rule asks for the next lower one alone.
use Rattle.std.specs.Prelude.{◌≡◌, ℕ, ◌+◌, ◌*◌, ◌<◌, ◌≤◌, Bool, true, false, not, ◌||◌, List, length, take, sum_by, slice_get, slice_index_or, Option, Some, None, All, MatchOption}
use Rattle.std.specs.BTreeMap.{BTreeMap, get}
use Rattle.std.specs.List.{list_all}
use Rattle.std.specs.Ordering.{nat_cmp, ordering_then}
use Rattle.std.specs.declared.cmp.Ordering.{Ordering}
use Rattle.vkb_formula.specs.Formulas.{value_of}
use Rattle.vkb_formula.specs.Pools.{node_clauses, pool_values, sum_reached}
use Rattle.vkb_formula.specs.declared.name_table.NameId.{NameId}
use Rattle.vkb_formula.specs.declared.pool.NodeId.{NodeId}
use Rattle.vkb_formula.specs.declared.pool.PoolNode.{PoolNode}
use Rattle.reg_registry.specs.Rows.{Rows}
use Rattle.reg_registry.specs.declared.registry.OptionRow.{OptionRow}
use Rattle.reg_closure.specs.Closure.{IsIn, IsInClosure}
use Rattle.reg_permit.specs.Permitted.{IsFeature, IsLower}
use Rattle.reg_permit.specs.Size.{AreOriginsOfEach, asked_words, struct_weight}

-- the order in which a map keeps numbers of features
abbrev pub number_cmp : ℕ × ℕ → ℕ × ℕ → Ordering
number_cmp version other = ordering_then (nat_cmp version.0 other.0) (nat_cmp version.1 other.1)

-- the map has each feature before a place, under its number
pub record HasFeatures (options : List OptionRow) (count : ℕ) (features : BTreeMap (ℕ × ℕ) ℕ) : Type 0 where
  pub only : (version : ℕ × ℕ) (place : ℕ) → get number_cmp features version ≡ Some place → (place < count) × IsFeature options place version
  pub all : (version : ℕ × ℕ) (place : ℕ) → place < count → IsFeature options place version → get number_cmp features version ≡ Some place

-- no feature has a lower number
abbrev pub NoneIsLower : List OptionRow → ℕ × ℕ → Type 0
NoneIsLower options version = (other : ℕ) (lower : ℕ × ℕ) → IsFeature options other lower → IsLower lower version → ⊥

-- the feature of the next lower number
abbrev pub IsNextLower : List OptionRow → ℕ × ℕ → ℕ → Type 0
IsNextLower options version place =
    (next : ℕ × ℕ) × IsFeature options place next × IsLower next version
    × ((other : ℕ) (lower : ℕ × ℕ) → IsFeature options other lower → IsLower lower version → IsLower next lower → ⊥)

-- the lowest feature is chosen, and with another the next lower one
pub record AsksNext (options : List OptionRow) (chosen : List Bool) (place : ℕ) (version : ℕ × ℕ) : Type 0 where
  pub lowest : NoneIsLower options version → IsIn chosen place
  pub next : (lower : ℕ) → IsNextLower options version lower → IsIn chosen place → IsIn chosen lower

-- the rule of the option at a place, of which a feature's asks for the next lower one alone
pub record KeepsNext (r : Rows) (chosen : List Bool) (place : ℕ) (o : OptionRow) : Type 0 where
  pub feature : (version : ℕ × ℕ) → o.version ≡ Some version → AsksNext r.option_rows chosen place version
  pub depends : o.version ≡ None → o.bit ≡ None → IsIn chosen place → value_of chosen o.depends ≡ true
  pub bit : o.version ≡ None → (owner : NameId) (member : List ℕ) → o.bit ≡ Some (owner, member) → IsIn chosen place → IsInClosure r chosen owner.0

-- these rules hold before a place
abbrev pub KeepNextBefore : Rows → List Bool → ℕ → Type 0
KeepNextBefore r chosen place = (before : ℕ) (o : OptionRow) → before < place → slice_get r.option_rows before ≡ Some o → KeepsNext r chosen before o

-- a node of the pool that says something of each set, and how many clauses what it reaches takes at most
pub record IsNodeOf (nodes : List PoolNode) (id : NodeId) (says : List Bool → Bool) (most : ℕ) : Type 0 where
  pub held : id.0 < length nodes
  pub value : (set : List Bool) → slice_index_or (pool_values set nodes) id.0 false ≡ says set
  pub size : sum_reached node_clauses nodes id.0 ≤ most

-- the option isn't chosen, or the node is true
abbrev pub asks_node : List PoolNode → ℕ → NodeId → List Bool → Bool
asks_node nodes place asked set = not (slice_index_or set place false) || slice_index_or (pool_values set nodes) asked.0 false

-- the option isn't chosen, or what it depends on holds
abbrev pub asks_formula : (List Bool → Bool) → ℕ → List Bool → Bool
asks_formula holds place set = not (slice_index_or set place false) || holds set

-- the feature is chosen where none is lower; else, where it is chosen, the next lower one is
abbrev pub feature_says : ℕ → Option ℕ → List Bool → Bool
feature_says place None set = slice_index_or set place false
feature_says place (Some lower) set = not (slice_index_or set place false) || slice_index_or set lower false

-- how many clauses a rule takes at most, with its place among the rules
abbrev pub rule_cost : Rows → (ℕ → List ℕ) → OptionRow → ℕ
rule_cost r origins o = 4 + 4 * asked_words o + 7 * struct_weight r origins o

-- the option has no rule
abbrev pub IsFree : Rows → ℕ → OptionRow → Type 0
IsFree r place o = (chosen : List Bool) → length chosen ≡ length r.options → KeepsNext r chosen place o

-- the node says the rule of the option
pub record SaysRule (r : Rows) (nodes : List PoolNode) (place : ℕ) (o : OptionRow) (id : NodeId) : Type 0 where
  pub held : id.0 < length nodes
  pub only : (chosen : List Bool) → length chosen ≡ length r.options → slice_index_or (pool_values chosen nodes) id.0 false ≡ true → KeepsNext r chosen place o
  pub all : (chosen : List Bool) → length chosen ≡ length r.options → KeepsNext r chosen place o → slice_index_or (pool_values chosen nodes) id.0 false ≡ true
  pub size : (origins : ℕ → List ℕ) → AreOriginsOfEach r origins → sum_reached node_clauses nodes id.0 + 1 ≤ rule_cost r origins o

-- the option has no rule, or the node says it
abbrev pub IsRule : Rows → List PoolNode → ℕ → OptionRow → Option NodeId → Type 0
IsRule r nodes place o rule = MatchOption rule (IsFree r place o) (SaysRule r nodes place o)

-- the nodes say the rules of the options before a place
pub record SayRules (r : Rows) (nodes : List PoolNode) (place : ℕ) (rules : List NodeId) : Type 0 where
  pub held : All (λ id. id.0 < length nodes) rules
  pub only : (chosen : List Bool) → length chosen ≡ length r.options
      → list_all (λ id. slice_index_or (pool_values chosen nodes) id.0 false) rules ≡ true → KeepNextBefore r chosen place
  pub all : (chosen : List Bool) → length chosen ≡ length r.options → KeepNextBefore r chosen place
      → list_all (λ id. slice_index_or (pool_values chosen nodes) id.0 false) rules ≡ true
  pub size : (origins : ℕ → List ℕ) → AreOriginsOfEach r origins
      → sum_by (λ id. sum_reached node_clauses nodes id.0 + 1) rules ≤ sum_by (rule_cost r origins) (take place r.option_rows)
