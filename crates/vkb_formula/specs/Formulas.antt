-- What a formula says at a set of variables, and how large it is.
use Rattle.std.specs.Prelude.{ℕ, ◌+◌, max, Bool, true, false, not, List, [], ◌∷◌, length, slice_index_or, sum}
use Rattle.std.specs.List.{list_all, list_any}
use Rattle.vkb_formula.specs.declared.formula.Formula.{Formula}
use Rattle.vkb_formula.specs.declared.formula.Formula.TheOpen.{Formula-F}
use Rattle.vkb_formula.specs.declared.formula.Formula.TheFolds.{fold-Formula}

-- one node, with the value of each part in its place
abbrev pub node_value : List Bool → Formula-F Bool → Bool
node_value set Formula-F.Always = true
node_value set Formula-F.Never = false
node_value set (Formula-F.Var variable) = slice_index_or set variable false
node_value set (Formula-F.Not part) = not part
node_value set (Formula-F.All parts) = list_all (λ part. part) parts
node_value set (Formula-F.Any parts) = list_any (λ part. part) parts

-- the truth of a formula at a set, which tells of each variable whether it is true
abbrev pub value_of : List Bool → Formula → Bool
value_of set = fold-Formula Bool (node_value set)

-- the greatest of several numbers, or 0
abbrev pub greatest : List ℕ → ℕ
greatest [] = 0
greatest (n ∷ ns) = max n (greatest ns)

abbrev pub node_reach : Formula-F ℕ → ℕ
node_reach Formula-F.Always = 0
node_reach Formula-F.Never = 0
node_reach (Formula-F.Var variable) = variable + 1
node_reach (Formula-F.Not part) = part
node_reach (Formula-F.All parts) = greatest parts
node_reach (Formula-F.Any parts) = greatest parts

-- one more than the greatest variable of a formula, or 0: how long a set must be
abbrev pub reach_of : Formula → ℕ
reach_of = fold-Formula ℕ node_reach

abbrev pub node_size : Formula-F ℕ → ℕ
node_size Formula-F.Always = 1
node_size Formula-F.Never = 1
node_size (Formula-F.Var variable) = 1
node_size (Formula-F.Not part) = 1 + part
node_size (Formula-F.All parts) = 1 + sum parts
node_size (Formula-F.Any parts) = 1 + sum parts

-- the number of nodes
abbrev pub size_of : Formula → ℕ
size_of = fold-Formula ℕ node_size

abbrev pub node_variables : Formula-F ℕ → ℕ
node_variables Formula-F.Always = 1
node_variables Formula-F.Never = 1
node_variables (Formula-F.Var variable) = 0
node_variables (Formula-F.Not part) = part
node_variables (Formula-F.All parts) = 1 + sum parts
node_variables (Formula-F.Any parts) = 1 + sum parts

-- how many variables its clauses have besides its own, when it is put into clauses with a variable for each `All`, `Any`
-- and constant (Tseitin's form)
abbrev pub variables_of : Formula → ℕ
variables_of = fold-Formula ℕ node_variables

abbrev pub node_clauses : Formula-F ℕ → ℕ
node_clauses Formula-F.Always = 1
node_clauses Formula-F.Never = 1
node_clauses (Formula-F.Var variable) = 0
node_clauses (Formula-F.Not part) = part
node_clauses (Formula-F.All parts) = length parts + 1 + sum parts
node_clauses (Formula-F.Any parts) = length parts + 1 + sum parts

-- how many clauses it is put into with a variable for each `All`, `Any` and constant (Tseitin's form): they tell of each
-- node what its parts make it, one for a constant, and one more than the parts for an `All` or an `Any`
abbrev pub clauses_of : Formula → ℕ
clauses_of = fold-Formula ℕ node_clauses
