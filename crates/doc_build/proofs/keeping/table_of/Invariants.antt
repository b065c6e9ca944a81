use Rattle.std.proofs.Common.{◌≡◌, List, ℕ, take}
use Rattle.doc_tree.specs.Flat.{is_among}
use Rattle.doc_build.proofs.keeping.table_of.Given as goal

-- the table has the names so far
abbrev pub invariant-loop-name : goal.invariant-loop-name
invariant-loop-name l = (name : List ℕ) → is_among l.table name ≡ is_among (take l.name-index l.names) name
