use Rattle.std.proofs.Common.{◌≡◌, ◌<◌, ◌≤◌, [], length, map, take, All, slice_index_or}
use Rattle.vkb_formula.specs.Names.{most_names}
use Rattle.doc_tree.specs.Progress.{with_names}
use Rattle.doc_tree.proofs.draft.intern_all.Given as goal

abbrev pub invariant-loop-name : goal.invariant-loop-name
invariant-loop-name l = record {
  table : with_names (take l.name-index l.names) l.initial.table ≡ l.table;
  ids : map (λ id. slice_index_or l.table id.0 []) l.ids.items ≡ take l.name-index l.names;
  few : length l.initial.table ≤ most_names → length l.table ≤ most_names;
  each : All (λ id. id.0 < length l.table) l.ids.items;
}
