use Rattle.std.proofs.Common.{◌≡◌, ◌<◌, length, filter, map, slice_get, false, All}
use Rattle.std.specs.List.{range_with_len}
use Rattle.std.specs.Option.{option_map_or}
use Rattle.reg_registry.specs.Rows.{id_at}
use Rattle.vu_implicit.specs.Types.{extends}
use Rattle.vu_implicit.proofs.types.extending.Given as goal

-- those before the place are found
abbrev pub invariant-loop-place : goal.invariant-loop-place
invariant-loop-place l = record {
  found : l.ids.items ≡ filter (λ id. option_map_or (extends l.owner) (slice_get l.r.rows id.0) false) (map id_at (range_with_len 0 l.place));
  held : All (λ id. id.0 < length l.r.names) l.ids.items;
}
