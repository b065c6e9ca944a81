use Rattle.std.proofs.Common.{◌≡◌, ◌++◌}
use Rattle.std.specs.List.{filter, flat_map, range_with_len}
use Rattle.hdr_writer.specs.Headers.{define_line, is_defined}
use Rattle.hdr_writer.proofs.headers.put_defines.Given as goal

abbrev pub invariant-loop-place : goal.invariant-loop-place
invariant-loop-place l =
    l.text.items ≡ l.initial.text.items ++ flat_map (define_line l.r) (filter (is_defined l.r l.chosen) (range_with_len 0 l.place))
