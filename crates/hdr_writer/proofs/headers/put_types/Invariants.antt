use Rattle.std.proofs.Common.{◌≡◌, ◌++◌, not, take}
use Rattle.std.specs.List.{filter, flat_map}
use Rattle.hdr_writer.specs.Declarations.{declaration_with}
use Rattle.hdr_writer.specs.Headers.{is_command}
use Rattle.hdr_writer.proofs.headers.put_types.Given as goal

abbrev pub invariant-loop-id : goal.invariant-loop-id
invariant-loop-id l =
    l.text.items ≡ l.initial.text.items ++ flat_map (declaration_with l.r l.active) (filter (λ id. not (is_command l.r id)) (take l.id-index l.order))
