use Rattle.std.proofs.Common.{◌≡◌, ◌++◌, Bool, List, take}
use Rattle.std.specs.List.{filter, flat_map}
use Rattle.hdr_writer.specs.Declarations.{declaration_with}
use Rattle.hdr_writer.specs.Ends.{AreEnds}
use Rattle.hdr_writer.specs.Headers.{is_command}
use Rattle.hdr_writer.proofs.headers.put_commands.Given as goal

abbrev pub invariant-loop-id : goal.invariant-loop-id
invariant-loop-id l = record {
  ends : AreEnds l.r.rows l.ends.items;
  text : (active : List Bool)
      → l.text.items ≡ l.initial.text.items ++ flat_map (declaration_with l.r active) (filter (is_command l.r) (take l.id-index l.order));
}
