use Rattle.std.proofs.Common.{length, ◌≡◌, ◌++◌, true}
use Rattle.std.specs.List.{list_all}
use Rattle.doc_cond.specs.Lines.{is_run, is_name_byte}
use Rattle.doc_cond.proofs.Pieces.{pieces}
use Rattle.doc_cond.proofs.names.parts.Given as goal

abbrev pub invariant-loop-name : goal.invariant-loop-name
invariant-loop-name l = record {
  whole : l.names.items ++ pieces l.separator l.rest ≡ pieces l.separator l.text;
  each : list_all (is_run is_name_byte) l.names.items ≡ true;
}

abbrev pub decreases-loop-name : goal.decreases-loop-name
decreases-loop-name l = length l.rest
