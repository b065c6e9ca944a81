use Rattle.std.proofs.Common.{◌≡◌, ◌++◌, drop}
use Rattle.hdr_writer.specs.MaxNames.{words, words_behind}
use Rattle.hdr_writer.proofs.max_names.put_words.Given as goal

abbrev pub invariant-loop-byte : goal.invariant-loop-byte
invariant-loop-byte l = l.text.items ++ words_behind l.before (drop l.byte-index l.name) ≡ l.initial.text.items ++ words l.name
