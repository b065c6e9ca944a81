use Rattle.std.proofs.Common.{◌≡◌, ◌+◌, ◌-◌, ◌≤◌, length, drop}
use Rattle.std.specs.List.{prefix_len}
use Rattle.vkb_bytes.specs.Bytes.{is_word_byte}
use Rattle.doc_marks.proofs.ids.word_len.Given as goal

-- the word is what was passed and the word of the rest
abbrev pub invariant-loop-len : goal.invariant-loop-len
invariant-loop-len l = record {
  in_range : l.len ≤ length l.bytes;
  counted : l.len + prefix_len is_word_byte (drop l.len l.bytes) ≡ prefix_len is_word_byte l.bytes;
}

abbrev pub decreases-loop-len : goal.decreases-loop-len
decreases-loop-len l = length l.bytes - l.len
