use Rattle.std.proofs.Common.{◌≡◌, drop}
use Rattle.std.specs.List.{list_all}
use Rattle.vkb_bytes.specs.Bytes.{is_word_byte}
use Rattle.vu_implicit.proofs.chains.is_word.Given as goal

-- each byte so far is one of a word
abbrev pub invariant-loop-byte : goal.invariant-loop-byte
invariant-loop-byte l = list_all is_word_byte (drop l.byte-index l.text) ≡ list_all is_word_byte l.text
