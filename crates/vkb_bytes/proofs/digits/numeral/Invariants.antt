use Rattle.std.proofs.Common.{◌≡◌, ◌-◌, ◌^◌, min, true, map, take}
use Rattle.std.specs.Char.{digit_value}
use Rattle.std.specs.List.{list_all}
use Rattle.vkb_bytes.specs.Numbers.{number_of, is_digit_in}
use Rattle.vkb_bytes.proofs.digits.numeral.Given as goal

-- the bytes that were passed are digits, and the number is theirs, or the greatest of the type
abbrev pub invariant-loop-byte : goal.invariant-loop-byte
invariant-loop-byte l = record {
  all_digits : list_all (is_digit_in l.base) (take l.byte-index l.text) ≡ true;
  counted : l.number ≡ min (number_of l.base (map digit_value (take l.byte-index l.text))) (2 ^ 128 - 1);
}
