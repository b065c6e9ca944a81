use Rattle.std.proofs.Common.{◌≡◌, ℕ, ◌-◌, ◌<◌, ◌^◌, length, get_or, map, take, arith, ◌∙◌, ap}
use Rattle.std.specs.Char.{digit_value}
use Rattle.std.proofs.lemmas.Bool.{and_from, lt-ltb}
use Rattle.std.proofs.lemmas.List.Folds.{list_all_more}
use Rattle.vkb_bytes.specs.Numbers.{number_of, is_digit_in}
use Rattle.vkb_bytes.proofs.NumberLemmas.{number_more, cut_more}
use Rattle.vkb_bytes.proofs.digits.numeral.Goals as goal

pub loop-byte-preserved : goal.loop-byte-preserved
loop-byte-preserved c =
    let text = c.args.text.now in
    let i : ℕ = c.loop-byte.byte-index in
    let base : ℕ = c.args.base in
    let here : i < length text = omega arith in
    let found = c.in_ok-digit.ensures.value in
    let byte : c.from.result ≡ get_or text i 0 = cc in
    let worth : c.in_ok-digit.digit ≡ digit_value (get_or text i 0) = found.1 ∙ ap digit_value byte in
    let small : digit_value (get_or text i 0) < base = rw byte at found.0 in
    let before : ℕ = number_of base (map digit_value (take i text)) in
    record {
      all_digits =
          list_all_more (is_digit_in base) text i 0 here ∙ and_from _ _ c.loop-byte.invariant.all_digits (lt-ltb _ base small);
      counted =
          let more = number_more base digit_value text i here in
          let cut = cut_more before base (digit_value (get_or text i 0)) (2 ^ 128 - 1) (omega arith) in
          cc;
    }
