use Rattle.std.proofs.Common.{◌≡◌, ◌<ℤ◌, ◌≤ℤ◌, ℤ, pos, List, ℕ, IfOk, sym, subst, arith}
use mir.Syntax.{w128}
use Rattle.std.proofs.lemmas.Int.{ints, to_z-of_z}
use Rattle.std.specs.Fmt.{signed_decimal}
use Rattle.hdr_writer.proofs.NumberLemmas.{not-above, past-mask}
use Rattle.hdr_writer.proofs.numbers.mask_number.Goals as goal
use Rattle.hdr_writer.proofs.numbers.mask_number.Goals.{else-number-gt0-via-then-number-gt0+else-number-from, else-number-gt0-via-else-number-gt0}

pub returns-else-number-gt0 : goal.returns-else-number-gt0
returns-else-number-gt0 c =
    let P : List ℕ → Type 0 = λ x. IfOk c.decimal.result (λ text. text ≡ x) in
    let Q : ℤ → Type 0 = λ z. P (signed_decimal z) in
    let told : P (signed_decimal c.args.number) = subst Q (to_z-of_z w128 c.args.number c.ranges.number) c.decimal.ensures in
    elim c.else-number-gt0.branch [
      | else-number-gt0-via-then-number-gt0+else-number-from w ↦
          let h : pos 18446744073709551615 <ℤ c.args.number = omega (arith, ints, w.from.ensures, w.if-number-from.false) in
          subst P (sym (past-mask c.args.number h)) told
      | else-number-gt0-via-else-number-gt0 w ↦
          let h : c.args.number ≤ℤ pos 0 = omega (arith, ints, w.if-number-gt0.false) in
          subst P (sym (not-above c.args.number h)) told
    ]
