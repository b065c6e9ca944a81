use Rattle.std.proofs.Common.{◌∙◌, false, ap}
use Rattle.std.specs.Fmt.{digits_output, padded_integral, radix_prefix, shown_prefix}
use Rattle.hdr_writer.proofs.NumberLemmas.{hexadecimal-told}
use Rattle.hdr_writer.proofs.numbers.hexadecimal.Goals as goal

pub returns : goal.returns
returns c =
    let base = c.in_radix.result.base in
    c.from_vec.ensures ∙ ap (λ v. v.items) c.into_bytes.ensures.value
    ∙ hexadecimal-told c.args.number _ (digits_output c.in_radix.result) (padded_integral c.laid_out.result false (shown_prefix c.laid_out.result (radix_prefix base)))
    c.in_radix.ensures (ap (λ s. padded_integral s false (shown_prefix s (radix_prefix base))) c.laid_out.ensures) c.in_ok-format.ensures.ok
