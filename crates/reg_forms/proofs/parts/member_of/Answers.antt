use Rattle.std.proofs.Common.{ap, ◌∙◌}
use Rattle.vkb_bytes.specs.Trimming.{collapse}
use Rattle.reg_forms.specs.Attributes.{count_in}
use Rattle.reg_forms.proofs.parts.member_of.Goals as goal

pub returns : goal.returns
returns c =
    let text = c.in_ok-text-2.ensures ∙ ap collapse (c.as_slice-2.ensures ∙ c.in_ok-text.ensures) in
    let stars = c.stars_in-stars.ensures ∙ ap (count_in 42) (c.as_slice.ensures ∙ c.in_ok-text.ensures) in λ i. record {
      place = c.place.ensures i;
      name = c.args.name;
      text = text i;
      base = c.args.base;
      stars = stars i;
      values = c.in_ok-values.ensures i;
      len = c.in_ok-len.ensures i;
      optional = c.in_ok-optional.ensures i;
      silent = c.in_ok-silent.ensures i;
    }
