use Rattle.std.proofs.Common.{codes, decimal, sym, ap, ◌∙◌}
use Rattle.vkb_tool.specs.Report.{line_feed}
use Rattle.vkb_tool.proofs.ReportLemmas.{regrouped}
use Rattle.vkb_tool.proofs.report.no_number_text.Goals as goal

pub returns : goal.returns
returns c = ap (λ v. v.items) c.into_bytes.ensures.value ∙ c.in_ok-format.ensures.ok ∙ sym (regrouped (codes "refused NoNumber ") (decimal c.args.needed) (codes " ") (decimal c.args.left) line_feed)
