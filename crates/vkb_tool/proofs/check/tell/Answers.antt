use Rattle.std.proofs.Common.{List, ℕ, ◌≤◌, ◌<◌, length, sym, ap, ◌∙◌, arith}
use Rattle.std.proofs.lemmas.List.{length-map}
use Rattle.doc_tree.specs.Loaded.{flat_line, flat_of, rounds_of}
use Rattle.vkb_formula.specs.Names.{most_names}
use Rattle.vkb_tool.specs.declared.status.Status.{Status}
use Rattle.vkb_tool.specs.Outcome.{status_of, writes_alone}
use Rattle.vkb_tool.specs.Report.{report_of}
use Rattle.vkb_tool.proofs.CheckLemmas.{names_within}
use Rattle.vkb_tool.proofs.check.tell.Goals as goal

pub report-requires-clause-few : goal.report-requires-clause-few
report-requires-clause-few c =
    let few : length c.args.registry.now.options ≤ most_names = c.is_sound.ensures.options_few in
    rw c.options.ensures (omega arith)

pub report-requires-clause-within : goal.report-requires-clause-within
report-requires-clause-within c =
    let text = c.args.text.now.bytes in
    let d = c.args.document.now in
    let r = c.args.registry.now in
    rw c.options.ensures
    (names_within c.marks_at_some_choice.ensures c.sites_in_order.ensures c.args.always.now r (flat_of text d) (length d.lines) (sym (length-map d.lines (flat_line text d.files (rounds_of d))))
    c.in_ok-verdict.verdict c.in_ok-verdict.ensures)

pub returns-clause-told : goal.returns-clause-told
returns-clause-told c =
    let text = c.args.text.now.bytes in
    let lines = flat_of text c.args.document.now in
    let verdict = c.in_ok-verdict.verdict in
    record {
      verdict = verdict;
      is = c.in_ok-verdict.ensures;
      told = c.written.ensures
          ∙ ap (λ (output : List ℕ). writes_alone c.status_by.result output) (c.in_ok-output.ensures text)
          ∙ ap (λ (status : Status). writes_alone status (report_of lines c.options.result.now verdict)) c.status_by.ensures
          ∙ ap (λ (names : List (List ℕ)). writes_alone (status_of verdict) (report_of lines names verdict)) c.options.ensures;
    }
