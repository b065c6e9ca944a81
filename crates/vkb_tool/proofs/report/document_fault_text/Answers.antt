use Rattle.std.proofs.Common.{List, ℕ, refl, ap, ◌∙◌, codes}
use Rattle.doc_tree.specs.Fault as fault
use Rattle.vkb_tool.specs.Report.{file_fault_line, line_fault_line}
use Rattle.vkb_tool.proofs.report.document_fault_text.Goals as goal

pub returns-in_ok-file_fault_text-in-Missing-clause-told : goal.returns-in_ok-file_fault_text-in-Missing-clause-told
returns-in_ok-file_fault_text-in-Missing-clause-told c = rw c.in-Missing.is (fault.Missing c.in-Missing.name, refl, c.in_ok-file_fault_text-in-Missing.ensures ∙ ap (λ (name : List ℕ). file_fault_line (codes "Missing") name) c.as_slice.ensures)

pub returns-in_ok-file_fault_text-in-TooLarge-clause-told : goal.returns-in_ok-file_fault_text-in-TooLarge-clause-told
returns-in_ok-file_fault_text-in-TooLarge-clause-told c = rw c.in-TooLarge.is (fault.TooLarge c.in-TooLarge.name, refl, c.in_ok-file_fault_text-in-TooLarge.ensures ∙ ap (λ (name : List ℕ). file_fault_line (codes "TooLarge") name) c.as_slice-in-TooLarge.ensures)

pub returns-in_ok-line_fault_text-in-IncludeDepth-clause-told : goal.returns-in_ok-line_fault_text-in-IncludeDepth-clause-told
returns-in_ok-line_fault_text-in-IncludeDepth-clause-told c = rw c.in-IncludeDepth.is (fault.IncludeDepth c.in-IncludeDepth.name c.in-IncludeDepth.line, refl, c.in_ok-line_fault_text-in-IncludeDepth.ensures ∙ ap (λ (name : List ℕ). line_fault_line (codes "IncludeDepth") name c.in-IncludeDepth.line) c.as_slice-in-IncludeDepth.ensures)

pub returns-in_ok-line_fault_text-in-DocTooLong-clause-told : goal.returns-in_ok-line_fault_text-in-DocTooLong-clause-told
returns-in_ok-line_fault_text-in-DocTooLong-clause-told c = rw c.in-DocTooLong.is (fault.DocTooLong c.in-DocTooLong.name c.in-DocTooLong.line, refl, c.in_ok-line_fault_text-in-DocTooLong.ensures ∙ ap (λ (name : List ℕ). line_fault_line (codes "DocTooLong") name c.in-DocTooLong.line) c.as_slice-in-DocTooLong.ensures)

pub returns-in_ok-line_fault_text-in-NameLimit-clause-told : goal.returns-in_ok-line_fault_text-in-NameLimit-clause-told
returns-in_ok-line_fault_text-in-NameLimit-clause-told c = rw c.in-NameLimit.is (fault.NameLimit c.in-NameLimit.name c.in-NameLimit.line, refl, c.in_ok-line_fault_text-in-NameLimit.ensures ∙ ap (λ (name : List ℕ). line_fault_line (codes "NameLimit") name c.in-NameLimit.line) c.as_slice-in-NameLimit.ensures)

pub returns-in_ok-line_fault_text-in-BadCondition-clause-told : goal.returns-in_ok-line_fault_text-in-BadCondition-clause-told
returns-in_ok-line_fault_text-in-BadCondition-clause-told c = rw c.in-BadCondition.is (fault.BadCondition c.in-BadCondition.name c.in-BadCondition.line, refl, c.in_ok-line_fault_text-in-BadCondition.ensures ∙ ap (λ (name : List ℕ). line_fault_line (codes "BadCondition") name c.in-BadCondition.line) c.as_slice-in-BadCondition.ensures)

pub returns-in_ok-line_fault_text-in-Unbalanced-clause-told : goal.returns-in_ok-line_fault_text-in-Unbalanced-clause-told
returns-in_ok-line_fault_text-in-Unbalanced-clause-told c = rw c.in-Unbalanced.is (fault.Unbalanced c.in-Unbalanced.name c.in-Unbalanced.line, refl, c.in_ok-line_fault_text-in-Unbalanced.ensures ∙ ap (λ (name : List ℕ). line_fault_line (codes "Unbalanced") name c.in-Unbalanced.line) c.as_slice-in-Unbalanced.ensures)

pub returns-in_ok-line_fault_text-in-CondDepth-clause-told : goal.returns-in_ok-line_fault_text-in-CondDepth-clause-told
returns-in_ok-line_fault_text-in-CondDepth-clause-told c = rw c.in-CondDepth.is (fault.CondDepth c.in-CondDepth.name c.in-CondDepth.line, refl, c.in_ok-line_fault_text-in-CondDepth.ensures ∙ ap (λ (name : List ℕ). line_fault_line (codes "CondDepth") name c.in-CondDepth.line) c.as_slice-in-CondDepth.ensures)
