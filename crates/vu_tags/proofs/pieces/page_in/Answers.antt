use Rattle.std.proofs.Common.{◌≡◌, ◌≢◌, Ok, Err, Result, sym, ◌∙◌}
use Rattle.std.specs.Prelude.{IfOk, Option, None, List, ℕ}
use Rattle.doc_cond.specs.declared.CondFault.{CondFault}
use Rattle.doc_cond.specs.declared.CondFault.TheVariants.{Memory as OutOfMemory}
use Rattle.doc_cond.specs.declared.LineKind.{LineKind}
use Rattle.doc_cond.specs.Lines.{IsKind}
use Rattle.vkb_bytes.specs.declared.memory.Memory.{Memory}
use Rattle.vu_tags.specs.Lines.{unfed}
use Rattle.vu_tags.specs.Tagged.{Names, TellsPages}
use Rattle.vu_tags.proofs.PageLemmas.{names_begin, names_none, names_tell}
use Rattle.vu_tags.proofs.pieces.page_in.Goals as goal

pub returns-then-not-starts_with : goal.returns-then-not-starts_with
returns-then-not-starts_with c = λ names tells. names_begin names tells c.args.line.now (sym c.starts_with.ensures.value ∙ c.if-not-starts_with.true)

pub returns-in-Ok : goal.returns-in-Ok
returns-in-Ok c = λ names tells.
    let kind = rw c.unfed.ensures.value at c.in-Ok.ensures.kind in
    let only = rw c.unfed.ensures.value at c.in-Ok.ensures.only in
    names_tell names tells (unfed c.args.line.now) c.in-Ok.kind kind only ∙ sym c.api_of.ensures

no_page_is : (result : Result (Option (List ℕ)) Memory) (line : List ℕ) (fault : CondFault)
    → IfOk result (λ page. (page ≡ None) × (fault ≢ OutOfMemory)) → ((other : LineKind) → IsKind line other → fault ≡ OutOfMemory)
    → IfOk result (λ page. (names : Names) → TellsPages names → names line ≡ page)
no_page_is (Ok page) line fault is only = λ names tells. names_none names tells line fault is.1 only ∙ sym is.0
no_page_is (Err memory) line fault is only = tt

pub returns-in-Err : goal.returns-in-Err
returns-in-Err c =
    let only = rw c.unfed.ensures.value at c.in-Err.ensures.only in
    no_page_is c.no_page.result (unfed c.args.line.now) c.in-Err.fault c.no_page.ensures only
