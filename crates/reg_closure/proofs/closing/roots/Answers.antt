use Rattle.std.proofs.Common.{⊎_elim, length}
use Rattle.reg_closure.proofs.ClosingLemmas.{kept-root}
use Rattle.reg_closure.proofs.closing.roots.Goals as goal

pub returns-clause-only : goal.returns-clause-only
returns-clause-only c place i =
    ⊎_elim (λ none. absurd (c.in_ok-marking.ensures.none place none))
    (λ kept. kept-root (length c.args.r.now.names) c.args.r.now.blocks c.args.chosen.now c.in_ok-required.required c.in_ok-removed.removed c.in_ok-required.ensures c.in_ok-removed.ensures place kept.0 kept.1)
    (c.in_ok-mark_kept.ensures.only place i)
