use Rattle.std.proofs.Common.{List, ℕ, Bor}
use Rattle.doc_build.proofs.JoinLemmas.{part-more}
use Rattle.doc_build.proofs.pages.joined.Goals as goal

pub loop-part-preserved : goal.loop-part-preserved
loop-part-preserved c =
    part-more (λ (part : Bor (List ℕ)). part.now) c.loop-part.bytes.items c.extend_from_slice.new.self.items c.args.parts.now c.loop-part.part-index _
    c.loop-part-test.true c.loop-part.invariant c.in_ok-extend_from_slice.ensures.items
