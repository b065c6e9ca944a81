use Rattle.std.proofs.Common.{◌≡◌, ◌++◌, ◌∷◌, [], ◌<◌, ◌∙◌, ◌+◌, ap, sym, subst, List, ℕ, length, rules, arith}
use Rattle.doc_cond.specs.Progress.{Nests}
use Rattle.doc_cond.proofs.Counting.{Nests-open}
use Rattle.doc_cond.proofs.nest.Nest.open.Goals as goal

pub returns : goal.returns
returns c =
    let kinds = c.args.kinds.now in
    let line = c.args.line in
    let pairs = c.args.self.now.pairs.items in
    let waiting = c.args.self.now.waiting.items in
    let pushed : c.push.new.self.items ≡ pairs ++ (line, 0) ∷ [] = search rules in
    let slot : c.len-slot.result ≡ length pairs = omega (arith, c.len-slot.ensures, c.args.self.now.pairs.ok.0) in
    let waits : c.push-2.new.self.items ≡ waiting ++ length pairs ∷ [] = c.in_ok-push-2.ensures.items ∙ ap (λ s. waiting ++ s ∷ []) slot in
    let room : length waiting < 64 = omega (arith, c.if-len-ge-MAX_OPEN.false, c.len.ensures, c.args.self.now.waiting.ok.0) in
    subst (λ (ps : List (ℕ × ℕ)). Nests kinds (line + 1) ps c.push-2.new.self.items) (sym pushed)
    (subst (λ (ws : List ℕ). Nests kinds (line + 1) (pairs ++ (line, 0) ∷ []) ws) (sym waits)
    (Nests-open kinds line c.requires.within pairs waiting c.requires.nests c.requires.opens room))
