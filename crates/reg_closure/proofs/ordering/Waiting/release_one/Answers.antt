use Rattle.std.proofs.Common.{◌-◌, ℕ, Contains, inl, inr, ⊎_elim, refl, sym, set, subst, List}
use Rattle.reg_closure.proofs.WaitLemmas.{insert-from, insert-new, insert-old, releases-read}
use Rattle.reg_closure.proofs.ordering.Waiting.release_one.Goals as goal

pub returns-in_ok-insert : goal.returns-in_ok-insert
returns-in_ok-insert c =
    let keys = c.in_ok-insert.ensures.keys in
    let old = c.self.inside.ready.keys in
    releases-read (record { counts = c.self.inside.counts.items; ready = old }) c.args.self.now
    (record { counts = set c.self.inside.counts.items c.args.name (c.index.result.now - 1); ready = c.insert.new.self.keys })
    c.args.name c.index.result.now c.requires.0 c.self.view_is c.requires.1 c.index.ensures refl
    (λ y k. subst (λ (xs : List ℕ). Contains xs y) (sym keys) (insert-old old c.args.name y k))
    (λ z. subst (λ (xs : List ℕ). Contains xs c.args.name) (sym keys) (insert-new old c.args.name))
    (λ y k. ⊎_elim (λ d. inl d) (λ e. inr (e, c.if-left-eq0.true)) (insert-from old c.args.name y (subst (λ (xs : List ℕ). Contains xs y) keys k)))

pub returns-else-left-eq0 : goal.returns-else-left-eq0
returns-else-left-eq0 c =
    let old = c.self.inside.ready.keys in
    releases-read (record { counts = c.self.inside.counts.items; ready = old }) c.args.self.now
    (record { counts = set c.self.inside.counts.items c.args.name (c.index.result.now - 1); ready = old })
    c.args.name c.index.result.now c.requires.0 c.self.view_is c.requires.1 c.index.ensures refl
    (λ y k. k) (λ z. absurd (c.if-left-eq0.false z)) (λ y k. inl k)
