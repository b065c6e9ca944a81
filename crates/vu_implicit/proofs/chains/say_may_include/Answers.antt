use Rattle.std.proofs.Common.{List, ℕ, [], ◌∷◌, ◌++◌, get_or, ap, ◌∙◌, arith}
use Rattle.reg_registry.specs.Rows.{id_at}
use Rattle.vu_implicit.specs.Chains.{included, may_include}
use Rattle.vu_implicit.proofs.JoinLemmas.{map-more}
use Rattle.vu_implicit.proofs.chains.say_may_include.Goals as goal

pub loop-id-preserved : goal.loop-id-preserved
loop-id-preserved c =
    let ids = c.args.extending.now in
    let at = c.loop-id.id-index in
    let said = c.loop-id.said.items in
    let owner = c.args.owner.now in
    map-more (may_include c.args.r.now owner) ids at (id_at 0) c.args.said.now.items said c.push.new.self.items (omega arith) c.loop-id.invariant
    (c.in_ok-push.ensures.items
    ∙ ap (λ s. said ++ s ∷ []) (c.in_ok-statement.ensures ∙ ap (λ (name : List ℕ). included owner name (get_or ids at (id_at 0))) c.name_of.ensures))
