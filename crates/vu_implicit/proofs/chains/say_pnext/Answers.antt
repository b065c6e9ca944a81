use Rattle.std.proofs.Common.{List, ℕ, [], ◌∷◌, ◌++◌, codes, length, map, sym, ap, ◌∙◌, nat_eq, nat_lt}
use Rattle.vu_implicit.specs.Chains.{may_include}
use Rattle.vu_implicit.specs.Wording.{says}
use Rattle.vu_implicit.proofs.ChainLemmas.{extended, positive}
use Rattle.vu_implicit.proofs.chains.say_pnext.Goals as goal

pub returns : goal.returns
returns c =
    let none = sym c.is_empty.ensures ∙ c.if-is_empty.false in
    let count = length c.args.extending.now in
    let each = ap (λ (text : List ℕ). c.args.said.now.items ++ says c.args.owner.now (codes "pNext") (codes "pNext") text ∷ []) c.in_ok-each.ensures.items in
    let unique = ap (λ (text : List ℕ). c.say_may_include.new.said.items ++ says c.args.owner.now (codes "sType") (codes "unique") text ∷ []) c.in_ok-unique.ensures.items in
    extended (nat_eq count 0) (nat_lt 0 count) _ _ _ (map (may_include c.args.r.now c.args.owner.now) c.args.extending.now)
    c.args.said.now.items c.say-2.new.said.items c.say_may_include.new.said.items c.say-3.new.said.items none (positive count none)
    (c.in_ok-say.ensures ∙ each) c.in_ok-say_may_include.ensures (c.in_ok-say-2.ensures ∙ unique)
