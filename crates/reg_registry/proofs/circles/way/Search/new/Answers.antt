use Rattle.std.proofs.Common.{rules, ◌≡◌, ◌++◌, ◌∷◌, [], List, Bool, false, true, length, replicate, set, sym, ap, subst, ◌∙◌, refl}
use Rattle.reg_registry.specs.declared.circles.way.Met.{Met}
use Rattle.reg_registry.specs.Ways.{IsSearch}
use Rattle.reg_registry.proofs.WayLemmas.{search-begin}
use Rattle.reg_registry.proofs.circles.way.Search.new.Goals as goal

pub returns : goal.returns
returns c =
    let h = c.in_ok-seen.ensures.items_if_clones_equal in
    let seen : c.in_ok-seen.seen.items ≡ replicate (length c.args.rows.now) false = search rules in
    let met : c.push.new.self.items ≡ record { name = c.args.first; by = 0 } ∷ [] =
    c.in_ok-push.ensures.items ∙ ap (λ (x : List Met). x ++ record { name = c.args.first; by = 0 } ∷ []) c.new-met.ensures.items in
    subst (λ (x : List Met). IsSearch c.args.rows.now c.args.first (record { seen = set c.in_ok-seen.seen.items c.args.first true; met = x })) (sym met)
    (subst (λ (x : List Bool). IsSearch c.args.rows.now c.args.first (record { seen = set x c.args.first true; met = record { name = c.args.first; by = 0 } ∷ [] })) (sym seen)
    (search-begin c.args.rows.now c.args.first c.args.first refl c.requires.first))
