use Rattle.vkb_formula.proofs.NameLemmas.{different-names, put-names, put-place, put-count, put-found}
use Rattle.vkb_formula.proofs.names.put_last.Goals as goal

pub returns-clause-names : goal.returns-clause-names
returns-clause-names c =
    put-names (λ held. held.items) c.in_ok-owned.owned c.args.names.now.keys _ _ c.in_ok-owned.ensures.items c.requires c.in_ok-place.ensures.keys

pub returns-clause-count : goal.returns-clause-count
returns-clause-count c =
    put-count (λ held. held.items) c.in_ok-owned.owned c.args.names.now.keys _ _ c.in_ok-owned.ensures.items c.requires c.in_ok-place.ensures.keys

pub returns-clause-place : goal.returns-clause-place
returns-clause-place c =
    put-place (λ held. held.items) c.in_ok-owned.owned c.args.names.now.keys _ _ c.in_ok-owned.ensures.items c.requires c.in_ok-place.ensures.index

pub returns-clause-found : goal.returns-clause-found
returns-clause-found c =
    put-found (λ held. held.items) c.args.names.now.keys c.insert_full.new.self.keys _ _ c.requires (returns-clause-names c) (returns-clause-place c)

pub returns-clause-different : goal.returns-clause-different
returns-clause-different c = different-names (λ held. held.items) c.insert_full.new.self.keys c.in_ok-place.ensures.unique
