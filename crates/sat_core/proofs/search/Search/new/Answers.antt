use Rattle.std.proofs.Common.{◌≡◌, ◌<◌, ◌≤◌, length, take, All, ap, ◌∙◌, arith}
use Rattle.std.proofs.lemmas.List.{length-take-le, take_all}
use Rattle.std.proofs.lemmas.List.Elements.{All-nil}
use Rattle.sat_cnf.specs.Clauses.{IsWithin}
use Rattle.sat_core.specs.Trails.{Assigned}
use Rattle.sat_core.proofs.SearchLemmas.{begins, kept-none, next-kept, next-within, pair-within}
use Rattle.sat_core.proofs.search.Search.new.Goals as goal

pub loop-number-init : goal.loop-number-init
loop-number-init c = record {
  kept = kept-none c.args.clauses.now.vars c.in_ok-watches.watches c.in_ok-pairs.pairs.items (rw (← c.vars-spare.ensures) c.in_ok-watches.ensures) c.in_ok-pairs.ensures.items;
  within = All-nil (All (IsWithin c.args.clauses.now.vars));
  room = omega (arith, c.in_ok-pairs.ensures.capacity);
}

pub watch-requires-clause-lists : goal.watch-requires-clause-lists
watch-requires-clause-lists c = omega (arith, c.loop-number.invariant.kept.heads, c.vars-spare.ensures)

pub watch-requires-clause-pair : goal.watch-requires-clause-pair
watch-requires-clause-pair c =
    rw c.vars-spare.ensures (pair-within c.args.clauses.now.vars c.clause.result.now c.first_pair-pair.result c.clause.ensures.within c.first_pair-pair.ensures)

pub push_reserved-requires : goal.push_reserved-requires
push_reserved-requires c =
    let count = length-take-le c.loop-number.number c.args.clauses.now.list (omega arith) in
    omega (arith, count, c.loop-number.invariant.kept.each, c.loop-number.invariant.room, c.loop-number.pairs.ok.0)

pub loop-number-preserved : goal.loop-number-preserved
loop-number-preserved c =
    let below : c.loop-number.number < length c.args.clauses.now.list = omega (arith, c.len-number-end.ensures) in
    record {
      kept = rw c.push_reserved.ensures.items (
          next-kept c.args.clauses.now c.loop-number.number c.clause.result.now below c.clause.ensures.clause c.loop-number.watches c.watch.new.watches c.loop-number.pairs.items
          c.first_pair-pair.result c.loop-number.invariant.kept c.first_pair-pair.ensures c.in_ok-watch.ensures.lists
          (λ lit other h. c.in_ok-watch.ensures.ok lit other (omega (arith, h, c.vars-spare.ensures)))
          );
      within =
          next-within c.args.clauses.now c.loop-number.number c.clause.result.now below c.clause.ensures.clause c.loop-number.invariant.within c.clause.ensures.within;
      room = omega (arith, c.loop-number.invariant.room, c.push_reserved.ensures.capacity);
    }

pub invariant_of-result : goal.invariant_of-result
invariant_of-result c =
    let all : length c.args.clauses.now.list ≤ c.loop-number.number = omega (arith, c.len-number-end.ensures) in
    let whole : take c.loop-number.number c.args.clauses.now.list ≡ c.args.clauses.now.list = take_all c.loop-number.number c.args.clauses.now.list all in
    let kept = rw whole at c.loop-number.invariant.kept in
    let within = rw whole at c.loop-number.invariant.within in (
      ap (λ (t : Assigned). t.vars) c.in_ok-new.ensures ∙ c.vars.ensures,
      begins c.args.clauses.now c.new-2.result.items c.in_ok-new.field-0.entries c.loop-number.watches c.loop-number.pairs.items c.requires.vars c.requires.clauses within
          c.new-2.ensures.items (ap (λ (t : Assigned). t.entries) c.in_ok-new.ensures) kept,
    )
