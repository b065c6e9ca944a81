use Rattle.std.proofs.Common.{◌+◌, ◌<◌, ℕ, true, false, List, All, ap, length, map, subst, sym, arith}
use Rattle.std.proofs.lemmas.List.Elements.{All-weaker}
use Rattle.vkb_formula.specs.declared.pool.NodeId.{NodeId}
use Rattle.reg_registry.specs.Depends.{IsDepends}
use Rattle.reg_registry.specs.Naming.{IsSoundBlock}
use Rattle.reg_registry.specs.declared.registry.Block.{Block}
use Rattle.reg_closure.specs.Closure.{is_root}
use Rattle.reg_closure.specs.Listed.{block_lists, block_pairs}
use Rattle.reg_closure.specs.Made.{AreMade, block_is, cost_at, root_cost}
use Rattle.reg_closure.proofs.ListedLemmas.{within-list}
use Rattle.reg_closure.proofs.MadeLemmas.{AreMade-keeps, AreMade-more, Keeps-then}
use Rattle.reg_closure.proofs.RootLemmas.{list-found, root-is, roots-all, roots-grow}
use Rattle.reg_closure.proofs.roots.roots_of.Goals as goal

pub root_node-requires-clause-requirers : goal.root_node-requires-clause-requirers
root_node-requires-clause-requirers c =
    let blocks = c.args.r.now.blocks in
    let name = c.loop-name.name in
    let below : name < length c.args.r.now.names = omega (arith, c.loop-name-test.true, c.len-name-end.ensures.count, ap length c.names.ensures) in
    let found = list-found (λ list. list.items) c.args.requirers.now name (length c.args.r.now.names) c.index-requirers-place.result c.as_slice.result.now (block_lists true) (block_pairs true) blocks c.as_slice.ensures.value c.index-requirers-place.is below c.requires.requirers in
    subst (λ (n : ℕ). All (λ place. place < n) c.as_slice.result.now) (sym c.requires.blocks.count) (subst (All (λ place. place < length blocks)) (sym found.1) (within-list (block_lists true name) blocks))

pub root_node-requires-clause-removers : goal.root_node-requires-clause-removers
root_node-requires-clause-removers c =
    let blocks = c.args.r.now.blocks in
    let name = c.loop-name.name in
    let below : name < length c.args.r.now.names = omega (arith, c.loop-name-test.true, c.len-name-end.ensures.count, ap length c.names.ensures) in
    let found = list-found (λ list. list.items) c.args.removers.now name (length c.args.r.now.names) c.index-removers-place.result c.as_slice-in-loop-name.result.now (block_lists false) (block_pairs false) blocks c.as_slice-in-loop-name.ensures.value c.index-removers-place.is below c.requires.removers in
    subst (λ (n : ℕ). All (λ place. place < n) c.as_slice-in-loop-name.result.now) (sym c.requires.blocks.count) (subst (All (λ place. place < length blocks)) (sym found.1) (within-list (block_lists false name) blocks))

pub returns-in_err-id-clause-keeps : goal.returns-in_err-id-clause-keeps
returns-in_err-id-clause-keeps c = Keeps-then c.args.pool.now c.loop-name.pool c.root_node.new.pool c.loop-name.invariant.keeps c.root_node.ensures.keeps

pub returns-in_err-push-clause-keeps : goal.returns-in_err-push-clause-keeps
returns-in_err-push-clause-keeps c = Keeps-then c.args.pool.now c.loop-name.pool c.root_node.new.pool c.loop-name.invariant.keeps c.root_node.ensures.keeps

pub loop-name-preserved : goal.loop-name-preserved
loop-name-preserved c =
    let r = c.args.r.now in
    let blocks = r.blocks in
    let first = c.args.pool.now in
    let old = c.loop-name.pool in
    let new = c.root_node.new.pool in
    let name = c.loop-name.name in
    let id = c.in_ok-id.id in
    let before = c.loop-name.invariant in
    let below : name < length r.names = omega (arith, c.loop-name-test.true, c.len-name-end.ensures.count, ap length c.names.ensures) in
    let adds = list-found (λ list. list.items) c.args.requirers.now name (length r.names) c.index-requirers-place.result c.as_slice.result.now (block_lists true) (block_pairs true) blocks c.as_slice.ensures.value c.index-requirers-place.is below c.requires.requirers in
    let takes = list-found (λ list. list.items) c.args.removers.now name (length r.names) c.index-removers-place.result c.as_slice-in-loop-name.result.now (block_lists false) (block_pairs false) blocks c.as_slice-in-loop-name.ensures.value c.index-removers-place.is below c.requires.removers in
    let depends = All-weaker (IsSoundBlock (length r.names) (length r.options)) (λ (b : Block). IsDepends b.depends) (λ b sound. sound.depends) blocks c.is_sound.ensures.each_block in
    let made = AreMade-keeps (length blocks) first old c.args.blocks.now (block_is blocks) (cost_at blocks) before.keeps c.requires.blocks in
    record {
      keeps = Keeps-then first old new before.keeps c.root_node.ensures.keeps;
      made = subst (λ (ids : List NodeId). AreMade (name + 1) new ids (λ name chosen. is_root blocks chosen name) (root_cost blocks)) (sym c.in_ok-push.ensures.items)
          (AreMade-more name old new c.loop-name.ids.items id (λ name chosen. is_root blocks chosen name) (root_cost blocks) c.root_node.ensures.keeps before.made
          (root-is old c.args.blocks.now blocks made new id name c.as_slice.result.now c.as_slice-in-loop-name.result.now adds.1 takes.1 depends c.in_ok-id.ensures.made));
      grows = roots-grow first old new name (map (λ list. list.items) c.args.requirers.now) (map (λ list. list.items) c.args.removers.now) c.as_slice.result.now c.as_slice-in-loop-name.result.now adds.0 takes.0
          (omega (arith, below, c.requires.requirers.count)) (omega (arith, below, c.requires.removers.count)) before.grows c.in_ok-id.ensures.grows;
    }

pub returns-clause-grows : goal.returns-clause-grows
returns-clause-grows c =
    roots-all c.args.pool.now c.loop-name.pool c.loop-name.name (length c.args.r.now.names) (map (λ list. list.items) c.args.requirers.now) (map (λ list. list.items) c.args.removers.now) c.args.r.now.blocks
    (omega (arith, c.loop-name.auto.name-end, c.len-name-end.ensures.count, ap length c.names.ensures)) c.requires.requirers c.requires.removers c.loop-name.invariant.grows
