use Rattle.std.proofs.Common.{◌++◌, length, take, drop, arith}
use Rattle.std.proofs.lemmas.Grind.{common_steps}
use Rattle.vkb_outside.specs.Held.{held}
use Rattle.vkb_outside.proofs.HeldLemmas.{names_differ-put, Puts-put}
use Rattle.vkb_outside.proofs.memory_shelf.MemoryShelfShelf.put.Goals as goal

pub invariant_of-self-2 : goal.invariant_of-self-2
invariant_of-self-2 c =
    let old = c.self.inside.files in
    let new = c.put_into.new.files in
    (omega arith, names_differ-put (held old.items) (held (take old.len (new ++ drop (length new) old.items))) c.args.name.now c.args.bytes.items (grind (arith, common_steps)) c.self.invariant.1)

pub returns-clause-put : goal.returns-clause-put
returns-clause-put c = Puts-put _ _ c.args.name.now c.args.bytes.items (grind (arith, common_steps)) c.requires
