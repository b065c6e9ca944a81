use Rattle.std.proofs.Common.{◌++◌, length, take, drop, arith}
use Rattle.std.proofs.lemmas.Grind.{common_steps}
use Rattle.vkb_outside.specs.Held.{held}
use Rattle.vkb_outside.proofs.HeldLemmas.{names_differ-put, Puts-put}
use Rattle.vkb_outside.proofs.sure_shelf.SureShelfShelf.put.Goals as goal

pub invariant_of-self : goal.invariant_of-self
invariant_of-self c =
    let old = c.self.inside.files in
    let new = c.put_into.new.files in
    names_differ-put (held old.items) (held (take old.len (new ++ drop (length new) old.items))) c.args.name.now c.args.bytes.items (grind (arith, common_steps)) c.self.invariant

pub returns-clause-put : goal.returns-clause-put
returns-clause-put c = Puts-put _ _ c.args.name.now c.args.bytes.items (grind (arith, common_steps)) c.requires
