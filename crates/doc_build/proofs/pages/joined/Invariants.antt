use Rattle.std.proofs.Common.{◌≡◌, map, take}
use Rattle.std.specs.List.{concat}
use Rattle.doc_build.proofs.pages.joined.Given as goal

-- the parts so far are joined
abbrev pub invariant-loop-part : goal.invariant-loop-part
invariant-loop-part l = l.bytes.items ≡ concat (map (λ part. part.now) (take l.part-index l.parts))
