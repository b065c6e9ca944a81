use Rattle.std.proofs.Common.{◌≡◌, true, false, is_some, ◌∙◌, sym, arith}
use Rattle.std.proofs.lemmas.List.{at_drop_all}
use Rattle.vkb_outside.proofs.HeldLemmas.{names_differ-more, names_differ-meaning}
use Rattle.vkb_outside.specs.Held.{held, names_differ}
use Rattle.vkb_outside.proofs.held.names_differ.Goals as goal

found_later : (c : goal.Then-is_some) → false ≡ names_differ (held c.args.files.now)
found_later c =
    let found : is_some c.place_of.result ≡ true = cc in
    let more = names_differ-more c.args.files.now c.loop-place.place c.index-files-place.result c.place_of.result (omega arith) c.index-files-place.is (rw c.as_str.ensures.value at c.place_of.ensures) in
    let differ = rw found at more in
    cc

pub returns-then-is_some-clause-value : goal.returns-then-is_some-clause-value
returns-then-is_some-clause-value c = found_later c

pub returns-then-is_some-clause-meaning : goal.returns-then-is_some-clause-meaning
returns-then-is_some-clause-meaning c = names_differ-meaning (held c.args.files.now) false (found_later c)

pub returns-clause-meaning : goal.returns-clause-meaning
returns-clause-meaning c =
    names_differ-meaning (held c.args.files.now) true (sym (at_drop_all (λ files. names_differ (held files)) c.args.files.now c.loop-place.place (omega arith)) ∙ c.loop-place.invariant)

pub loop-place-preserved : goal.loop-place-preserved
loop-place-preserved c =
    let found : is_some c.place_of.result ≡ false = cc in
    let more = names_differ-more c.args.files.now c.loop-place.place c.index-files-place.result c.place_of.result (omega arith) c.index-files-place.is (rw c.as_str.ensures.value at c.place_of.ensures) in
    let differ = rw found at more in
    cc
