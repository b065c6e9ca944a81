use Rattle.std.proofs.Common.{◌≡◌, false, None, true, take, drop, arith, rules}
use Rattle.std.proofs.lemmas.Grind.{common_steps}
use Rattle.vkb_outside.specs.MemorySink.{fault_of}
use Rattle.vkb_outside.proofs.memory_sink.MemorySinkSink.write.Goals as goal

pub returns-in-None-clause-fails : goal.returns-in-None-clause-fails
returns-in-None-clause-fails c =
    let none : fault_of c.args.self.now ≡ None = search rules in
    (λ (e : false ≡ true). cc, λ some. rw none at some)

pub returns-in-Some-clause-written : goal.returns-in-Some-clause-written
returns-in-Some-clause-written c = (take c.in-Some.count c.args.bytes.now, drop c.in-Some.count c.args.bytes.now, grind (arith, common_steps), grind (arith, common_steps))
