use Rattle.std.proofs.Common.{◌≡◌, take}
use Rattle.sat_ask.specs.Finding.{AreNeverTrue}
use Rattle.sat_ask.proofs.meeting.ask_each.Given as goal

abbrev pub invariant-loop-question : goal.invariant-loop-question
invariant-loop-question l = (l.asker ≡ l.fn.asker) × AreNeverTrue l.fn.asker (take l.question l.lits)
