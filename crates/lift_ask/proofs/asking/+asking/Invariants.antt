use Rattle.std.proofs.Common.{◌+◌, ◌*◌, length}
use Rattle.lift_ask.proofs.asking.+asking.Given as goal

abbrev pub decreases-first_asked : goal.decreases-first_asked
decreases-first_asked l = 2 * length l.questions.now + 1

abbrev pub decreases-first_in_halves : goal.decreases-first_in_halves
decreases-first_in_halves l = 2 * length l.questions.now
