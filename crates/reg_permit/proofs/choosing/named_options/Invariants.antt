use Rattle.std.proofs.Common.{◌≡◌, take, None}
use Rattle.reg_permit.specs.Choices.{chosen_by, unknown_in}
use Rattle.reg_permit.proofs.choosing.named_options.Given as goal

-- the words so far are options, and these are chosen
abbrev pub invariant-loop-word : goal.invariant-loop-word
invariant-loop-word l = record {
  known : unknown_in l.options (take l.word-index l.words) ≡ None;
  named : l.chosen.items ≡ chosen_by l.options (take l.word-index l.words);
}
