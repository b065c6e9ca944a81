use Rattle.lift_check.proofs.judging.check_all.Goals as goal

pub returns : goal.returns
returns c = c.in_ok-verdict.ensures c.args.always.now (c.in_ok-prepared.ensures.say c.args.text.now.bytes c.requires.loaded)
