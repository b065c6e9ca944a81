use Rattle.doc_build.proofs.OptionsLemmas.{each_once-append, option_members, options_differ, options_more}
use Rattle.doc_build.proofs.laws.options_follow_the_rule.Goals as goal

pub returns-clause-different : goal.returns-clause-different
returns-clause-different c = options_differ

pub returns-clause-members : goal.returns-clause-members
returns-clause-members c = option_members

pub returns-clause-order : goal.returns-clause-order
returns-clause-order c = each_once-append

pub returns-clause-longer : goal.returns-clause-longer
returns-clause-longer c = options_more
