use Rattle.vu_tags.proofs.PageLemmas.{one_names, some_names}
use Rattle.vu_tags.proofs.laws.pages_are_one.Goals as goal

pub returns-clause-some : goal.returns-clause-some
returns-clause-some c = some_names c.each_line_is_read.ensures c.one_kind.ensures

pub returns-clause-one : goal.returns-clause-one
returns-clause-one c = one_names
