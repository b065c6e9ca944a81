use Rattle.vkb_tool.proofs.ExistenceLemmas.{comes_to}
use Rattle.vkb_tool.proofs.laws.each_has_an_outcome.Goals as goal

pub returns : goal.returns
returns c =
    comes_to c.files_have_sources.ensures c.one_walk.ensures c.pages_are_one.ensures.some c.one_answer.ensures c.answers_are_one.ensures c.each_registry_is_answered.ensures c.rows_are_within.ensures
    c.choices_are_permitted_or_not.ensures c.closures_are_there.ensures c.orders_are_there.ensures c.choices_are_permitted_or_break_one_first.ensures
