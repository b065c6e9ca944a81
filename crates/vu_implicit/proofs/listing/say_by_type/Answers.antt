use Rattle.vu_implicit.proofs.JoinLemmas.{joined}
use Rattle.vu_implicit.proofs.listing.say_by_type.Goals as goal

pub returns : goal.returns
returns c =
    joined _ _ _ _ _
    (joined _ _ _ _ _
    (joined _ _ _ _ _
    (joined _ _ _ _ _
    (joined _ _ _ _ _
    (joined _ _ _ _ _
    (joined _ _ _ _ _ (joined _ _ _ _ _ c.in_ok-say_handle.ensures c.in_ok-say_enum_value.ensures) c.in_ok-say_flags.ensures)
    c.in_ok-say_required_flags.ensures)
    c.in_ok-say_zero_flags.ensures)
    c.in_ok-say_pointer.ensures)
    c.in_ok-say_structure.ensures)
    c.in_ok-say_function.ensures)
    c.in_ok-say_array_length.ensures
