use Rattle.reg_reader.proofs.CharactersLemmas.{IsUndone}
use Rattle.reg_reader.proofs.characters.undo.Given as goal

-- the bytes so far are undone
abbrev pub invariant-loop-n : goal.invariant-loop-n
invariant-loop-n l = IsUndone l.bytes l.fn.part.from l.n l.reference l.text.items
