use Rattle.std.proofs.Common.{List, ℕ, sym, ap, ◌∙◌, not}
use Rattle.std.specs.Str.{bytes_eq}
use Rattle.vu_implicit.proofs.LengthLemmas.{none-has}
use Rattle.vu_implicit.proofs.lengths.Lengths.has_length.Goals as goal

pub returns-else-ne : goal.returns-else-ne
returns-else-ne c =
    let same = ap (λ (len : List ℕ). not (bytes_eq len c.args.m.now.name)) (sym c.as_slice.ensures) ∙ ap (λ (own : List ℕ). not (bytes_eq c.as_slice.result.now own)) (sym c.as_slice-2.ensures) in
    c.if-ne.false ∙ sym (none-has c.args.m.now c.args.self.now (same ∙ sym c.ne.ensures ∙ c.if-ne.false))
