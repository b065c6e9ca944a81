use Rattle.std.proofs.Common.{List, filter, map, ap, sym, subst, ◌∙◌}
use Rattle.std.proofs.lemmas.Bool.{eqb-true}
use Rattle.std.proofs.lemmas.List.{nil_from_length}
use Rattle.reg_tables.specs.Bits.{Atom, atom_of, is_bit}
use Rattle.reg_tables.specs.Lists.{firsts}
use Rattle.reg_tables.specs.Words.{AreReadings}
use Rattle.reg_tables.specs.declared.bits.Bit.{Bit}
use Rattle.reg_tables.proofs.BitLemmas.{bits-of-named}
use Rattle.reg_tables.proofs.bits.find_bits.Goals as goal

pub returns-then-is_empty : goal.returns-then-is_empty
returns-then-is_empty c = λ readings h.
    let named = c.in_ok-named.named.items in
    let empty = nil_from_length named (sym c.in_ok-named.named.ok.0 ∙ eqb-true _ _ (sym c.is_empty.ensures ∙ c.if-is_empty.true)) in
    ap (map atom_of) empty
    ∙ ap (λ (bits : List Bit). firsts (λ (atom : Atom). atom.1) (filter (λ (atom : Atom). is_bit c.args.tables.now atom.1) (map atom_of bits))) (sym empty)
    ∙ bits-of-named c.args.tables.now readings (map atom_of named) (c.in_ok-named.ensures readings (subst (λ f. AreReadings f readings) (sym c.forms.ensures) h))

pub returns : goal.returns
returns c = λ readings h.
    c.in_ok-bits.ensures
    ∙ bits-of-named c.args.tables.now readings (map atom_of c.in_ok-named.named.items) (c.in_ok-named.ensures readings (subst (λ f. AreReadings f readings) (sym c.forms.ensures) h))
