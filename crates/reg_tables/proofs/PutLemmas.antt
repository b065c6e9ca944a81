-- Bits that are put where their names are new.
use Rattle.std.proofs.Common.{◌≡◌, ℕ, Bool, true, false, List, [], ◌∷◌, ◌++◌, map, refl, sym, ap, ◌∙◌}
use Rattle.std.specs.Prelude.{◌==◌, not, if◌then◌else◌}
use Rattle.std.proofs.lemmas.Bool.{true≢false, eq-eqb, ne_eqb}
use Rattle.std.proofs.lemmas.List.{append-nil, map_push}
use Rattle.reg_tables.specs.Bits.{Atom, atom_of}
use Rattle.reg_tables.specs.Found.{ArePut}
use Rattle.reg_tables.specs.Lists.{firsts, is_among}
use Rattle.reg_tables.specs.declared.bits.Bit.{Bit}
use Rattle.reg_tables.proofs.CountLemmas.{IsStep, is-new, names-step}
use Rattle.reg_tables.proofs.FirstsLemmas.{firsts-push}

kept-new : (b : Bool) (atoms : List Atom) (one : Atom) (new : Bool) → new ≡ not b → new ≡ true
    → atoms ++ one ∷ [] ≡ atoms ++ (if b then [] else one ∷ [])
kept-new true atoms one new e h = absurd (true≢false (sym h ∙ e))
kept-new false atoms one new e h = refl

left-out : (b : Bool) (atoms : List Atom) (one : Atom) (new : Bool) → new ≡ not b → new ≡ false
    → atoms ≡ atoms ++ (if b then [] else one ∷ [])
left-out true atoms one new e h = sym (append-nil atoms)
left-out false atoms one new e h = absurd (true≢false (sym e ∙ h))

-- a bit of a new name
pub put-one : (atoms : List Atom) (bit : Bit) (name : List ℕ) (old new : List (List ℕ)) (bits pushed : List Bit) (at count : ℕ)
    → name ≡ bit.name → ArePut atoms old bits → IsStep old new name at count → at ≡ count → pushed ≡ bits ++ bit ∷ []
    → ArePut (atoms ++ atom_of bit ∷ []) new pushed
put-one atoms bit name old new bits pushed at count n h s same e = record {
  seen_are = names-step atoms bit.place name old new h.seen_are s.table ∙ ap (λ word. map (λ (one : Atom). one.1) (firsts (λ (one : Atom). one.1) (atoms ++ (bit.place, word) ∷ []))) n;
  bits_are =
      ap (map atom_of) e ∙ map_push atom_of bits bit ∙ ap (λ all. all ++ atom_of bit ∷ []) h.bits_are
      ∙ kept-new (is_among (map (λ (one : Atom). one.1) atoms) name) (firsts (λ (one : Atom). one.1) atoms) (atom_of bit) (at == count) (is-new atoms old new name at count h.seen_are s) (eq-eqb at count same)
      ∙ ap (λ word. firsts (λ (one : Atom). one.1) atoms ++ (if is_among (map (λ (one : Atom). one.1) atoms) word then [] else atom_of bit ∷ [])) n
      ∙ sym (firsts-push (λ (one : Atom). one.1) atoms (atom_of bit));
}

-- a bit whose name was there
pub put-none : (atoms : List Atom) (bit : Bit) (name : List ℕ) (old new : List (List ℕ)) (bits : List Bit) (at count : ℕ)
    → name ≡ bit.name → ArePut atoms old bits → IsStep old new name at count → (at ≡ count → ⊥)
    → ArePut (atoms ++ atom_of bit ∷ []) new bits
put-none atoms bit name old new bits at count n h s other = record {
  seen_are = names-step atoms bit.place name old new h.seen_are s.table ∙ ap (λ word. map (λ (one : Atom). one.1) (firsts (λ (one : Atom). one.1) (atoms ++ (bit.place, word) ∷ []))) n;
  bits_are =
      h.bits_are
      ∙ left-out (is_among (map (λ (one : Atom). one.1) atoms) name) (firsts (λ (one : Atom). one.1) atoms) (atom_of bit) (at == count) (is-new atoms old new name at count h.seen_are s) (ne_eqb at count other)
      ∙ ap (λ word. firsts (λ (one : Atom). one.1) atoms ++ (if is_among (map (λ (one : Atom). one.1) atoms) word then [] else atom_of bit ∷ [])) n
      ∙ sym (firsts-push (λ (one : Atom). one.1) atoms (atom_of bit));
}
