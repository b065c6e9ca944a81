-- The bits among the names that have a `:`.
use Rattle.std.proofs.Common.{◌≡◌, ℕ, Bool, true, false, cond, List, [], ◌∷◌, ◌++◌, map, refl, sym, ap, subst, ◌∙◌}
use Rattle.std.specs.Prelude.{filter}
use Rattle.std.specs.List.{flat_map}
use Rattle.std.proofs.lemmas.Bool.{and_left}
use Rattle.std.proofs.lemmas.List.{append-nil, map_push}
use Rattle.std.proofs.lemmas.List.Elements.{filter-append}
use Rattle.reg_forms.specs.declared.forms.Forms.{Forms}
use Rattle.reg_tables.specs.Bits.{Atom, Readings, atom_of, atoms_in, bits_of, is_bit, is_member_name}
use Rattle.reg_tables.specs.Found.{ArePut}
use Rattle.reg_tables.specs.Lists.{firsts}
use Rattle.reg_tables.specs.declared.bits.Bit.{Bit}

module _ {A : Type 0} (p q : A → Bool) (out : (x : A) → q x ≡ false → p x ≡ false) where
  twice-at : (b : Bool) (x : A) (xs kept : List A) → q x ≡ b → filter p kept ≡ filter p xs
      → filter p (cond b (x ∷ kept) kept) ≡ filter p (x ∷ xs)
  twice-at true x xs kept e h = ap (λ more. cond (p x) (x ∷ more) more) h
  twice-at false x xs kept e h = h ∙ sym (ap (λ b. cond b (x ∷ filter p xs) (filter p xs)) (out x e))

  filter-twice : (xs : List A) → filter p (filter q xs) ≡ filter p xs
  filter-twice [] = refl
  filter-twice (x ∷ xs) = twice-at (q x) x xs (filter q xs) refl (filter-twice xs)

-- the bits are among the names that have a `:`
pub bits-of-named : (f : Forms) (readings : Readings) (named : List Atom)
    → named ≡ filter (λ atom. is_member_name atom.1) (flat_map atoms_in readings)
    → firsts (λ atom. atom.1) (filter (λ atom. is_bit f atom.1) named) ≡ bits_of f readings
bits-of-named f readings named e =
    ap (λ atoms. firsts (λ (atom : Atom). atom.1) (filter (λ (atom : Atom). is_bit f atom.1) atoms)) e
    ∙ ap (firsts (λ (atom : Atom). atom.1))
    (filter-twice (λ (atom : Atom). is_bit f atom.1) (λ (atom : Atom). is_member_name atom.1) (λ atom h. and_left (is_member_name atom.1) _ h) (flat_map atoms_in readings))

bits-at : (f : Forms) (yielded : List Bit) (bit : Bit)
    → filter (λ (atom : Atom). is_bit f atom.1) (map atom_of (yielded ++ bit ∷ [])) ≡ filter (λ (atom : Atom). is_bit f atom.1) (map atom_of yielded) ++ cond (is_bit f bit.name) (atom_of bit ∷ []) []
bits-at f yielded bit =
    ap (filter (λ (atom : Atom). is_bit f atom.1)) (map_push atom_of yielded bit) ∙ filter-append (λ (atom : Atom). is_bit f atom.1) (map atom_of yielded) (atom_of bit ∷ [])

-- one name more, which is none
pub bit-dropped : (f : Forms) (yielded : List Bit) (bit : Bit) (seen : List (List ℕ)) (bits : List Bit)
    → is_bit f bit.name ≡ false → ArePut (filter (λ (atom : Atom). is_bit f atom.1) (map atom_of yielded)) seen bits
    → ArePut (filter (λ (atom : Atom). is_bit f atom.1) (map atom_of (yielded ++ bit ∷ []))) seen bits
bit-dropped f yielded bit seen bits e h =
    subst (λ atoms. ArePut atoms seen bits)
    (sym (bits-at f yielded bit ∙ ap (λ b. filter (λ (atom : Atom). is_bit f atom.1) (map atom_of yielded) ++ cond b (atom_of bit ∷ []) []) e ∙ append-nil (filter (λ (atom : Atom). is_bit f atom.1) (map atom_of yielded)))) h

pub none-put : (seen : List (List ℕ)) (bits : List Bit) → seen ≡ [] → bits ≡ [] → ArePut [] seen bits
none-put seen bits e h = record { seen_are = e; bits_are = ap (map atom_of) h }
