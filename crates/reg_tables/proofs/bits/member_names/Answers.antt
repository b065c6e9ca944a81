use Rattle.std.proofs.Common.{◌≡◌, ◌<◌, ◌≤◌, ◌++◌, length, [], Some, None, filter, map, ap, get_or, sym, subst, ◌∙◌}
use Rattle.std.specs.Prelude.{All}
use Rattle.std.proofs.lemmas.List.{append-nil}
use Rattle.reg_tables.specs.Bits.{Atom, atom_of, atoms_in, is_member_name}
use Rattle.reg_tables.proofs.AtomLemmas.{all-named, atom_at, atoms-at, filter-flat, no-atoms-at, within-at}
use Rattle.reg_tables.proofs.ReadingLemmas.{flat-all, further, reading-at, reading-there, words-are}
use Rattle.reg_tables.proofs.bits.member_names.Goals as goal
use Rattle.reg_tables.proofs.bits.member_names.Goals.{in-Some+in_ok-put_member_names, in_default}

pub loop-at-preserved : goal.loop-at-preserved
loop-at-preserved c = λ readings h e.
    let before = c.loop-at.invariant readings h e in
    let named = all-named c.args.forms.now c.args.words.now readings c.requires h in
    elim c.match-places.branch [
      | in-Some+in_ok-put_member_names w ↦
          let there = reading-at c.as_slice-texts.result.now readings c.args.words.now c.loop-at.at w.index-texts-at.result (Some w.in-Some.places) (h.texts ∙ sym c.as_slice-texts.ensures) e c.loop-at-test.true w.index-texts-at.is
          (subst (λ word. word ≡ get_or c.args.words.now c.loop-at.at word) w.in-Some.is c.index-words-at.is) in
          further (λ reading. filter (λ atom. is_member_name atom.1) (atoms_in reading)) readings [] (map atom_of c.loop-at.named.items) (map atom_of c.match-places.named.items) c.loop-at.at w.index-texts-at.result (Some w.in-Some.places) _
          (filter (λ (atom : Atom). is_member_name atom.1) (map (atom_at w.index-texts-at.result) w.in-Some.places)) there before
          (ap (λ bits. map atom_of bits.items) w.named-is ∙ w.in_ok-put_member_names.ensures
          ∙ ap (λ places. map atom_of c.loop-at.named.items ++ filter (λ (atom : Atom). is_member_name atom.1) (map (atom_at w.index-texts-at.result) places)) w.as_slice.ensures)
          (ap (filter (λ (atom : Atom). is_member_name atom.1)) (atoms-at readings c.loop-at.at w.index-texts-at.result w.in-Some.places _ named there))
      | in_default w ↦
          let there = reading-there readings c.args.words.now c.loop-at.at None e c.loop-at-test.true (subst (λ word. word ≡ get_or c.args.words.now c.loop-at.at word) w.in_default.is c.index-words-at.is) in
          further (λ reading. filter (λ atom. is_member_name atom.1) (atoms_in reading)) readings [] (map atom_of c.loop-at.named.items) (map atom_of c.match-places.named.items) c.loop-at.at _ None _ [] there before
          (ap (λ bits. map atom_of bits.items) w.named-is ∙ sym (append-nil (map atom_of c.loop-at.named.items)))
          (ap (filter (λ (atom : Atom). is_member_name atom.1)) (no-atoms-at readings c.loop-at.at _ _ there))
    ]

pub put_member_names-requires : goal.put_member_names-requires
put_member_names-requires c =
    let there = reading-at c.as_slice-texts.result.now c.requires.readings c.args.words.now c.loop-at.at c.index-texts-at.result (Some c.in-Some.places) (c.requires.are_readings.texts ∙ sym c.as_slice-texts.ensures) c.requires.words_are c.loop-at-test.true c.index-texts-at.is
    (subst (λ word. word ≡ get_or c.args.words.now c.loop-at.at word) c.in-Some.is c.index-words-at.is) in
    subst (All (λ place. (place.0 < place.1) × (place.1 ≤ length c.index-texts-at.result.text))) (sym c.as_slice.ensures)
    (within-at c.requires.readings c.loop-at.at c.index-texts-at.result c.in-Some.places _ c.requires.named there)

pub returns : goal.returns
returns c = λ readings h.
    let e = words-are c.args.forms.now c.args.words.now readings c.requires h in
    c.loop-at.invariant readings h e
    ∙ flat-all (λ reading. filter (λ atom. is_member_name atom.1) (atoms_in reading)) readings c.args.words.now c.loop-at.at e c.loop-at-test.false
    ∙ sym (filter-flat (λ (atom : Atom). is_member_name atom.1) atoms_in readings)
