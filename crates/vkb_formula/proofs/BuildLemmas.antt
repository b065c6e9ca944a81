-- The formula and the places that are put together from the text of an expression are those of the expression.
use Rattle.std.proofs.Common.{◌≡◌, ℕ, suc, ◌+◌, ◌-◌, ◌<◌, ◌≤◌, true, false, cond, eqb, List, [], ◌∷◌, ◌++◌, length, take, drop, get_or, slice_range, fold, Option, Some, None, refl, sym, ap, subst, ◌∙◌, ⊎_elim, arith}
use Rattle.std.specs.List.{list_all}
use Rattle.std.proofs.lemmas.List.{append_assoc, append-nil, length-append, length_push, take_more, get_or-drop, length-drop, take_at, get_or_at, drop_all}
use Rattle.std.proofs.lemmas.List.Sums.{fold-append}
use Rattle.std.proofs.lemmas.Bool.{and_parts, and_from, or_left, ne_eqb, true≢false}
use Rattle.vkb_bytes.specs.Bytes.{is_word_byte}
use Rattle.vkb_formula.specs.Expressions.{Atom, Expression, Name, Group, Single, Both, Either, IsName, IsAtom, IsExpression, atom_text, expression_text, formula_of_name, formula_of_atom, formula_of, atom_places, places_of, Spells}
use Rattle.vkb_formula.specs.Building.{Built, joined, joined_by, atom_built, level_built, opened, closed_up, waiting, joint_of, with_other, with_byte, built_from, is_name_byte, runs_of, built_so_far}
use Rattle.vkb_formula.specs.declared.formula.Formula.{Formula}
use Rattle.vkb_formula.specs.declared.building.Joint.{Joint}
use Rattle.vkb_formula.specs.declared.building.Joint.TheVariants as joint
use Rattle.vkb_formula.specs.declared.building.Left.{Left}
use Rattle.vkb_formula.specs.declared.building.Building.{Building}

name-more : (text : List ℕ) (from at : ℕ) → from ≤ at → at < length text → slice_range text from (at + 1) ≡ slice_range text from at ++ get_or text at 0 ∷ []
name-more text from at le within =
    let next : (at + 1) - from ≡ (at - from) + 1 = omega arith in
    let back : from + (at - from) ≡ at = omega arith in
    ap (λ n. take n (drop from text)) next
    ∙ take_more (drop from text) (at - from) 0 (omega (arith, length-drop from text))
    ∙ ap (λ b. take (at - from) (drop from text) ++ b ∷ []) (get_or-drop from text (at - from) 0 ∙ ap (λ k. get_or text k 0) back)

plain-byte : (options : List (List ℕ)) (b : Built) (byte : ℕ) → eqb byte 40 ≡ false → eqb byte 41 ≡ false → joint_of byte ≡ None → with_byte options b byte ≡ record b { name = b.name ++ byte ∷ [] }
plain-byte options b byte no40 no41 none =
    ap (λ t. cond t (opened b) (cond (eqb byte 41) (closed_up options b) (with_other options b byte (joint_of byte)))) no40
    ∙ ap (λ t. cond t (closed_up options b) (with_other options b byte (joint_of byte))) no41
    ∙ ap (with_other options b byte) none

-- a byte of a name goes to the name
pub name-byte : (options : List (List ℕ)) (text : List ℕ) (at : ℕ) (b : Building) → b.from ≤ at → at < length text → (get_or text at 0 ≡ 40 → ⊥) → (get_or text at 0 ≡ 41 → ⊥) → joint_of (get_or text at 0) ≡ None → built_so_far text (at + 1) b ≡ with_byte options (built_so_far text at b) (get_or text at 0)
name-byte options text at b le within no40 no41 none =
    ap (λ name. record { outer = b.outer.items; left = b.left; closed = b.closed; name = name }) (name-more text b.from at le within)
    ∙ sym (plain-byte options (built_so_far text at b) (get_or text at 0) (ne_eqb (get_or text at 0) 40 no40) (ne_eqb (get_or text at 0) 41 no41) none)

-- ---- what is put together of an expression's text

module _ (options : List (List ℕ)) where
  abbrev fresh : List (Option Left) → Option Left → Built
  fresh outer left = record { outer = outer; left = left; closed = None; name = [] }

  abbrev pub after_text : Built → List ℕ → Built
  after_text b text = fold (with_byte options) b text

  -- after an atom's text nothing but the atom is new
  record AtomBuilt (outer : List (Option Left)) (left : Option Left) (b : Built) (f : Formula) : Type 0 where
    same_outer : b.outer ≡ outer
    same_left : b.left ≡ left
    atom : atom_built options b ≡ f

  record LevelBuilt (outer : List (Option Left)) (b : Built) (f : Formula) : Type 0 where
    same_outer : b.outer ≡ outer
    level : level_built options b ≡ f

  name-test : (byte : ℕ) → is_name_byte byte ≡ true → (eqb byte 40 ≡ false) × (eqb byte 41 ≡ false) × (joint_of byte ≡ None)
  name-test byte h =
      let no40 : eqb byte 40 ≡ false = ne_eqb byte 40 (λ e. true≢false (sym h ∙ ap is_name_byte e)) in
      let no41 : eqb byte 41 ≡ false = ne_eqb byte 41 (λ e. true≢false (sym h ∙ ap is_name_byte e)) in
      let no43 : eqb byte 43 ≡ false = ne_eqb byte 43 (λ e. true≢false (sym h ∙ ap is_name_byte e)) in
      let no44 : eqb byte 44 ≡ false = ne_eqb byte 44 (λ e. true≢false (sym h ∙ ap is_name_byte e)) in
      (no40, no41, ap (λ t. cond t (Some joint.And) (cond (eqb byte 44) (Some joint.Or) None)) no43 ∙ ap (λ t. cond t (Some joint.Or) None) no44)

  name-built : (text : List ℕ) (outer : List (Option Left)) (left : Option Left) (name : List ℕ) → list_all is_name_byte text ≡ true → after_text (record { outer = outer; left = left; closed = None; name = name }) text ≡ record { outer = outer; left = left; closed = None; name = name ++ text }
  name-built [] outer left name h = ap (λ n. record { outer = outer; left = left; closed = None; name = n }) (sym (append-nil name))
  name-built (byte ∷ text) outer left name h =
      let parts = and_parts (is_name_byte byte) (list_all is_name_byte text) h in
      let tests = name-test byte parts.0 in
      ap (λ b. after_text b text) (plain-byte options (record { outer = outer; left = left; closed = None; name = name }) byte tests.0 tests.1 tests.2)
      ∙ name-built text outer left (name ++ byte ∷ []) parts.1
      ∙ ap (λ n. record { outer = outer; left = left; closed = None; name = n }) (append_assoc name (byte ∷ []) text)

  word-names : (text : List ℕ) → list_all is_word_byte text ≡ true → list_all is_name_byte text ≡ true
  word-names [] h = refl
  word-names (byte ∷ text) h =
      let parts = and_parts (is_word_byte byte) (list_all is_word_byte text) h in
      and_from (is_name_byte byte) (list_all is_name_byte text) (or_left (is_word_byte byte) (eqb byte 58) parts.0) (word-names text parts.1)

  all-append : (xs ys : List ℕ) → list_all is_name_byte xs ≡ true → list_all is_name_byte ys ≡ true → list_all is_name_byte (xs ++ ys) ≡ true
  all-append [] ys h k = k
  all-append (x ∷ xs) ys h k =
      let parts = and_parts (is_name_byte x) (list_all is_name_byte xs) h in
      and_from (is_name_byte x) (list_all is_name_byte (xs ++ ys)) parts.0 (all-append xs ys parts.1 k)

  pub names-of : (name : List ℕ) → IsName name → list_all is_name_byte name ≡ true
  names-of name h =
      ⊎_elim (λ word. word-names name word.1)
      (λ member. ap (list_all is_name_byte) member.4 ∙ all-append member.0 (58 ∷ 58 ∷ member.1) (word-names member.0 member.2.1) (word-names member.1 member.3.1)) h

  opened-built : (outer : List (Option Left)) (left : Option Left) (b : Built) (f : Formula) → LevelBuilt (outer ++ left ∷ []) b f → AtomBuilt outer left (closed_up options b) f
  opened-built outer left b f h =
      let count : length (outer ++ left ∷ []) - 1 ≡ length outer = omega (arith, length_push outer left) in
      record {
        same_outer = ap (λ o. take (length o - 1) o) h.same_outer ∙ ap (λ n. take n (outer ++ left ∷ [])) count ∙ take_at outer (left ∷ []) (length outer) refl;
        same_left = ap (λ (o : List (Option Left)). get_or o (length o - 1) None) h.same_outer ∙ ap (λ n. get_or (outer ++ left ∷ []) n None) count ∙ get_or_at outer left [] None (length outer) refl;
        atom = h.level;
      }

  joined-built : (how : Joint) (outer : List (Option Left)) (b c : Built) (f g : Formula) → LevelBuilt outer b f → AtomBuilt outer (Some (record { formula = f; joint = how })) c g → LevelBuilt outer c (joined_by how f g)
  joined-built how outer b c f g l a = record {
    same_outer = a.same_outer;
    level = ap (λ left. joined left (atom_built options c)) a.same_left ∙ ap (joined_by how f) a.atom;
  }

  waiting-built : (how : Joint) (outer : List (Option Left)) (b : Built) (f : Formula) → LevelBuilt outer b f → waiting options how b ≡ fresh outer (Some (record { formula = f; joint = how }))
  waiting-built how outer b f l =
      ap (λ o. fresh o (Some (record { formula = level_built options b; joint = how }))) l.same_outer
      ∙ ap (λ g. fresh outer (Some (record { formula = g; joint = how }))) l.level

  mutual
    atom-built : (a : Atom) → IsAtom a → (outer : List (Option Left)) (left : Option Left) → AtomBuilt outer left (after_text (fresh outer left) (atom_text a)) (formula_of_atom options a)
    atom-built (Name name) h outer left = at-name (after_text (fresh outer left) name) (name-built name outer left [] (names-of name h))
      where
        at-name : (b : Built) → b ≡ record { outer = outer; left = left; closed = None; name = name } → AtomBuilt outer left b (formula_of_name options name)
        at-name b e = record {
          same_outer = ap (λ (x : Built). x.outer) e;
          same_left = ap (λ (x : Built). x.left) e;
          atom = ap (atom_built options) e;
        }
    atom-built (Group inner) h outer left =
        let at = after_text (fresh (outer ++ left ∷ []) None) (expression_text inner) in
        subst (λ b. AtomBuilt outer left b (formula_of options inner)) (sym (fold-append (with_byte options) (fresh (outer ++ left ∷ []) None) (expression_text inner) (41 ∷ [])))
        (opened-built outer left at (formula_of options inner) (expression-built inner h (outer ++ left ∷ [])))

    expression-built : (e : Expression) → IsExpression e → (outer : List (Option Left)) → LevelBuilt outer (after_text (fresh outer None) (expression_text e)) (formula_of options e)
    expression-built (Single atom) h outer =
        let a = atom-built atom h outer None in
        record {
          same_outer = a.same_outer;
          level = ap (λ left. joined left (atom_built options (after_text (fresh outer None) (atom_text atom)))) a.same_left ∙ a.atom;
        }
    expression-built (Both left atom) h outer =
        let at = after_text (fresh outer None) (expression_text left) in
        let l = expression-built left h.0 outer in
        subst (λ b. LevelBuilt outer b (formula_of options (Both left atom)))
        (sym (fold-append (with_byte options) (fresh outer None) (expression_text left) (43 ∷ atom_text atom) ∙ ap (λ b. after_text b (atom_text atom)) (waiting-built joint.And outer at (formula_of options left) l)))
        (joined-built joint.And outer at _ (formula_of options left) (formula_of_atom options atom) l (atom-built atom h.1 outer (Some (record { formula = formula_of options left; joint = joint.And }))))
    expression-built (Either left atom) h outer =
        let at = after_text (fresh outer None) (expression_text left) in
        let l = expression-built left h.0 outer in
        subst (λ b. LevelBuilt outer b (formula_of options (Either left atom)))
        (sym (fold-append (with_byte options) (fresh outer None) (expression_text left) (44 ∷ atom_text atom) ∙ ap (λ b. after_text b (atom_text atom)) (waiting-built joint.Or outer at (formula_of options left) l)))
        (joined-built joint.Or outer at _ (formula_of options left) (formula_of_atom options atom) l (atom-built atom h.1 outer (Some (record { formula = formula_of options left; joint = joint.Or }))))

  pub spelled-built : (e : Expression) (text : List ℕ) → Spells e text → built_from options text ≡ formula_of options e
  spelled-built e text s = ap (built_from options) s.is ∙ (expression-built e s.named []).level

-- ---- where the names stand

-- no name goes on
abbrev Breaks : List ℕ → Type 0
Breaks [] = Unit {0}
Breaks (byte ∷ bytes) = is_name_byte byte ≡ false

runs-end : (at from : ℕ) (rest : List ℕ) → Breaks rest → runs_of at (Some from) rest ≡ (from, at) ∷ runs_of at None rest
runs-end at from [] h = refl
runs-end at from (byte ∷ bytes) h =
    ap (λ t. cond t (runs_of (at + 1) (Some from) bytes) ((from, at) ∷ runs_of (at + 1) None bytes)) h
    ∙ ap (λ rs. (from, at) ∷ rs) (sym (ap (λ t. cond t (runs_of (at + 1) (Some at) bytes) (runs_of (at + 1) None bytes)) h))

runs-on : (at from : ℕ) (name rest : List ℕ) → list_all is_name_byte name ≡ true → runs_of at (Some from) (name ++ rest) ≡ runs_of (at + length name) (Some from) rest
runs-on at from [] rest h = ap (λ k. runs_of k (Some from) rest) (let e : at ≡ at + 0 = omega arith in e)
runs-on at from (byte ∷ name) rest h =
    let parts = and_parts (is_name_byte byte) (list_all is_name_byte name) h in
    ap (λ t. cond t (runs_of (at + 1) (Some from) (name ++ rest)) ((from, at) ∷ runs_of (at + 1) None (name ++ rest))) parts.0
    ∙ runs-on (at + 1) from name rest parts.1
    ∙ ap (λ k. runs_of k (Some from) rest) (let e : (at + 1) + length name ≡ at + suc (length name) = omega arith in e)

runs-name : (at : ℕ) (name rest : List ℕ) → 0 < length name → list_all is_name_byte name ≡ true → Breaks rest → runs_of at None (name ++ rest) ≡ (at, at + length name) ∷ runs_of (at + length name) None rest
runs-name at [] rest some h b = absurd (omega arith)
runs-name at (byte ∷ name) rest some h b =
    let parts = and_parts (is_name_byte byte) (list_all is_name_byte name) h in
    let far : (at + 1) + length name ≡ at + suc (length name) = omega arith in
    ap (λ t. cond t (runs_of (at + 1) (Some at) (name ++ rest)) (runs_of (at + 1) None (name ++ rest))) parts.0
    ∙ runs-on (at + 1) at name rest parts.1
    ∙ runs-end ((at + 1) + length name) at rest b
    ∙ ap (λ k. (at, k) ∷ runs_of k None rest) far

pub some-name : (name : List ℕ) → IsName name → 0 < length name
some-name name h = ⊎_elim (λ word. word.0) (λ member. omega (arith, ap length member.4, length-append member.0 (58 ∷ 58 ∷ member.1))) h

-- reading a text gives these places, and goes on with what follows
abbrev Finds : List ℕ → ℕ → List (ℕ × ℕ) → Type 0
Finds text at places = (rest : List ℕ) → Breaks rest → runs_of at None (text ++ rest) ≡ places ++ runs_of (at + length text) None rest

group-finds : (text : List ℕ) (at : ℕ) (places : List (ℕ × ℕ)) → Finds text (at + 1) places → Finds (40 ∷ text ++ 41 ∷ []) at places
group-finds text at places f rest b =
    ap (runs_of (at + 1) None) (append_assoc text (41 ∷ []) rest) ∙ f (41 ∷ rest) refl
    ∙ ap (λ k. places ++ runs_of k None rest) (let e : ((at + 1) + length text) + 1 ≡ at + suc (length (text ++ 41 ∷ [])) = omega (arith, length_push text 41) in e)

joined-finds : (c : ℕ) → is_name_byte c ≡ false → (left atom : List ℕ) (at : ℕ) (first second : List (ℕ × ℕ)) → Finds left at first → Finds atom (at + length left + 1) second → Finds (left ++ c ∷ atom) at (first ++ second)
joined-finds c h left atom at first second l a rest b =
    ap (runs_of at None) (append_assoc left (c ∷ atom) rest) ∙ l (c ∷ (atom ++ rest)) h
    ∙ ap (λ rs. first ++ rs) (ap (λ t. cond t (runs_of (at + length left + 1) (Some (at + length left)) (atom ++ rest)) (runs_of (at + length left + 1) None (atom ++ rest))) h ∙ a rest b)
    ∙ sym (append_assoc first second (runs_of (at + length left + 1 + length atom) None rest))
    ∙ ap (λ k. (first ++ second) ++ runs_of k None rest) (let e : at + length left + 1 + length atom ≡ at + length (left ++ c ∷ atom) = omega (arith, length-append left (c ∷ atom)) in e)

mutual
  atom-finds : (a : Atom) → IsAtom a → (at : ℕ) → Finds (atom_text a) at (atom_places at a)
  atom-finds (Name name) h at = λ rest b. runs-name at name rest (some-name name h) (names-of [] name h) b
  atom-finds (Group inner) h at = group-finds (expression_text inner) at (places_of (at + 1) inner) (expression-finds inner h (at + 1))

  expression-finds : (e : Expression) → IsExpression e → (at : ℕ) → Finds (expression_text e) at (places_of at e)
  expression-finds (Single atom) h at = atom-finds atom h at
  expression-finds (Both left atom) h at =
      joined-finds 43 refl (expression_text left) (atom_text atom) at (places_of at left) (atom_places (at + length (expression_text left) + 1) atom) (expression-finds left h.0 at) (atom-finds atom h.1 (at + length (expression_text left) + 1))
  expression-finds (Either left atom) h at =
      joined-finds 44 refl (expression_text left) (atom_text atom) at (places_of at left) (atom_places (at + length (expression_text left) + 1) atom) (expression-finds left h.0 at) (atom-finds atom h.1 (at + length (expression_text left) + 1))

pub spelled-places : (e : Expression) (text : List ℕ) → Spells e text → runs_of 0 None text ≡ places_of 0 e
spelled-places e text s =
    ap (runs_of 0 None) (s.is ∙ sym (append-nil (expression_text e))) ∙ expression-finds e s.named 0 [] tt ∙ append-nil (places_of 0 e)

-- at the end of a text a run that goes on ends
pub runs-last : (text : List ℕ) (places new : List (ℕ × ℕ)) (at first : ℕ) (from : Option ℕ) → from ≡ Some first → length text ≤ at → at ≤ length text → places ++ runs_of at from (drop at text) ≡ runs_of 0 None text → new ≡ places ++ (first, length text) ∷ [] → new ≡ runs_of 0 None text
runs-last text places new at first from is past within h e =
    let end : length text ≡ at = omega arith in
    e ∙ ap (λ k. places ++ (first, k) ∷ []) end ∙ ap (λ rest. places ++ runs_of at (Some first) rest) (sym (drop_all at text past))
    ∙ ap (λ f. places ++ runs_of at f (drop at text)) (sym is) ∙ h

pub runs-over : (text : List ℕ) (places new : List (ℕ × ℕ)) (at : ℕ) (from : Option ℕ) → from ≡ None → length text ≤ at → places ++ runs_of at from (drop at text) ≡ runs_of 0 None text → new ≡ places → new ≡ runs_of 0 None text
runs-over text places new at from is past h e =
    e ∙ sym (append-nil places) ∙ ap (λ rest. places ++ runs_of at None rest) (sym (drop_all at text past))
    ∙ ap (λ f. places ++ runs_of at f (drop at text)) (sym is) ∙ h
