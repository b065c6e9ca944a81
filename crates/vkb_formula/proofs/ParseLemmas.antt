-- The expression that a text spells is read back from it, so there is one at most.
use Rattle.std.proofs.Common.{◌≡◌, ℕ, true, cond, eqb, List, [], ◌∷◌, ◌++◌, Option, Some, None, refl, sym, ap, ◌∙◌}
use Rattle.std.specs.List.{list_all}
use Rattle.std.proofs.lemmas.List.{append_assoc, append-nil}
use Rattle.std.proofs.lemmas.Bool.{and_parts, ne_eqb, true≢false}
use Rattle.vkb_formula.specs.Expressions.{Atom, Expression, Name, Group, Single, Both, Either, IsAtom, IsExpression, atom_text, expression_text, Spells}
use Rattle.vkb_formula.specs.Building.{is_name_byte}
use Rattle.vkb_formula.proofs.BuildLemmas.{names-of}

-- what stands before the atom being read in its parenthesis
data Front : Type 0 where
  Nothing : Front
  And : Expression → Front
  Or : Expression → Front

abbrev with_atom : Front → Atom → Expression
with_atom Nothing atom = Single atom
with_atom (And left) atom = Both left atom
with_atom (Or left) atom = Either left atom

-- the parenthesis that was just closed, or the name that was read
abbrev last_atom : Option Expression → List ℕ → Atom
last_atom None name = Name name
last_atom (Some inner) name = Group inner

abbrev innermost : List Front → Front
innermost [] = Nothing
innermost (left ∷ outer) = left

abbrev others : List Front → List Front
others [] = []
others (left ∷ outer) = outer

-- the expression that is read from a text, after what was read before it
abbrev read_on : List Front → Front → Option Expression → List ℕ → List ℕ → Expression
read_on outer left closed name [] = with_atom left (last_atom closed name)
read_on outer left closed name (byte ∷ bytes) =
    cond (eqb byte 40) (read_on (left ∷ outer) Nothing None [] bytes)
    (cond (eqb byte 41) (read_on (others outer) (innermost outer) (Some (with_atom left (last_atom closed name))) [] bytes)
    (cond (eqb byte 43) (read_on outer (And (with_atom left (last_atom closed name))) None [] bytes)
    (cond (eqb byte 44) (read_on outer (Or (with_atom left (last_atom closed name))) None [] bytes)
    (read_on outer left closed (name ++ byte ∷ []) bytes))))

abbrev closed_of : Atom → Option Expression
closed_of (Name name) = None
closed_of (Group inner) = Some inner

abbrev name_of : Atom → List ℕ
name_of (Name name) = name
name_of (Group inner) = []

abbrev left_of : Expression → Front
left_of (Single atom) = Nothing
left_of (Both left atom) = And left
left_of (Either left atom) = Or left

abbrev last_of : Expression → Atom
last_of (Single atom) = atom
last_of (Both left atom) = atom
last_of (Either left atom) = atom

atom-is : (a : Atom) → last_atom (closed_of a) (name_of a) ≡ a
atom-is (Name name) = refl
atom-is (Group inner) = refl

expression-is : (e : Expression) → with_atom (left_of e) (last_atom (closed_of (last_of e)) (name_of (last_of e))) ≡ e
expression-is (Single atom) = ap Single (atom-is atom)
expression-is (Both left atom) = ap (Both left) (atom-is atom)
expression-is (Either left atom) = ap (Either left) (atom-is atom)

name-step : (outer : List Front) (left : Front) (name : List ℕ) (byte : ℕ) (bytes : List ℕ) → is_name_byte byte ≡ true → read_on outer left None name (byte ∷ bytes) ≡ read_on outer left None (name ++ byte ∷ []) bytes
name-step outer left name byte bytes h =
    let whole = with_atom left (last_atom None name) in
    let on = read_on outer left None (name ++ byte ∷ []) bytes in
    let either = read_on outer (Or whole) None [] bytes in
    let both = read_on outer (And whole) None [] bytes in
    let shut = read_on (others outer) (innermost outer) (Some whole) [] bytes in
    ap (λ t. cond t (read_on (left ∷ outer) Nothing None [] bytes) (cond (eqb byte 41) shut (cond (eqb byte 43) both (cond (eqb byte 44) either on))))
    (ne_eqb byte 40 (λ e. true≢false (sym h ∙ ap is_name_byte e)))
    ∙ ap (λ t. cond t shut (cond (eqb byte 43) both (cond (eqb byte 44) either on))) (ne_eqb byte 41 (λ e. true≢false (sym h ∙ ap is_name_byte e)))
    ∙ ap (λ t. cond t both (cond (eqb byte 44) either on)) (ne_eqb byte 43 (λ e. true≢false (sym h ∙ ap is_name_byte e)))
    ∙ ap (λ t. cond t either on) (ne_eqb byte 44 (λ e. true≢false (sym h ∙ ap is_name_byte e)))

name-read : (outer : List Front) (left : Front) (name text rest : List ℕ) → list_all is_name_byte text ≡ true → read_on outer left None name (text ++ rest) ≡ read_on outer left None (name ++ text) rest
name-read outer left name [] rest h = ap (λ n. read_on outer left None n rest) (sym (append-nil name))
name-read outer left name (byte ∷ text) rest h =
    let parts = and_parts (is_name_byte byte) (list_all is_name_byte text) h in
    name-step outer left name byte (text ++ rest) parts.0
    ∙ name-read outer left (name ++ byte ∷ []) text rest parts.1
    ∙ ap (λ n. read_on outer left None n rest) (append_assoc name (byte ∷ []) text)

mutual
  atom-read : (a : Atom) → IsAtom a → (outer : List Front) (left : Front) (rest : List ℕ) → read_on outer left None [] (atom_text a ++ rest) ≡ read_on outer left (closed_of a) (name_of a) rest
  atom-read (Name name) h outer left rest = name-read outer left [] name rest (names-of [] name h)
  atom-read (Group inner) h outer left rest =
      ap (read_on (left ∷ outer) Nothing None []) (append_assoc (expression_text inner) (41 ∷ []) rest)
      ∙ expression-read inner h (left ∷ outer) (41 ∷ rest)
      ∙ ap (λ e. read_on outer left (Some e) [] rest) (expression-is inner)

  expression-read : (e : Expression) → IsExpression e → (outer : List Front) (rest : List ℕ) → read_on outer Nothing None [] (expression_text e ++ rest) ≡ read_on outer (left_of e) (closed_of (last_of e)) (name_of (last_of e)) rest
  expression-read (Single atom) h outer rest = atom-read atom h outer Nothing rest
  expression-read (Both left atom) h outer rest =
      ap (read_on outer Nothing None []) (append_assoc (expression_text left) (43 ∷ atom_text atom) rest)
      ∙ expression-read left h.0 outer (43 ∷ (atom_text atom ++ rest))
      ∙ ap (λ e. read_on outer (And e) None [] (atom_text atom ++ rest)) (expression-is left)
      ∙ atom-read atom h.1 outer (And left) rest
  expression-read (Either left atom) h outer rest =
      ap (read_on outer Nothing None []) (append_assoc (expression_text left) (44 ∷ atom_text atom) rest)
      ∙ expression-read left h.0 outer (44 ∷ (atom_text atom ++ rest))
      ∙ ap (λ e. read_on outer (Or e) None [] (atom_text atom ++ rest)) (expression-is left)
      ∙ atom-read atom h.1 outer (Or left) rest

spelled-read : (e : Expression) (text : List ℕ) → Spells e text → read_on [] Nothing None [] text ≡ e
spelled-read e text s =
    ap (read_on [] Nothing None []) (s.is ∙ sym (append-nil (expression_text e))) ∙ expression-read e s.named [] [] ∙ expression-is e

pub one-spelled : (e f : Expression) (text : List ℕ) → Spells e text → Spells f text → e ≡ f
one-spelled e f text s t = sym (spelled-read e text s) ∙ spelled-read f text t
