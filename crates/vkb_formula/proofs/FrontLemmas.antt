-- What the reader has read can be gone on with: it is the front of an expression.
use Rattle.std.proofs.Common.{◌≡◌, ℕ, zero, suc, ◌+◌, ◌-◌, ◌<◌, ◌≤◌, Bool, true, false, cond, ltb, eqb, ◌&&◌, ◌||◌, List, [], ◌∷◌, ◌++◌, length, take, drop, get_or, replicate, Option, Some, None, refl, sym, ap, subst, ◌∙◌, ◌⊎◌, inl, inr, ⊎_elim, ◌↔◌, arith}
use Rattle.std.specs.Option.{option_and_then}
use Rattle.std.specs.List.{list_all}
use Rattle.std.proofs.lemmas.List.{append_assoc, append-nil, take-append-drop, take_more, get_or_default, take_all, take-take}
use Rattle.std.proofs.lemmas.Option.{none-some}
use Rattle.std.proofs.lemmas.Bool.{and_parts, or_cases, ltb-true, eqb-true, and_from, false≢true, cases_lt}
use Rattle.vkb_bytes.specs.Bytes.{is_word_byte}
use Rattle.vkb_formula.specs.Expressions.{Atom, Expression, Name, Group, Single, Both, Either, IsWord, IsMember, IsName, IsAtom, IsExpression, atom_text, expression_text, atom_nesting, nesting_of, atom_words, words_in, Spells, IsFront, IsNoExpression, IsStop}
use Rattle.vkb_formula.specs.Marks.{after_atom, step_from, step, run, start, ends_atom, is_whole}
use Rattle.vkb_formula.specs.declared.mark.Mark.{Mark}
use Rattle.vkb_formula.specs.declared.mark.Phase.{Phase}
use Rattle.vkb_formula.specs.declared.mark.Phase.TheVariants as phase
use Rattle.vkb_formula.proofs.RunLemmas.{mark, run-append, run-front, spelled-whole}

-- what stands before an atom in its parenthesis
data Before : Type 0 where
  Nothing : Before
  And : Expression → Before
  Or : Expression → Before

abbrev before_text : Before → List ℕ
before_text Nothing = []
before_text (And e) = expression_text e ++ 43 ∷ []
before_text (Or e) = expression_text e ++ 44 ∷ []

abbrev IsBefore : Before → Type 0
IsBefore Nothing = Unit {0}
IsBefore (And e) = IsExpression e
IsBefore (Or e) = IsExpression e

abbrev before_nesting : Before → ℕ
before_nesting Nothing = 0
before_nesting (And e) = nesting_of e
before_nesting (Or e) = nesting_of e

abbrev before_words : Before → ℕ
before_words Nothing = 0
before_words (And e) = words_in e
before_words (Or e) = words_in e

-- with an atom after it
abbrev grown : Before → Atom → Expression
grown Nothing a = Single a
grown (And e) a = Both e a
grown (Or e) a = Either e a

grown-text : (b : Before) (a : Atom) → expression_text (grown b a) ≡ before_text b ++ atom_text a
grown-text Nothing a = refl
grown-text (And e) a = sym (append_assoc (expression_text e) (43 ∷ []) (atom_text a))
grown-text (Or e) a = sym (append_assoc (expression_text e) (44 ∷ []) (atom_text a))

grown-named : (b : Before) (a : Atom) → IsBefore b → IsAtom a → IsExpression (grown b a)
grown-named Nothing a h k = k
grown-named (And e) a h k = (h, k)
grown-named (Or e) a h k = (h, k)

grown-nesting : (b : Before) (a : Atom) (n : ℕ) → before_nesting b ≤ n → atom_nesting a ≤ n → nesting_of (grown b a) ≤ n
grown-nesting Nothing a n h k = k
grown-nesting (And e) a n h k = omega arith
grown-nesting (Or e) a n h k = omega arith

grown-words : (b : Before) (a : Atom) → words_in (grown b a) ≡ before_words b + atom_words a
grown-words Nothing a = omega arith
grown-words (And e) a = refl
grown-words (Or e) a = refl

-- the open parentheses, from the innermost out, each with what stands before it
abbrev outer_text : List Before → List ℕ
outer_text [] = []
outer_text (b ∷ bs) = outer_text bs ++ (before_text b ++ 40 ∷ [])

abbrev outer_words : List Before → ℕ
outer_words [] = 0
outer_words (b ∷ bs) = outer_words bs + before_words b

abbrev Fits : List Before → Type 0
Fits [] = Unit {0}
Fits (b ∷ bs) = IsBefore b × (before_nesting b + length bs ≤ 64) × Fits bs

-- closing all of them
abbrev closed_off : List Before → Before → Atom → Expression
closed_off [] b a = grown b a
closed_off (o ∷ os) b a = closed_off os o (Group (grown b a))

closed-text : (os : List Before) (b : Before) (a : Atom) → expression_text (closed_off os b a) ≡ (outer_text os ++ (before_text b ++ atom_text a)) ++ replicate (length os) 41
closed-text [] b a = grown-text b a ∙ sym (append-nil (before_text b ++ atom_text a))
closed-text (o ∷ os) b a =
    closed-text os o (Group (grown b a))
    ∙ ap (λ x. (outer_text os ++ (before_text o ++ 40 ∷ (x ++ 41 ∷ []))) ++ replicate (length os) 41) (grown-text b a)
    ∙ regroup (outer_text os) (before_text o) (before_text b ++ atom_text a) (replicate (length os) 41)
  where
    regroup : (x y z r : List ℕ) → (x ++ (y ++ 40 ∷ (z ++ 41 ∷ []))) ++ r ≡ ((x ++ (y ++ 40 ∷ [])) ++ z) ++ 41 ∷ r
    regroup x y z r = simp append_assoc

closed-named : (os : List Before) (b : Before) (a : Atom) → Fits os → IsBefore b → IsAtom a → IsExpression (closed_off os b a)
closed-named [] b a f h k = grown-named b a h k
closed-named (o ∷ os) b a f h k = closed-named os o (Group (grown b a)) f.2 f.0 (grown-named b a h k)

closed-nesting : (os : List Before) (b : Before) (a : Atom) → Fits os → before_nesting b + length os ≤ 64 → atom_nesting a + length os ≤ 64 → nesting_of (closed_off os b a) ≤ 64
closed-nesting [] b a f h k = grown-nesting b a 64 (omega arith) (omega arith)
closed-nesting (o ∷ os) b a f h k =
    closed-nesting os o (Group (grown b a)) f.2 f.1
    (let inner : nesting_of (grown b a) ≤ 63 - length os = grown-nesting b a (63 - length os) (omega arith) (omega arith) in omega arith)

closed-words : (os : List Before) (b : Before) (a : Atom) → words_in (closed_off os b a) ≡ (outer_words os + before_words b) + atom_words a
closed-words [] b a = grown-words b a ∙ (let e : before_words b + atom_words a ≡ (0 + before_words b) + atom_words a = omega arith in e)
closed-words (o ∷ os) b a = closed-words os o (Group (grown b a)) ∙ (let e : (outer_words os + before_words o) + words_in (grown b a) ≡ ((outer_words os + before_words o) + before_words b) + atom_words a = omega (arith, grown-words b a) in e)

-- read to where an atom must begin
record Open (p : List ℕ) (d w : ℕ) : Type 0 where
  outer : List Before
  before : Before
  text : p ≡ outer_text outer ++ before_text before
  deep : length outer ≡ d
  fits : Fits outer
  named : IsBefore before
  nests : before_nesting before + d ≤ 64
  limit : d ≤ 64
  count : outer_words outer + before_words before ≡ w
  few : w ≤ 4096

-- read to where an atom has ended
record Done (p : List ℕ) (d w : ℕ) : Type 0 where
  outer : List Before
  before : Before
  atom : Atom
  text : p ≡ outer_text outer ++ (before_text before ++ atom_text atom)
  deep : length outer ≡ d
  fits : Fits outer
  named : IsBefore before
  nests : before_nesting before + d ≤ 64
  whole : IsAtom atom
  inner : atom_nesting atom + d ≤ 64
  limit : d ≤ 64
  count : (outer_words outer + before_words before) + atom_words atom ≡ w
  few : w ≤ 4096

start-open : Open [] 0 0
start-open = record {
  outer = [];
  before = Nothing;
  text = refl;
  deep = refl;
  fits = tt;
  named = tt;
  nests = omega arith;
  limit = omega arith;
  count = refl;
  few = omega arith;
}

open-name : (p u : List ℕ) (d w : ℕ) → Open p d w → w < 4096 → IsName u → Done (p ++ u) d (w + 1)
open-name p u d w o room name = record {
  outer = o.outer;
  before = o.before;
  atom = Name u;
  text = ap (λ x. x ++ u) o.text ∙ append_assoc (outer_text o.outer) (before_text o.before) u;
  deep = o.deep;
  fits = o.fits;
  named = o.named;
  nests = o.nests;
  whole = name;
  inner = omega (arith, o.limit);
  limit = o.limit;
  count = omega (arith, o.count);
  few = omega arith;
}

open-paren : (p : List ℕ) (d w : ℕ) → Open p d w → d < 64 → Open (p ++ 40 ∷ []) (d + 1) w
open-paren p d w o room = record {
  outer = o.before ∷ o.outer;
  before = Nothing;
  text = ap (λ x. x ++ 40 ∷ []) o.text ∙ append_assoc (outer_text o.outer) (before_text o.before) (40 ∷ []) ∙ sym (append-nil (outer_text o.outer ++ (before_text o.before ++ 40 ∷ [])));
  deep = omega (arith, o.deep);
  fits = (o.named, omega (arith, o.deep, o.nests), o.fits);
  named = tt;
  nests = omega arith;
  limit = omega arith;
  count = omega (arith, o.count);
  few = o.few;
}

done-joined : (p : List ℕ) (c d w : ℕ) (joint : Expression → Before) → ((e : Expression) → (before_text (joint e) ≡ expression_text e ++ c ∷ []) × (IsExpression e → IsBefore (joint e)) × (before_nesting (joint e) ≡ nesting_of e) × (before_words (joint e) ≡ words_in e)) → Done p d w → Open (p ++ c ∷ []) d w
done-joined p c d w joint says x =
    let e = grown x.before x.atom in
    let s = says e in
    record {
      outer = x.outer;
      before = joint e;
      text = ap (λ y. y ++ c ∷ []) (x.text ∙ ap (λ z. outer_text x.outer ++ z) (sym (grown-text x.before x.atom))) ∙ append_assoc (outer_text x.outer) (expression_text e) (c ∷ []) ∙ ap (λ z. outer_text x.outer ++ z) (sym s.0);
      deep = x.deep;
      fits = x.fits;
      named = s.1 (grown-named x.before x.atom x.named x.whole);
      nests = (let inner : nesting_of e ≤ 64 - d = grown-nesting x.before x.atom (64 - d) (omega (arith, x.nests)) (omega (arith, x.inner)) in omega (arith, s.2, x.limit));
      limit = x.limit;
      count = omega (arith, x.count, s.3, grown-words x.before x.atom);
      few = x.few;
    }

done-both : (p : List ℕ) (d w : ℕ) → Done p d w → Open (p ++ 43 ∷ []) d w
done-both p d w x = done-joined p 43 d w And (λ e. (refl, λ h. h, refl, refl)) x

done-either : (p : List ℕ) (d w : ℕ) → Done p d w → Open (p ++ 44 ∷ []) d w
done-either p d w x = done-joined p 44 d w Or (λ e. (refl, λ h. h, refl, refl)) x

close-at : (p : List ℕ) (d w : ℕ) (x : Done p (suc d) w) (os : List Before) → x.outer ≡ os → Done (p ++ 41 ∷ []) d w
close-at p d w x [] e = absurd (omega (arith, x.deep, ap length e))
close-at p d w x (o ∷ os) e =
    let fits = subst Fits e x.fits in
    let inside = grown x.before x.atom in
    record {
      outer = os;
      before = o;
      atom = Group inside;
      text =
          ap (λ y. y ++ 41 ∷ []) (x.text ∙ ap (λ z. outer_text z ++ (before_text x.before ++ atom_text x.atom)) e ∙ ap (λ z. outer_text (o ∷ os) ++ z) (sym (grown-text x.before x.atom)))
          ∙ regroup (outer_text os) (before_text o) (expression_text inside);
      deep = omega (arith, x.deep, ap length e);
      fits = fits.2;
      named = fits.0;
      nests = omega (arith, fits.1, x.deep, ap length e);
      whole = grown-named x.before x.atom x.named x.whole;
      inner = (let deep : nesting_of inside ≤ 63 - d = grown-nesting x.before x.atom (63 - d) (omega (arith, x.nests)) (omega (arith, x.inner)) in omega (arith, x.limit));
      limit = omega (arith, x.limit);
      count = omega (arith, x.count, ap outer_words e, grown-words x.before x.atom);
      few = x.few;
    }
  where
    regroup : (x y z : List ℕ) → ((x ++ (y ++ 40 ∷ [])) ++ z) ++ 41 ∷ [] ≡ x ++ (y ++ 40 ∷ (z ++ 41 ∷ []))
    regroup x y z = simp append_assoc

done-close : (p : List ℕ) (d w : ℕ) → Done p (suc d) w → Done (p ++ 41 ∷ []) d w
done-close p d w x = close-at p d w x x.outer refl

done-spells : (p : List ℕ) (d w : ℕ) (x : Done p d w) → Spells (closed_off x.outer x.before x.atom) (p ++ replicate (length x.outer) 41)
done-spells p d w x = record {
  named = closed-named x.outer x.before x.atom x.fits x.named x.whole;
  is = ap (λ y. y ++ replicate (length x.outer) 41) x.text ∙ sym (closed-text x.outer x.before x.atom);
  nests = closed-nesting x.outer x.before x.atom x.fits (omega (arith, x.nests, x.deep)) (omega (arith, x.inner, x.deep));
  few = omega (arith, closed-words x.outer x.before x.atom, x.count, x.few);
}

done-front : (p : List ℕ) (d w : ℕ) → Done p d w → IsFront p
done-front p d w x = (replicate (length x.outer) 41, closed_off x.outer x.before x.atom, done-spells p d w x)

done-whole : (p : List ℕ) (w : ℕ) → Done p 0 w → (e : Expression) × Spells e p
done-whole p w x = (
  closed_off x.outer x.before x.atom,
  subst (Spells (closed_off x.outer x.before x.atom)) (ap (λ n. p ++ replicate n 41) x.deep ∙ append-nil p) (done-spells p 0 w x),
)

-- what a front begins with is a front
pub front-prefix : (p q : List ℕ) → IsFront (p ++ q) → IsFront p
front-prefix p q f = (q ++ f.0, f.1, subst (Spells f.1) (append_assoc p q f.0) f.2)

front-take : (text : List ℕ) (m n : ℕ) → m ≤ n → IsFront (take n text) → IsFront (take m text)
front-take text m n le f =
    front-prefix (take m text) (drop m (take n text))
    (subst IsFront (sym (take-append-drop m (take n text)) ∙ ap (λ p. p ++ drop m (take n text)) (take-take m n text le)) f)

-- the fronts among what a text begins with are those that are no longer than where it stops
pub stop-fronts : (text : List ℕ) (at n : ℕ) → IsStop text at → n ≤ length text → IsFront (take n text) ↔ (n ≤ at)
stop-fronts text at n s le = (
  λ f. ⊎_elim (λ past. absurd (s.last (omega arith) (front-take text (at + 1) n (omega arith) f))) (λ up. up) (cases_lt at n),
  λ up. front-take text n at up s.front,
)

-- read to within a name
record Within (Part : List ℕ → Type 0) (p : List ℕ) (d w : ℕ) : Type 0 where
  front : List ℕ
  part : List ℕ
  words : ℕ
  text : p ≡ front ++ part
  said : Part part
  place : Open front d words
  room : words < 4096
  count : words + 1 ≡ w

abbrev HasColon : List ℕ → Type 0
HasColon part = (first : List ℕ) × IsWord first × (part ≡ first ++ 58 ∷ [])

abbrev HasColons : List ℕ → Type 0
HasColons part = (first : List ℕ) × IsWord first × (part ≡ first ++ 58 ∷ 58 ∷ [])

-- what each mark says of what was read
abbrev ReachedAt : List ℕ → Phase → ℕ → ℕ → Type 0
ReachedAt p phase.Start d w = Open p d w × (w < 4096)
ReachedAt p phase.Word d w = Within IsWord p d w
ReachedAt p phase.Colon d w = Within HasColon p d w
ReachedAt p phase.Colons d w = Within HasColons p d w
ReachedAt p phase.Member d w = Within IsMember p d w
ReachedAt p phase.Closed d w = Done p d w

abbrev Reached : List ℕ → Mark → Type 0
Reached p m = ReachedAt p m.phase m.depth m.words

within-done : (Part : List ℕ → Type 0) → ((u : List ℕ) → Part u → IsName u) → (p : List ℕ) (d w : ℕ) → Within Part p d w → Done p d w
within-done Part named p d w x =
    subst (λ n. Done p d n) x.count (subst (λ q. Done q d (x.words + 1)) (sym x.text) (open-name x.front x.part d x.words x.place x.room (named x.part x.said)))

within-more : (Part Next : List ℕ → Type 0) (p : List ℕ) (c d w : ℕ) → ((u : List ℕ) → Part u → Next (u ++ c ∷ [])) → Within Part p d w → Within Next (p ++ c ∷ []) d w
within-more Part Next p c d w more x = record {
  front = x.front;
  part = x.part ++ c ∷ [];
  words = x.words;
  text = ap (λ q. q ++ c ∷ []) x.text ∙ append_assoc x.front x.part (c ∷ []);
  said = more x.part x.said;
  place = x.place;
  room = x.room;
  count = x.count;
}

all-push : (u : List ℕ) (c : ℕ) → list_all is_word_byte u ≡ true → is_word_byte c ≡ true → list_all is_word_byte (u ++ c ∷ []) ≡ true
all-push [] c h k = and_from (is_word_byte c) true k refl
all-push (b ∷ u) c h k =
    let parts = and_parts (is_word_byte b) (list_all is_word_byte u) h in
    and_from (is_word_byte b) (list_all is_word_byte (u ++ c ∷ [])) parts.0 (all-push u c parts.1 k)

some-length : (u : List ℕ) (c : ℕ) → 0 < length (u ++ c ∷ [])
some-length [] c = omega arith
some-length (b ∷ u) c = omega arith

word-push : (u : List ℕ) (c : ℕ) → is_word_byte c ≡ true → IsWord u → IsWord (u ++ c ∷ [])
word-push u c k h = (some-length u c, all-push u c h.1 k)

member-push : (u : List ℕ) (c : ℕ) → is_word_byte c ≡ true → IsMember u → IsMember (u ++ c ∷ [])
member-push u c k h =
    (h.0, h.1 ++ c ∷ [], h.2, word-push h.1 c k h.3, ap (λ x. x ++ c ∷ []) h.4 ∙ append_assoc h.0 (58 ∷ 58 ∷ h.1) (c ∷ []))

colons-push : (u : List ℕ) (c : ℕ) → is_word_byte c ≡ true → HasColons u → IsMember (u ++ c ∷ [])
colons-push u c k h =
    (h.0, c ∷ [], h.1, (some-length [] c, all-push [] c refl k), ap (λ x. x ++ c ∷ []) h.2 ∙ append_assoc h.0 (58 ∷ 58 ∷ []) (c ∷ []))

colon-push : (u : List ℕ) → HasColon u → HasColons (u ++ 58 ∷ [])
colon-push u h = (h.0, h.1, ap (λ x. x ++ 58 ∷ []) h.2 ∙ append_assoc h.0 (58 ∷ []) (58 ∷ []))

-- each mark's text is a front
reached-front : (p : List ℕ) (k : Phase) (d w : ℕ) → ReachedAt p k d w → IsFront p
reached-front p phase.Start d w x = front-prefix p (65 ∷ []) (done-front (p ++ 65 ∷ []) d (w + 1) (open-name p (65 ∷ []) d w x.0 x.1 (inl (omega arith, refl))))
reached-front p phase.Word d w x = done-front p d w (within-done IsWord (λ u h. inl h) p d w x)
reached-front p phase.Colon d w x =
    front-prefix p (58 ∷ []) (front-prefix (p ++ 58 ∷ []) (65 ∷ [])
    (done-front ((p ++ 58 ∷ []) ++ 65 ∷ []) d w (within-done IsMember (λ u h. inr h) ((p ++ 58 ∷ []) ++ 65 ∷ []) d w
    (within-more HasColons IsMember (p ++ 58 ∷ []) 65 d w (λ u h. colons-push u 65 refl h) (within-more HasColon HasColons p 58 d w colon-push x)))))
reached-front p phase.Colons d w x =
    front-prefix p (65 ∷ []) (done-front (p ++ 65 ∷ []) d w (within-done IsMember (λ u h. inr h) (p ++ 65 ∷ []) d w (within-more HasColons IsMember p 65 d w (λ u h. colons-push u 65 refl h) x)))
reached-front p phase.Member d w x = done-front p d w (within-done IsMember (λ u h. inr h) p d w x)
reached-front p phase.Closed d w x = done-front p d w x

ends-done : (p : List ℕ) (k : Phase) (d w : ℕ) → ends_atom k ≡ true → ReachedAt p k d w → Done p d w
ends-done p phase.Start d w h x = absurd (false≢true h)
ends-done p phase.Word d w h x = within-done IsWord (λ u g. inl g) p d w x
ends-done p phase.Colon d w h x = absurd (false≢true h)
ends-done p phase.Colons d w h x = absurd (false≢true h)
ends-done p phase.Member d w h x = within-done IsMember (λ u g. inr g) p d w x
ends-done p phase.Closed d w h x = x

-- ---- one step

chosen : {X : Type 0} (b : Bool) (x y z : X) → cond b x y ≡ z → ((b ≡ true) × (x ≡ z)) ⊎ ((b ≡ false) × (y ≡ z))
chosen true x y z e = inl (refl, e)
chosen false x y z e = inr (refl, e)

only-some : (p : List ℕ) (b : Bool) (m n : Mark) → cond b (Some m) None ≡ Some n → (b ≡ true → Reached p m) → Reached p n
only-some p true m n e h = subst (Reached p) (let same : m ≡ n = cc in same) (h refl)
only-some p false m n e h = absurd (let none : ◌≡◌ {A = Option Mark} None (Some n) = e in cc)

some-or : (p : List ℕ) (b : Bool) (m n : Mark) (rest : Option Mark) → cond b (Some m) rest ≡ Some n → (b ≡ true → Reached p m) → (rest ≡ Some n → Reached p n) → Reached p n
some-or p true m n rest e h g = subst (Reached p) (let same : m ≡ n = cc in same) (h refl)
some-or p false m n rest e h g = g e

byte-is : (p : List ℕ) (c k : ℕ) (m : Mark) → eqb c k ≡ true → Reached (p ++ k ∷ []) m → Reached (p ++ c ∷ []) m
byte-is p c k m e h = subst (λ b. Reached (p ++ b ∷ []) m) (sym (eqb-true c k e)) h

close-step : (p : List ℕ) (d w : ℕ) → 0 < d → Done p d w → Done (p ++ 41 ∷ []) (d - 1) w
close-step p zero w some x = absurd (omega arith)
close-step p (suc d) w some x = subst (λ k. Done (p ++ 41 ∷ []) k w) (let e : d ≡ suc d - 1 = omega arith in e) (done-close p d w x)

after-reached : (p : List ℕ) (d w c : ℕ) (n : Mark) → Done p d w → after_atom d w c ≡ Some n → Reached (p ++ c ∷ []) n
after-reached p d w c n x e =
    ⊎_elim
    (λ joint. only-some (p ++ c ∷ []) (ltb w 4096) (mark phase.Start d w) n joint.1
    (λ room. ⊎_elim
    (λ both. byte-is p c 43 (mark phase.Start d w) both (done-both p d w x, ltb-true w 4096 room))
    (λ either. byte-is p c 44 (mark phase.Start d w) either (done-either p d w x, ltb-true w 4096 room))
    (or_cases (eqb c 43) (eqb c 44) joint.0)))
    (λ other. only-some (p ++ c ∷ []) (eqb c 41 && ltb 0 d) (mark phase.Closed (d - 1) w) n other.1
    (λ close.
    let parts = and_parts (eqb c 41) (ltb 0 d) close in
    byte-is p c 41 (mark phase.Closed (d - 1) w) parts.0 (close-step p d w (ltb-true 0 d parts.1) x)))
    (chosen (eqb c 43 || eqb c 44) (cond (ltb w 4096) (Some (mark phase.Start d w)) None) (cond (eqb c 41 && ltb 0 d) (Some (mark phase.Closed (d - 1) w)) None) (Some n) e)

begins-word : (p : List ℕ) (c d w : ℕ) → Open p d w → w < 4096 → is_word_byte c ≡ true → Within IsWord (p ++ c ∷ []) d (w + 1)
begins-word p c d w o room h = record {
  front = p;
  part = c ∷ [];
  words = w;
  text = refl;
  said = (omega arith, all-push [] c refl h);
  place = o;
  room = room;
  count = refl;
}

step-reached : (p : List ℕ) (k : Phase) (d w c : ℕ) (n : Mark) → ReachedAt p k d w → step_from k d w c ≡ Some n → Reached (p ++ c ∷ []) n
step-reached p phase.Start d w c n x e =
    some-or (p ++ c ∷ []) (is_word_byte c && ltb w 4096) (mark phase.Word d (w + 1)) n (cond (eqb c 40 && ltb d 64) (Some (mark phase.Start (d + 1) w)) None) e
    (λ word. begins-word p c d w x.0 x.1 (and_parts (is_word_byte c) (ltb w 4096) word).0)
    (λ f. only-some (p ++ c ∷ []) (eqb c 40 && ltb d 64) (mark phase.Start (d + 1) w) n f
    (λ paren.
    let parts = and_parts (eqb c 40) (ltb d 64) paren in
    byte-is p c 40 (mark phase.Start (d + 1) w) parts.0 (open-paren p d w x.0 (ltb-true d 64 parts.1), x.1)))
step-reached p phase.Word d w c n x e =
    some-or (p ++ c ∷ []) (is_word_byte c) (mark phase.Word d w) n (cond (eqb c 58) (Some (mark phase.Colon d w)) (after_atom d w c)) e
    (λ word. within-more IsWord IsWord p c d w (λ u h. word-push u c word h) x)
    (λ f. some-or (p ++ c ∷ []) (eqb c 58) (mark phase.Colon d w) n (after_atom d w c) f
    (λ colon. byte-is p c 58 (mark phase.Colon d w) colon (within-more IsWord HasColon p 58 d w (λ u h. (u, h, refl)) x))
    (λ g. after-reached p d w c n (within-done IsWord (λ u h. inl h) p d w x) g))
step-reached p phase.Colon d w c n x e =
    only-some (p ++ c ∷ []) (eqb c 58) (mark phase.Colons d w) n e
    (λ colon. byte-is p c 58 (mark phase.Colons d w) colon (within-more HasColon HasColons p 58 d w colon-push x))
step-reached p phase.Colons d w c n x e =
    only-some (p ++ c ∷ []) (is_word_byte c) (mark phase.Member d w) n e
    (λ word. within-more HasColons IsMember p c d w (λ u h. colons-push u c word h) x)
step-reached p phase.Member d w c n x e =
    some-or (p ++ c ∷ []) (is_word_byte c) (mark phase.Member d w) n (after_atom d w c) e
    (λ word. within-more IsMember IsMember p c d w (λ u h. member-push u c word h) x)
    (λ g. after-reached p d w c n (within-done IsMember (λ u h. inr h) p d w x) g)
step-reached p phase.Closed d w c n x e = after-reached p d w c n x e

run-reached : (q p : List ℕ) (m n : Mark) → Reached p m → run m q ≡ Some n → Reached (p ++ q) n
run-reached [] p m n x e = subst (λ t. Reached t n) (sym (append-nil p)) (subst (Reached p) (let same : m ≡ n = cc in same) x)
run-reached (c ∷ q) p m n x e =
    let through = next-of (step m c) refl e in
    subst (λ t. Reached t n) (append_assoc p (c ∷ []) q)
    (run-reached q (p ++ c ∷ []) through.0 n (step-reached p m.phase m.depth m.words c through.0 x through.1) through.2)
  where
    next-of : (o : Option Mark) → step m c ≡ o → option_and_then (λ k. run k q) o ≡ Some n → (k : Mark) × (step m c ≡ Some k) × (run k q ≡ Some n)
    next-of None s f = absurd (let none : ◌≡◌ {A = Option Mark} None (Some n) = f in cc)
    next-of (Some k) s f = (k, s, f)

-- ---- what the reader's answers mean

read-reached : (text : List ℕ) (m : Mark) → run start text ≡ Some m → Reached text m
read-reached text m e = run-reached text [] start m (start-open, omega arith) e

pub read-front : (text : List ℕ) (m : Mark) → run start text ≡ Some m → IsFront text
read-front text m e = reached-front text m.phase m.depth m.words (read-reached text m e)

-- a text that is read to where an expression may end is one
pub whole-spelled : (text : List ℕ) (m : Mark) → run start text ≡ Some m → is_whole m ≡ true → (e : Expression) × Spells e text
whole-spelled text m e h =
    let parts = and_parts (ends_atom m.phase) (eqb m.depth 0) h in
    done-whole text m.words (subst (λ d. Done text d m.words) (eqb-true m.depth 0 parts.1) (ends-done text m.phase m.depth m.words parts.0 (read-reached text m e)))

pub front-read : (text : List ℕ) → IsFront text → (m : Mark) × (run start text ≡ Some m)
front-read text f =
    let whole = spelled-whole f.1 (text ++ f.0) f.2 in
    run-front text f.0 whole.0 whole.1

-- a text that is read to where no expression may end is a front, and no expression
pub unended : (text : List ℕ) (m : Mark) → run start text ≡ Some m → is_whole m ≡ false → IsNoExpression text × IsStop text (length text)
unended text m e h = (
  λ x s.
      let whole = spelled-whole x text s in
      let same : m ≡ whole.0 = let both : Some m ≡ Some whole.0 = sym e ∙ whole.1 in cc in
      false≢true (sym h ∙ ap is_whole same ∙ whole.2),
  record {
    within = omega arith;
    front = subst IsFront (sym (take_all (length text) text (omega arith))) (read-front text m e);
    last = λ more. absurd (omega arith);
  },
)

-- a byte that can't follow what was read stops it
pub stopped : (text : List ℕ) (at c : ℕ) (m : Mark) → at < length text → c ≡ get_or text at c → run start (take at text) ≡ Some m → step m c ≡ None → IsNoExpression text × IsStop text at
stopped text at c m within is e dead =
    let more : take (at + 1) text ≡ take at text ++ c ∷ [] = take_more text at c within ∙ ap (λ b. take at text ++ b ∷ []) (sym is) in
    let stuck : run start (take (at + 1) text) ≡ None =
    ap (run start) more ∙ run-append (take at text) (c ∷ []) start ∙ ap (option_and_then (λ k. run k (c ∷ []))) e ∙ ap (option_and_then (λ k. run k [])) dead in
    let no-front : IsFront (take (at + 1) text) → ⊥ = λ f. let read = front-read (take (at + 1) text) f in (let both : ◌≡◌ {A = Option Mark} None (Some read.0) = sym stuck ∙ read.1 in cc) in (
      λ x s. no-front (front-prefix (take (at + 1) text) (drop (at + 1) text) (subst IsFront (sym (take-append-drop (at + 1) text)) ([], x, subst (Spells x) (sym (append-nil text)) s))),
      record {
        within = omega arith;
        front = read-front (take at text) m e;
        last = λ more. no-front;
      },
    )

-- one more byte was read
pub read-more : (text : List ℕ) (at c : ℕ) (m n : Mark) → at < length text → c ≡ get_or text at c → run start (take at text) ≡ Some m → step m c ≡ Some n → run start (take (at + 1) text) ≡ Some n
read-more text at c m n within is e next =
    ap (run start) (take_more text at c within ∙ ap (λ b. take at text ++ b ∷ []) (sym is)) ∙ run-append (take at text) (c ∷ []) start
    ∙ ap (option_and_then (λ k. run k (c ∷ []))) e ∙ ap (option_and_then (λ k. run k [])) next

pub read-all : (text : List ℕ) (at : ℕ) (m : Mark) → length text ≤ at → run start (take at text) ≡ Some m → run start text ≡ Some m
read-all text at m past e = ap (run start) (sym (take_all at text past)) ∙ e

pub stopped-at : (text : List ℕ) (at : ℕ) (m : Mark) → at < length text → run start (take at text) ≡ Some m → step m (get_or text at 0) ≡ None → IsNoExpression text × IsStop text at
stopped-at text at m within e dead = stopped text at (get_or text at 0) m within (get_or_default text at 0 (get_or text at 0) within) e dead

pub read-more-at : (text : List ℕ) (at : ℕ) (m n : Mark) → at < length text → run start (take at text) ≡ Some m → step m (get_or text at 0) ≡ Some n → run start (take (at + 1) text) ≡ Some n
read-more-at text at m n within e next = read-more text at (get_or text at 0) m n within (get_or_default text at 0 (get_or text at 0) within) e next

read-or-none : (text : List ℕ) (o : Option Mark) → run start text ≡ o → ((e : Expression) × Spells e text) ⊎ IsNoExpression text
read-or-none text None r =
    inr (λ e s. let f = front-read text ([], e, subst (Spells e) (sym (append-nil text)) s) in none-some f.0 (sym r ∙ f.1))
read-or-none text (Some m) r = whole-or-not (is_whole m) refl
  where
    whole-or-not : (b : Bool) → is_whole m ≡ b → ((e : Expression) × Spells e text) ⊎ IsNoExpression text
    whole-or-not true w = inl (whole-spelled text m r w)
    whole-or-not false w = inr (unended text m r w).0

-- a text is an expression or it is none
pub each-read : (text : List ℕ) → ((e : Expression) × Spells e text) ⊎ IsNoExpression text
each-read text = read-or-none text (run start text) refl
