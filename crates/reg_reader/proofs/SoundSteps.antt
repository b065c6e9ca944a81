-- Each step leads to what was read: what opens and closes elements, and all phases together.
use Rattle.std.proofs.Common.{◌≡◌, ℕ, ◌+◌, ◌-◌, ◌<◌, ◌≤◌, inl, true, ◌&&◌, List, [], ◌∷◌, length, Option, Some, None, is_some, refl, sym, ap, subst, ◌∙◌, arith}
use Rattle.std.specs.Prelude.{slice_index, nat_lt, ◌==◌}
use Rattle.std.proofs.lemmas.Bool.{cond_both, eqb-true, ltb-true, ltb-false, and_parts}
use Rattle.vkb_bytes.specs.Bytes.{is_white}
use Rattle.reg_reader.specs.Markup.{is_name_start, Each, IsWhite, IsBlank, IsCharacters, IsCopy, IsEndTag, IsElement, ArePieces, Spells}
use Rattle.reg_reader.specs.Machine.{in_markup, in_slash, in_end_white, in_end_name, act_in, element_of, put, closed, start}
use Rattle.reg_reader.specs.declared.markup.Node.{Node}
use Rattle.reg_reader.specs.declared.markup.Node.TheVariants as node
use Rattle.reg_reader.specs.declared.phase.Phase.{Phase}
use Rattle.reg_reader.specs.declared.phase.Phase.TheVariants as phase
use Rattle.reg_reader.specs.declared.reader.Open.{Open}
use Rattle.reg_reader.proofs.Reached.{Upto, IsRun, IsTagged, Reached, IsReached}
use Rattle.reg_reader.proofs.Sound.{Good, at-same, each-le, tag-of, go-next, tag-end, sound-outside, sound-text, sound-comment, sound-declaration, sound-name, sound-tag, sound-attribute, sound-equals, sound-quote, sound-value}

pub copy-sums : {b : List ℕ} {from to i j : ℕ} → IsCopy b from to i j → (to + i ≡ from + j) × (from ≤ to)
copy-sums IsCopy.none = (refl, omega arith)
copy-sums (IsCopy.more copy e) = let rest = copy-sums copy in (omega (arith, rest.0), omega (arith, rest.1))

back : (k : ℕ) → k ≡ k + 1 - 1
back k = omega arith

module _ (b : List ℕ) (most k : ℕ) where
  begin-comment : (opens : List Open) (root : Option Node) → Upto b most opens root k → slice_index b k ≡ 60 → slice_index b (k + 1) ≡ 33 → Reached b most (phase.Comment (k + 1 - 1)) opens root (k + 1 + 1)
  begin-comment opens root upto less mark =
      subst (λ x. Reached b most (phase.Comment x) opens root (k + 1 + 1)) (back k)
      (Reached.comment upto (record {
        behind = omega arith;
        less = less;
        mark = mark;
        first = λ lt. absurd (omega arith);
        second = λ lt. absurd (omega arith);
        nearest = λ m low lt. absurd (omega arith);
      }))

  begin-name : (opens : List Open) → Upto b most opens None k → slice_index b k ≡ 60 → length opens < most → is_name_start (slice_index b (k + 1)) ≡ true → Reached b most (phase.Name (k + 1)) opens None (k + 1 + 1)
  begin-name opens upto less deep e = Reached.name deep less (record { start = e; rest = Each.none }) upto

  begin-end : (top : Open) (rest : List Open) → Upto b most (top ∷ rest) None k → top.name.from ≤ top.name.to → slice_index b k ≡ 60 → slice_index b (k + 1) ≡ 47 → Reached b most (phase.EndName (k + 1 + 1)) (top ∷ rest) None (k + 1 + 1)
  begin-end top rest upto le less slash =
      let two : k + 2 ≡ k + 1 + 1 = omega arith in
      subst (λ x. Reached b most (phase.EndName x) (top ∷ rest) None x) two (Reached.end_name upto less slash IsCopy.none le)

  begin-declaration : slice_index b k ≡ 60 → slice_index b (k + 1) ≡ 63 → k + 1 ≡ 1 → Reached b most phase.Declaration [] None (k + 1 + 1)
  begin-declaration less mark one = Reached.declaration (record {
    behind = omega arith;
    less = at-same b 0 k 60 (omega arith) less;
    mark = at-same b 1 (k + 1) 63 (sym one) mark;
    x = λ lt. absurd (omega arith);
    m = λ lt. absurd (omega arith);
    l = λ lt. absurd (omega arith);
    white = λ lt. absurd (omega arith);
    nearest = λ m low lt. absurd (omega arith);
  })

  name-le : (top : Open) (rest : List Open) → Upto b most (top ∷ rest) None k → top.name.from ≤ top.name.to
  name-le top rest (Upto.inside deep tag ends pieces chars outer) = let le = each-le tag.named.rest in omega (arith, each-le tag.named.rest)

  sound-markup : (opens : List Open) (root : Option Node) → Upto b most opens root k → slice_index b k ≡ 60 → Good b most (k + 1) opens root (in_markup most (k + 1) (slice_index b (k + 1)) (length opens) (is_some root))
  sound-markup opens (Some root) upto less =
      cond_both (slice_index b (k + 1) == 33) _ _ (Good b most (k + 1) opens (Some root))
      (λ e. begin-comment opens (Some root) upto less (eqb-true (slice_index b (k + 1)) 33 e)) (λ _. tt)
  sound-markup [] None upto less =
      cond_both (slice_index b (k + 1) == 33) _ _ (Good b most (k + 1) [] None)
      (λ e. begin-comment [] None upto less (eqb-true (slice_index b (k + 1)) 33 e))
      (λ _. cond_both (is_name_start (slice_index b (k + 1))) _ _ (Good b most (k + 1) [] None)
      (λ e. cond_both (nat_lt (length {A = Open} []) most) _ _ (Good b most (k + 1) [] None) (λ lt. begin-name [] upto less (ltb-true (length {A = Open} []) most lt) e) (λ _. tt))
      (λ _. cond_both (slice_index b (k + 1) == 63 && k + 1 == 1) _ _ (Good b most (k + 1) [] None)
      (λ e. let parts = and_parts (slice_index b (k + 1) == 63) (k + 1 == 1) e in
      begin-declaration less (eqb-true (slice_index b (k + 1)) 63 parts.0) (eqb-true (k + 1) 1 parts.1))
      (λ _. tt)))
  sound-markup (top ∷ rest) None upto less =
      cond_both (slice_index b (k + 1) == 33) _ _ (Good b most (k + 1) (top ∷ rest) None)
      (λ e. begin-comment (top ∷ rest) None upto less (eqb-true (slice_index b (k + 1)) 33 e))
      (λ _. cond_both (is_name_start (slice_index b (k + 1))) _ _ (Good b most (k + 1) (top ∷ rest) None)
      (λ e. cond_both (nat_lt (length (top ∷ rest)) most) _ _ (Good b most (k + 1) (top ∷ rest) None) (λ lt. begin-name (top ∷ rest) upto less (ltb-true (length (top ∷ rest)) most lt) e) (λ _. tt))
      (λ _. cond_both (nat_lt 0 (length (top ∷ rest))) _ _ (Good b most (k + 1) (top ∷ rest) None)
      (λ _. cond_both (slice_index b (k + 1) == 47) _ _ (Good b most (k + 1) (top ∷ rest) None)
      (λ e. begin-end top rest upto (name-le top rest upto) less (eqb-true (slice_index b (k + 1)) 47 e)) (λ _. tt))
      (λ ge. absurd (let h : length (top ∷ rest) ≤ 0 = ltb-false 0 (length (top ∷ rest)) ge in omega arith))))

  -- an element that ended is a child, or the root
  put-leads : (m : ℕ) (rest : List Open) (child : Node) → Upto b most rest None k → IsElement b most (length rest) k m child → IsReached b most (put m child rest) m
  put-leads m [] child (Upto.before head) element = Reached.outside (Upto.after head element IsBlank.none)
  put-leads m (top ∷ rest) child (Upto.inside deep tag ends pieces chars outer) element =
      Reached.text deep tag ends
      (ArePieces.element pieces chars (subst (λ x. IsElement b most x k m child) (let e : length (top ∷ rest) ≡ length rest + 1 = omega arith in e) element))
      (IsRun.whole IsCharacters.none) outer

module _ (b : List ℕ) (most : ℕ) where
  close-leads : (k m : ℕ) (top : Open) (rest : List Open) → Upto b most (top ∷ rest) None k → IsEndTag b top.name k m → IsReached b most (closed m (top ∷ rest) None) m
  close-leads k m top rest (Upto.inside {at = at} deep tag ends pieces chars outer) end =
      put-leads b most at m rest (element_of top) outer (IsElement.filled deep tag ends pieces chars end)

  sound-slash : (k l : ℕ) (top : Open) (rest : List Open) → IsTagged b most top rest l → IsWhite b l k → slice_index b k ≡ 47 → Good b most (k + 1) (top ∷ rest) None (in_slash (slice_index b (k + 1)))
  sound-slash k l top rest tagged white slash =
      cond_both (slice_index b (k + 1) == 62) _ _ (Good b most (k + 1) (top ∷ rest) None)
      (λ e. put-leads b most top.at (k + 1 + 1) rest (element_of top) tagged.outer
      (subst (λ x. IsElement b most (length rest) top.at x (element_of top)) (let two : k + 2 ≡ k + 1 + 1 = omega arith in two)
      (subst (λ x. IsElement b most (length rest) top.at (k + 2) (node.Element top.at top.name top.attributes x)) (sym tagged.childless)
      (IsElement.empty tagged.deep (tag-of top rest l k tagged white) slash (eqb-true (slice_index b (k + 1)) 62 e)))))
      (λ _. tt)

  module _ (n k : ℕ) (top : Open) (rest : List Open) (upto : Upto b most (top ∷ rest) None k) (less : slice_index b k ≡ 60) (slash : slice_index b (k + 1) ≡ 47) where
    sound-end-white : (l : ℕ) → IsCopy b top.name.from top.name.to (k + 2) l → IsWhite b l n → Good b most n (top ∷ rest) None (in_end_white (slice_index b n))
    sound-end-white l copy white =
        cond_both (is_white (slice_index b n)) _ _ (Good b most n (top ∷ rest) None)
        (λ e. Reached.end_white upto less slash copy (Each.more white e))
        (λ _. cond_both (slice_index b n == 62) _ _ (Good b most n (top ∷ rest) None)
        (λ e. close-leads k (n + 1) top rest upto (record { less = less; slash = slash; named_to = l; named = copy; greater = n; white = white; greater_is = eqb-true (slice_index b n) 62 e; whole = refl }))
        (λ _. tt))

    sound-end-name : (to : ℕ) → IsCopy b top.name.from to (k + 2) n → to ≤ top.name.to → Good b most n (top ∷ rest) None (in_end_name b n top.name (k + 2))
    sound-end-name to copy le =
        let sums = copy-sums copy in
        let at : top.name.from + (n - (k + 2)) ≡ to = omega (arith, sums.0, sums.1) in
        cond_both (nat_lt (top.name.from + (n - (k + 2))) top.name.to) _ _ (Good b most n (top ∷ rest) None)
        (λ lt. let before : top.name.from + (n - (k + 2)) < top.name.to = ltb-true _ top.name.to lt in
        cond_both (slice_index b n == slice_index b (top.name.from + (n - (k + 2)))) _ _ (Good b most n (top ∷ rest) None)
        (λ e. Reached.end_name upto less slash (IsCopy.more copy (eqb-true (slice_index b n) (slice_index b (top.name.from + (n - (k + 2)))) e ∙ ap (slice_index b) at)) (omega arith))
        (λ _. tt))
        (λ ge. let after : top.name.to ≤ top.name.from + (n - (k + 2)) = ltb-false _ top.name.to ge in
        sound-end-white n (subst (λ x. IsCopy b top.name.from x (k + 2) n) (let e : to ≡ top.name.to = omega arith in e) copy) Each.none)

  pub sound : {n : ℕ} {does : Phase} {opens : List Open} {root : Option Node} → n < length b → Reached b most does opens root n → Good b most n opens root (act_in most b n opens root does)
  sound {n} lt (Reached.outside {root = root} upto) = sound-outside b most n lt root upto
  sound {n} lt (Reached.text {from = from} {reference = reference} deep tag ends pieces chars outer) = sound-text b most n lt deep tag ends outer from reference pieces chars
  sound lt (Reached.markup {n = k} {opens = opens} {root = root} upto less) = sound-markup b most k opens root upto less
  sound {n} lt (Reached.comment {from = from} {opens = opens} {root = root} upto front) = sound-comment b most n lt opens root from upto front
  sound {n} lt (Reached.declaration front) = sound-declaration b most n lt front
  sound {n} lt (Reached.name {at = at} {opens = opens} deep less named upto) = sound-name b most n lt at opens deep less named upto
  sound {n} lt (Reached.tag {l = l} {top = top} {rest = rest} tagged white some) = sound-tag b most n lt top rest l tagged white some
  sound {n} lt (Reached.attribute {l = l} {from = from} {top = top} {rest = rest} tagged white some named) = sound-attribute b most n lt top rest l from tagged white some named
  sound {n} lt (Reached.equals {l = l} {name = name} {top = top} {rest = rest} tagged is_name white) = sound-equals b most n lt top rest l name tagged is_name white
  sound {n} lt (Reached.quote {l = l} {e = e} {name = name} {top = top} {rest = rest} tagged is_name before equals white) = sound-quote b most n lt top rest l e name tagged is_name before equals white
  sound {n} lt (Reached.value {l = l} {e = e} {q = q} {from = from} {mark = mark} {reference = reference} {name = name} {top = top} {rest = rest} tagged is_name before equals behind quotes opens at chars) = sound-value b most n lt top rest l e q mark name tagged is_name before equals behind quotes opens from reference at chars
  sound {n} lt (Reached.value_end {top = top} {rest = rest} tagged) = go-next b most n lt (top ∷ rest) _ (tag-end b most n lt top rest n tagged Each.none)
  sound lt (Reached.slash {n = k} {l = l} {top = top} {rest = rest} tagged white slash) = sound-slash k l top rest tagged white slash
  sound {n} lt (Reached.end_name {k = k} {to = to} {top = top} {rest = rest} upto less slash copy le) = sound-end-name n k top rest upto less slash to copy le
  sound {n} lt (Reached.end_white {k = k} {l = l} {top = top} {rest = rest} upto less slash copy white) = sound-end-white n k top rest upto less slash l copy white

  pub begins : IsReached b most start 0
  begins = Reached.outside (Upto.before (record { end = 0; declared = inl refl; blank = IsBlank.none }))

  pub ends : {opens : List Open} {root : Node} → Reached b most phase.Outside opens (Some root) (length b) → Spells most root b
  ends (Reached.outside (Upto.after {i = i} {j = j} head element blank)) = record { from = i; head = head; to = j; element = element; blank = blank }
