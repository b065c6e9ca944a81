-- How many nodes are true, one after another.
use Rattle.std.proofs.Common.{◌≡◌, ◌∙◌, refl, sym, ap, inl, inr, ℕ, ◌+◌, ◌*◌, ◌<◌, ◌==◌, Bool, true, false, not, ◌&&◌, ◌||◌, List, [], ◌∷◌, length, get_or, take, All, Contains, arith}
use Rattle.std.specs.Prelude.{count_by}
use Rattle.std.proofs.lemmas.Bool.Decides.{nat_tests}
use Rattle.std.proofs.lemmas.List.{get_or-map, length-map}
use Rattle.std.proofs.lemmas.List.Elements.{All-cons, All-nil}
use Rattle.std.proofs.lemmas.List.Sums.{count_by_more_no, count_by_more_yes}
use Rattle.vkb_formula.specs.declared.pool.NodeId.{NodeId}
use Rattle.vkb_formula.specs.declared.pool.PoolNode.{PoolNode}
use Rattle.vkb_formula.specs.declared.pool.PoolNode.TheVariants as node
use Rattle.lift_nodes.specs.declared.counting.SoFar.{SoFar}
use Rattle.lift_nodes.specs.Nodes.{is_true}
use Rattle.lift_nodes.specs.Putting.{CountsTo, IsGrown, IsPart, IsPut, IsStep, places_of}
use Rattle.lift_nodes.proofs.GrownLemmas.{both-value, built-then, either-value, grown-none, grown-put, grown-then, grown-weaker, not-value, one, two}

-- ---- one node more

module _ (p0 p1 p2 p3 p4 p5 : List PoolNode) (so_far : SoFar) (n isnt first still next rest : NodeId) (n-held : n.0 < length p0) (none-held : so_far.none.0 < length p0) (one-held : so_far.one.0 < length p0)
    (put1 : IsPut p0 (node.Not n) p1 isnt) (put2 : IsPut p1 (node.All (n ∷ so_far.none ∷ [])) p2 first) (put3 : IsPut p2 (node.All (isnt ∷ so_far.one ∷ [])) p3 still)
    (put4 : IsPut p3 (node.Any (first ∷ still ∷ [])) p4 next) (put5 : IsPut p4 (node.All (isnt ∷ so_far.none ∷ [])) p5 rest) where
  abbrev over : List ℕ
  over = n.0 ∷ so_far.none.0 ∷ so_far.one.0 ∷ []

  n-part : IsPart p0 over n.0
  n-part = inr (0, omega arith, refl)

  none-part : IsPart p0 over so_far.none.0
  none-part = inr (1, omega arith, refl)

  one-part : IsPart p0 over so_far.one.0
  one-part = inr (2, omega arith, refl)

  isnt-part : IsPart p0 over isnt.0
  isnt-part = inl (omega (arith, put1.place))

  first-part : IsPart p0 over first.0
  first-part = inl (omega (arith, put2.place, put1.grown.count))

  still-part : IsPart p0 over still.0
  still-part = inl (omega (arith, put3.place, put2.grown.count, put1.grown.count))

  grown1 : IsGrown p0 p1 over 2 0 0
  grown1 = grown-put p0 p0 p1 over 0 0 0 (node.Not n) isnt (grown-none p0 over) put1 (one (IsPart p0 over) n.0 n-part)

  grown2 : IsGrown p0 p2 over 5 3 1
  grown2 = grown-put p0 p1 p2 over 2 0 0 (node.All (n ∷ so_far.none ∷ [])) first grown1 put2 (two (IsPart p0 over) n.0 so_far.none.0 n-part none-part)

  grown3 : IsGrown p0 p3 over 8 6 2
  grown3 = grown-put p0 p2 p3 over 5 3 1 (node.All (isnt ∷ so_far.one ∷ [])) still grown2 put3 (two (IsPart p0 over) isnt.0 so_far.one.0 isnt-part one-part)

  grown4 : IsGrown p0 p4 over 11 9 3
  grown4 = grown-put p0 p3 p4 over 8 6 2 (node.Any (first ∷ still ∷ [])) next grown3 put4 (two (IsPart p0 over) first.0 still.0 first-part still-part)

  grown5 : IsGrown p0 p5 over 14 12 4
  grown5 = grown-put p0 p4 p5 over 11 9 3 (node.All (isnt ∷ so_far.none ∷ [])) rest grown4 put5 (two (IsPart p0 over) isnt.0 so_far.none.0 isnt-part none-part)

  module _ (set : List Bool) where
    abbrev is : Bool
    is = is_true p0 set n

    abbrev none-is : Bool
    none-is = is_true p0 set so_far.none

    abbrev one-is : Bool
    one-is = is_true p0 set so_far.one

    isnt-value : is_true p1 set isnt ≡ not is
    isnt-value = not-value p0 p1 isnt set n is put1 refl

    isnt-at-2 : is_true p2 set isnt ≡ not is
    isnt-at-2 = put2.grown.kept set isnt put1.held ∙ isnt-value

    isnt-at-4 : is_true p4 set isnt ≡ not is
    isnt-at-4 =
        put4.grown.kept set isnt (omega (arith, put1.held, put2.grown.count, put3.grown.count)) ∙ (put3.grown.kept set isnt (omega (arith, put1.held, put2.grown.count)) ∙ isnt-at-2)

    first-value : is_true p2 set first ≡ (is && none-is)
    first-value = both-value p1 p2 first set n so_far.none is none-is put2 (grown1.kept set n n-held) (grown1.kept set so_far.none none-held)

    still-value : is_true p3 set still ≡ (not is && one-is)
    still-value = both-value p2 p3 still set isnt so_far.one (not is) one-is put3 isnt-at-2 (grown2.kept set so_far.one one-held)

    next-value : is_true p4 set next ≡ ((is && none-is) || (not is && one-is))
    next-value = either-value p3 p4 next set first still (is && none-is) (not is && one-is) put4 (put3.grown.kept set first put2.held ∙ first-value) still-value

    rest-value : is_true p5 set rest ≡ (not is && none-is)
    rest-value = both-value p4 p5 rest set isnt so_far.none (not is) none-is put5 isnt-at-4 (grown4.kept set so_far.none none-held)

  pub step-made : IsStep p0 p5 so_far n (record { none = rest; one = next })
  step-made = record {
    grown = grown5;
    none = record { held = put5.held; part = inl (omega (arith, put5.place, grown4.count)); value = rest-value };
    one = record {
      held = omega (arith, put4.held, put5.grown.count);
      part = inl (omega (arith, put4.place, grown3.count));
      value = λ set. put5.grown.kept set next put4.held ∙ next-value set;
    };
  }

-- ---- all so far

none-more : (is : Bool) (count more : ℕ) → (is ≡ true → more ≡ count + 1) → (is ≡ false → more ≡ count) → (not is && (count == 0)) ≡ (more == 0)
none-more true count after was isnt = let e = was refl in grind (arith, nat_tests)
none-more false count after was isnt = ap (λ (k : ℕ). k == 0) (sym (isnt refl))

one-more : (is : Bool) (count more : ℕ) → (is ≡ true → more ≡ count + 1) → (is ≡ false → more ≡ count) → ((is && (count == 0)) || (not is && (count == 1))) ≡ (more == 1)
one-more true count after was isnt = let e = was refl in grind (arith, nat_tests)
one-more false count after was isnt = ap (λ (k : ℕ). k == 1) (sym (isnt refl))

module _ (start mid new : List PoolNode) (nodes : List NodeId) (count : ℕ) (so_far next : SoFar) (n : NodeId) (within : count < length nodes) (here : n ≡ get_or nodes count n) (below : n.0 < length start)
    (counts : CountsTo start mid nodes count so_far) (step : IsStep mid new so_far n next) where
  abbrev more : SoFar → List ℕ
  more s = n.0 ∷ s.none.0 ∷ s.one.0 ∷ []

  n-among : Contains (places_of nodes) n.0
  n-among =
      (count, omega (arith, within, length-map nodes (λ (id : NodeId). id.0)), get_or-map (λ (id : NodeId). id.0) nodes count n n.0 within ∙ ap (λ (id : NodeId). id.0) (sym here))

  all-parts : All (IsPart start (places_of nodes)) (more so_far)
  all-parts =
      All-cons (IsPart start (places_of nodes)) n.0 (so_far.none.0 ∷ so_far.one.0 ∷ []) (inr n-among) (two (IsPart start (places_of nodes)) so_far.none.0 so_far.one.0 counts.none.part counts.one.part)

  module _ (set : List Bool) where
    abbrev so-many : ℕ → ℕ
    so-many k = count_by (is_true start set) (take k nodes)

    n-value : is_true mid set n ≡ is_true start set n
    n-value = counts.grown.kept set n below

    if-true : is_true start set n ≡ true → so-many (count + 1) ≡ so-many count + 1
    if-true e = count_by_more_yes (is_true start set) nodes count n within (ap (is_true start set) (sym here) ∙ e)

    if-false : is_true start set n ≡ false → so-many (count + 1) ≡ so-many count
    if-false e = count_by_more_no (is_true start set) nodes count n within (ap (is_true start set) (sym here) ∙ e)

    none-same : (not (is_true mid set n) && is_true mid set so_far.none) ≡ (so-many (count + 1) == 0)
    none-same =
        ap (λ (b : Bool). not b && is_true mid set so_far.none) n-value ∙ (ap (λ (b : Bool). not (is_true start set n) && b) (counts.none.value set)
        ∙ none-more (is_true start set n) (so-many count) (so-many (count + 1)) if-true if-false)

    one-same : ((is_true mid set n && is_true mid set so_far.none) || (not (is_true mid set n) && is_true mid set so_far.one)) ≡ (so-many (count + 1) == 1)
    one-same =
        ap (λ (b : Bool). (b && is_true mid set so_far.none) || (not b && is_true mid set so_far.one)) n-value
        ∙ (ap (λ (b : Bool). (is_true start set n && b) || (not (is_true start set n) && is_true mid set so_far.one)) (counts.none.value set)
        ∙ (ap (λ (b : Bool). (is_true start set n && (so-many count == 0)) || (not (is_true start set n) && b)) (counts.one.value set)
        ∙ one-more (is_true start set n) (so-many count) (so-many (count + 1)) if-true if-false))

  pub counts-more : CountsTo start new nodes (count + 1) next
  counts-more =
      let both = grown-then start mid new (places_of nodes) (more so_far) (2 + 14 * count) (2 + 12 * count) (2 + 4 * count) 14 12 4 counts.grown step.grown all-parts in
      record {
        grown = grown-weaker start new (places_of nodes) (2 + 14 * count + 14) (2 + 12 * count + 12) (2 + 4 * count + 4) (2 + 14 * (count + 1)) (2 + 12 * (count + 1)) (2 + 4 * (count + 1)) both
            (omega arith) (omega arith) (omega arith);
        none = built-then start mid new (places_of nodes) (more so_far) (2 + 14 * count) (2 + 12 * count) (2 + 4 * count) 14 12 4 counts.grown step.grown all-parts _ _ next.none step.none none-same;
        one = built-then start mid new (places_of nodes) (more so_far) (2 + 14 * count) (2 + 12 * count) (2 + 4 * count) 14 12 4 counts.grown step.grown all-parts _ _ next.one step.one one-same;
      }

-- before the first node none is true
pub counts-none : (start mid new : List PoolNode) (nodes : List NodeId) (none first : NodeId) → IsPut start node.Always mid none → IsPut mid node.Never new first → CountsTo start new nodes 0 (record { none = none; one = first })
counts-none start mid new nodes none first put1 put2 =
    let grown1 : IsGrown start mid (places_of nodes) 1 1 1 = grown-put start start mid (places_of nodes) 0 0 0 node.Always none (grown-none start (places_of nodes)) put1 (All-nil (IsPart start (places_of nodes))) in
    let grown2 : IsGrown start new (places_of nodes) 2 2 2 = grown-put start mid new (places_of nodes) 1 1 1 node.Never first grown1 put2 (All-nil (IsPart start (places_of nodes))) in
    record {
      grown = grown2;
      none = record { held = omega (arith, put1.held, put2.grown.count); part = inl (omega (arith, put1.place)); value = λ set. put2.grown.kept set none put1.held ∙ put1.value set };
      one = record { held = put2.held; part = inl (omega (arith, put2.place, grown1.count)); value = λ set. put2.value set };
    }
