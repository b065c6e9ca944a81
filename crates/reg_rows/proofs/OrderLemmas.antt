-- The order of faults is total, and the first of some faults stays first or gives way.
use Rattle.std.proofs.Common.{◌≡◌, ℕ, Bool, true, false, cond, List, [], ◌∷◌, ◌++◌, get_or, Option, Some, None, Ordering, Less, Equal, Greater, refl, sym, ap, subst, ◌∙◌}
use Rattle.std.specs.Prelude.{◌&&◌, ◌||◌, ◌==◌, nat_lt, MatchOption, if◌then◌else◌}
use Rattle.std.specs.Cmp.{IsTotalOrder, unsigned_tied}
use Rattle.std.specs.Cmp.Lexicographic.{bytes_decides, lists_agrees, slice_cmp, slice_partial_cmp}
use Rattle.std.specs.Option.{option_map_or}
use Rattle.std.specs.Ordering.{is_eq, is_lt, is_some_and, nat_cmp, on, ordering_reverse, ordering_then, then_cmp}
use Rattle.std.proofs.lemmas.Bool.{eqb-true, true≢false}
use Rattle.std.proofs.lemmas.Cmp.{nat_cmp_total, nat_list_cmp_total, on_total, then_total, tied_itself}
use Rattle.std.proofs.lemmas.Map.Text.{is_eq-slice_cmp}
use Rattle.std.proofs.lemmas.List.Elements.{All-nil, All-push, All-weaker, Contains-append_left, Contains-push}
use Rattle.reg_forms.specs.declared.forms.Fault.{Fault}
use Rattle.reg_forms.specs.declared.forms.RowCode.{RowCode}
use Rattle.reg_forms.specs.declared.forms.RowCode.TheVariants.{BadAttribute, ApiType, BadExpression, DuplicateName, UnknownName, ValueRange, ValueClash, AliasCircle, NameLimit}
use Rattle.reg_rows.specs.Faults.{IsFirst, is_less, rank, stands_before}

abbrev fault_cmp : Fault → Fault → Ordering
fault_cmp = then_cmp (on (λ f. f.at) nat_cmp) (then_cmp (on (λ f. rank f.code) nat_cmp) (on (λ f. f.word) (slice_cmp nat_cmp)))

fault_total : IsTotalOrder fault_cmp
fault_total = then_total (on_total (λ f. f.at) nat_cmp_total) (then_total (on_total (λ f. rank f.code) nat_cmp_total) (on_total (λ f. f.word) nat_list_cmp_total))

tested : (less same rest : Bool) (o : Ordering) → rest ≡ is_lt o
    → (less || (same && rest)) ≡ is_lt (ordering_then (cond less Less (cond same Equal Greater)) o)
tested true same rest o h = refl
tested false true rest o h = h
tested false false rest o h = refl

stands-is : (a b : Fault) → stands_before a b ≡ is_lt (fault_cmp a b)
stands-is a b =
    tested (nat_lt a.at b.at) (a.at == b.at) _ _
    (tested (nat_lt (rank a.code) (rank b.code)) (rank a.code == rank b.code) (is_less a.word b.word) (slice_cmp nat_cmp a.word b.word) refl)

is-less : (o : Ordering) → is_lt o ≡ true → o ≡ Less
is-less Less h = refl
is-less Equal h = absurd (true≢false (sym h))
is-less Greater h = absurd (true≢false (sym h))

-- no fault stands before itself
before-itself : (a : Fault) → stands_before a a ≡ false
before-itself a = stands-is a a ∙ ap is_lt (tied_itself fault_total a)

before-trans : (a b c : Fault) → stands_before a b ≡ true → stands_before b c ≡ true → stands_before a c ≡ true
before-trans a b c h k =
    stands-is a c ∙ ap is_lt (fault_total.trans a b c (is-less _ (sym (stands-is a b) ∙ h)) (is-less _ (sym (stands-is b c) ∙ k)))

-- what isn't before a fault isn't before one that is
not-before : (a b c : Fault) (t : Bool) → stands_before a b ≡ t → stands_before b c ≡ true → stands_before a c ≡ false → t ≡ false
not-before a b c false e h k = refl
not-before a b c true e h k = absurd (true≢false (sym (before-trans a b c e h) ∙ k))

-- of the first of some faults and one more
earlier-first : (faults : List Fault) (first other : Fault) (t : Bool) → stands_before other first ≡ t → IsFirst faults first
    → IsFirst (faults ++ other ∷ []) (if t then other else first)
earlier-first faults first other true e h = record {
  one = Contains-push faults other;
  first = All-push (λ one. stands_before one other ≡ false) faults other
      (All-weaker (λ one. stands_before one first ≡ false) (λ one. stands_before one other ≡ false) (λ one k. not-before one other first _ refl e k) faults h.first)
      (before-itself other);
}
earlier-first faults first other false e h = record {
  one = Contains-append_left faults (other ∷ []) first h.one;
  first = All-push (λ one. stands_before one first ≡ false) faults other h.first e;
}

alone : (fault : Fault) → IsFirst (fault ∷ []) fault
alone fault = record {
  one = Contains-push [] fault;
  first = All-push (λ one. stands_before one fault ≡ false) [] fault (All-nil (λ one. stands_before one fault ≡ false)) (before-itself fault);
}

-- with one fault more the first stays, or gives way to it
pub one-more : (first : Option Fault) (faults : List Fault) (other : Fault) → MatchOption first (faults ≡ []) (IsFirst faults)
    → IsFirst (faults ++ other ∷ []) (option_map_or (λ fault. if stands_before other fault then other else fault) first other)
one-more None faults other h = subst (λ before. IsFirst (before ++ other ∷ []) other) (sym h) (alone other)
one-more (Some first) faults other h = earlier-first faults first other (stands_before other first) refl h

tied : (n m : ℕ) → n ≡ m → nat_cmp n m ≡ Equal
tied n m e = ap (nat_cmp n) (sym e) ∙ tied_itself nat_cmp_total n

-- of two faults of one place and one code the word decides
pub by-word : (a b : Fault) → a.at ≡ b.at → rank a.code ≡ rank b.code → (less : Bool) → less ≡ is_less a.word b.word
    → less ≡ stands_before a b
by-word a b e f less h =
    h ∙ ap is_lt (sym (ap (λ o. ordering_then o (slice_cmp nat_cmp a.word b.word)) (tied _ _ f)))
    ∙ ap is_lt (sym (ap (λ o. ordering_then o (ordering_then (nat_cmp (rank a.code) (rank b.code)) (slice_cmp nat_cmp a.word b.word))) (tied _ _ e)))
    ∙ sym (stands-is a b)

pub byte_words : (word other : List ℕ) → is_some_and is_lt (slice_partial_cmp (λ x y. Some (nat_cmp x y)) word other) ≡ is_less word other
byte_words word other = ap (is_some_and is_lt) (lists_agrees (λ x y. refl) word other)

neither : (o p : Ordering) → o ≡ ordering_reverse p → is_lt o ≡ false → is_lt p ≡ false → o ≡ Equal
neither Less p e h k = absurd (true≢false h)
neither Equal p e h k = refl
neither Greater Less e h k = absurd (true≢false k)
neither Greater Equal e h k = absurd (cc)
neither Greater Greater e h k = absurd (cc)

both-tied : (o p : Ordering) → ordering_then o p ≡ Equal → (o ≡ Equal) × (p ≡ Equal)
both-tied Less p e = absurd (cc)
both-tied Equal p e = (refl, e)
both-tied Greater p e = absurd (cc)

same-number : (n m : ℕ) → nat_cmp n m ≡ Equal → n ≡ m
same-number n m e = eqb-true n m (sym (unsigned_tied n m) ∙ ap is_eq e)

same-word : (word other : List ℕ) → slice_cmp nat_cmp word other ≡ Equal → word ≡ other
same-word word other e = (bytes_decides word other).0 (sym (is_eq-slice_cmp word other) ∙ ap is_eq e)

-- the code of a rank
abbrev code_of : ℕ → RowCode
code_of n = get_or (BadAttribute ∷ ApiType ∷ BadExpression ∷ DuplicateName ∷ UnknownName ∷ ValueRange ∷ ValueClash ∷ AliasCircle ∷ []) n NameLimit

ranked : (code : RowCode) → code_of (rank code) ≡ code
ranked BadAttribute = refl
ranked ApiType = refl
ranked BadExpression = refl
ranked DuplicateName = refl
ranked UnknownName = refl
ranked ValueRange = refl
ranked ValueClash = refl
ranked AliasCircle = refl
ranked NameLimit = refl

-- of two faults of which neither stands before the other there is one
pub same-fault : (a b : Fault) → stands_before a b ≡ false → stands_before b a ≡ false → a ≡ b
same-fault a b h k =
    let tie : fault_cmp a b ≡ Equal = neither (fault_cmp a b) (fault_cmp b a) (fault_total.antisymm a b) (sym (stands-is a b) ∙ h) (sym (stands-is b a) ∙ k) in
    let parts = both-tied (nat_cmp a.at b.at) (ordering_then (nat_cmp (rank a.code) (rank b.code)) (slice_cmp nat_cmp a.word b.word)) tie in
    let rest = both-tied (nat_cmp (rank a.code) (rank b.code)) (slice_cmp nat_cmp a.word b.word) parts.1 in
    let at : a.at ≡ b.at = same-number a.at b.at parts.0 in
    let code : a.code ≡ b.code = sym (ranked a.code) ∙ ap code_of (same-number (rank a.code) (rank b.code) rest.0) ∙ ranked b.code in
    let word : a.word ≡ b.word = same-word a.word b.word rest.1 in
    λ i. record { code = code i; at = at i; word = word i }
