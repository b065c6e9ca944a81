-- A document so far, when a condition is put in and when a line is taken.
use Rattle.std.proofs.Common.{inl, inr, ◌≡◌, ◌∙◌, refl, sym, ap, subst, ℕ, ◌+◌, ◌≤◌, Bool, false, List, [], ◌∷◌, ◌++◌, length, map, Option, Some, None, get_or, slice_get, slice_index_or, arith}
use Rattle.std.proofs.lemmas.Bool.{cases_lt}
use Rattle.std.proofs.lemmas.List.{append-nil, get_or_append_left, get_or_at, length_push}
use Rattle.std.proofs.lemmas.Option.{get_or_from_slice_get, slice_get-get_or, slice_get_within}
use Rattle.doc_cond.specs.declared.LineKind.TheVariants.{Begin, OneLine, Close}
use Rattle.doc_tree.specs.declared.Cond.{Cond}
use Rattle.doc_tree.specs.declared.CondId.{CondId}
use Rattle.doc_tree.specs.declared.Document.{Document}
use Rattle.doc_tree.specs.Flat.{Condition}
use Rattle.doc_tree.specs.Loaded.{IsBefore, IsCondThere, condition_of, round_at, rounds_of}
use Rattle.doc_tree.specs.Progress.{AreCondsThere, Extends, Puts, Stands, outer, with_names}
use Rattle.doc_tree.proofs.NamesLemmas.{extends_itself, extends_length, with_names-extends}
use Rattle.doc_tree.proofs.RoundsLemmas.{round_opens, round_stays}

-- ---- a condition is put in

-- a condition that stands before a place stands before a later one
pub before_later : (place later : ℕ) (cond : Option CondId) → place ≤ later → IsBefore place cond → IsBefore later cond
before_later place later None upto before = tt
before_later place later (Some id) upto before = omega (arith, before)

pub slice_get-last : {A : Type 0} (xs : List A) (x : A) (k : ℕ) → k ≡ length xs → slice_get (xs ++ x ∷ []) k ≡ Some x
slice_get-last xs x k at_end =
    let one = length_push xs x in
    slice_get-get_or (xs ++ x ∷ []) k x (omega arith) ∙ ap Some (get_or_at xs x [] x k (sym at_end))

pub slice_get-stays : {A : Type 0} (xs ys : List A) (k : ℕ) (x : A) → Extends xs ys → slice_get xs k ≡ Some x → slice_get ys k ≡ Some x
slice_get-stays {A = A} xs ys k x grows here =
    let within = slice_get_within xs k x here in
    let longer = extends_length xs ys grows in
    let read : get_or xs k x ≡ x = get_or_from_slice_get xs k x x here in
    slice_get-get_or ys k x (omega arith) ∙ ap Some (ap (λ (l : List A). get_or l k x) grows.1 ∙ get_or_append_left xs grows.0 x k within ∙ read)

-- what stands in a list with one more stands before the last, or is the last
pub slice_get-either : {A : Type 0} (P : A → Type 0) (xs : List A) (x y : A) (k : ℕ) → slice_get (xs ++ x ∷ []) k ≡ Some y → (slice_get xs k ≡ Some y → P y) → (k ≡ length xs → P x) → P y
slice_get-either P xs x y k here before last =
    let within = slice_get_within (xs ++ x ∷ []) k y here in
    let one = length_push xs x in
    let read : get_or (xs ++ x ∷ []) k y ≡ y = get_or_from_slice_get (xs ++ x ∷ []) k y y here in
    elim (cases_lt k (length xs)) [
      | inl low ↦ before (slice_get-get_or xs k y low ∙ ap Some (sym (get_or_append_left xs (x ∷ []) y k low) ∙ read))
      | inr high ↦ let at_end : k ≡ length xs = omega arith in subst P (sym (get_or_at xs x [] y k (sym at_end)) ∙ read) (last at_end)
    ]

module _ (old new : Document) (negated any : Bool) (names : List (List ℕ)) (within : Option CondId) (id : CondId) (there : AreCondsThere old) (before : IsBefore (length old.conds) within) (put : Puts old new negated any names within id) where
  put_table : new.names ≡ with_names names old.names
  put_table = ap (λ (d : Document). d.names) put.new_is

  put_names : Extends old.names new.names
  put_names =
      let grows = with_names-extends names old.names in
      (grows.0, put_table ∙ grows.1)

  put_list : new.conds ≡ old.conds ++ put.cond ∷ []
  put_list = ap (λ (d : Document). d.conds) put.new_is

  put_conds : Extends old.conds new.conds
  put_conds = (put.cond ∷ [], put_list)

  put_here : slice_get new.conds id.0 ≡ Some put.cond
  put_here = ap (λ (cs : List Cond). slice_get cs id.0) put_list ∙ slice_get-last old.conds put.cond id.0 put.last

  put_count : length new.conds ≡ length old.conds + 1
  put_count = ap length put_list ∙ length_push old.conds put.cond

  put_there : AreCondsThere new
  put_there place cond here =
      let longer = extends_length old.names new.names put_names in
      slice_get-either (λ (c : Cond). IsCondThere (length new.names) place c) old.conds put.cond cond place (ap (λ (cs : List Cond). slice_get cs place) (sym put_list) ∙ here)
      (λ earlier.
      let was = there place cond earlier in
      record { each = λ k d below. let is = was.each k d below in omega arith; within = was.within })
      (λ at_end. record {
        each = put.each;
        within = subst (λ (c : Option CondId). IsBefore place c) (sym put.within_is) (before_later (length old.conds) place within (omega arith) before);
      })

  put_condition : condition_of new.names put.cond ≡ record { negated = negated; any = any; names = names }
  put_condition =
      let n = put.negated_is in
      let a = put.any_is in
      let m = put.named in
      ap (λ (b : Bool). record { negated = b; any = put.cond.any; names = map (λ name. slice_index_or new.names name.0 []) put.cond.names }) n
      ∙ ap (λ (b : Bool). record { negated = negated; any = b; names = map (λ name. slice_index_or new.names name.0 []) put.cond.names }) a
      ∙ ap (λ (ns : List (List ℕ)). record { negated = negated; any = any; names = ns }) m

  put_outside : round_at (rounds_of new) within ≡ round_at (rounds_of old) within
  put_outside = round_stays old new within there put_names put_conds before

  put_round : round_at (rounds_of new) (Some id) ≡ round_at (rounds_of old) within ++ record { negated = negated; any = any; names = names } ∷ []
  put_round =
      round_opens new id put.cond put_there put_here
      ∙ ap (λ (c : Option CondId). round_at (rounds_of new) c ++ condition_of new.names put.cond ∷ []) put.within_is
      ∙ ap (λ (cs : List Condition). cs ++ condition_of new.names put.cond ∷ []) put_outside
      ∙ ap (λ (c : Condition). round_at (rounds_of old) within ++ c ∷ []) put_condition

  pub stands-begin : Stands old new (Begin negated any names) within (record { within = within; own = None; behind = Some id })
  stands-begin = record {
    within_is = refl;
    own = refl;
    behind = let last = put.last in let one = put_count in omega arith;
    round = put_round;
    inside = before;
    names = put_table;
    conds = put_conds;
    conds_there = put_there;
    one_more = let one = put_count in omega arith;
    files_are = ap (λ (d : Document). d.files) put.new_is;
    lines_are = ap (λ (d : Document). d.lines) put.new_is;
  }

  pub stands-one_line : (from to : ℕ) → Stands old new (OneLine negated any names from to) within (record { within = within; own = Some id; behind = within })
  stands-one_line from to = record {
    within_is = refl;
    own = (id, put.cond, refl, put_here, put.within_is, put_condition);
    behind = before_later (length old.conds) (length new.conds) within (let one = put_count in omega arith) before;
    round = put_outside ∙ sym (append-nil (round_at (rounds_of old) within));
    inside = before;
    names = put_table;
    conds = put_conds;
    conds_there = put_there;
    one_more = let one = put_count in omega arith;
    files_are = ap (λ (d : Document). d.files) put.new_is;
    lines_are = ap (λ (d : Document). d.lines) put.new_is;
  }

-- what stands past the end of the conditions
default_cond : Cond
default_cond = record { negated = false; any = false; names = []; within = None }

-- the conditional round a conditional stands before it
outer_before : (d : Document) (within : Option CondId) → AreCondsThere d → IsBefore (length d.conds) within → IsBefore (length d.conds) (outer d.conds within)
outer_before d None there before = tt
outer_before d (Some id) there before =
    let here : slice_get d.conds id.0 ≡ Some (get_or d.conds id.0 default_cond) = slice_get-get_or d.conds id.0 default_cond before in
    let was = there id.0 (get_or d.conds id.0 default_cond) here in
    rw here (before_later id.0 (length d.conds) (get_or d.conds id.0 default_cond).within (omega (arith, before)) was.within)

pub stands-close : (d : Document) (any : Bool) (names : List (List ℕ)) (within : Option CondId) → AreCondsThere d → IsBefore (length d.conds) within
    → Stands d d (Close any names) within (record { within = outer d.conds within; own = None; behind = outer d.conds within })
stands-close d any names within there before = record {
  within_is = refl;
  own = refl;
  behind = outer_before d within there before;
  round = sym (append-nil (round_at (rounds_of d) (outer d.conds within)));
  inside = outer_before d within there before;
  names = refl;
  conds = extends_itself d.conds;
  conds_there = there;
  one_more = omega arith;
  files_are = refl;
  lines_are = refl;
}
