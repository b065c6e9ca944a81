-- Values of enumerants, by places.
use Rattle.std.proofs.Common.{◌≡◌, ◌≢◌, ℕ, zero, suc, ◌+◌, ◌<◌, ◌≤◌, ◌≡◌, Bool, true, false, List, [], ◌∷◌, ◌++◌, length, get_or, map, take, append-nil, Option, Some, None, refl, sym, ap, ◌∙◌, ⊎_elim, arith}
use Rattle.std.specs.Prelude.{All, IfSome, is_none, slice_get, ℤ, ◌&&◌, if◌then◌else◌}
use Rattle.std.specs.List.{find, flat_map, position, range_with_len}
use Rattle.std.specs.Option.{option_and_then, option_flatten, option_map_or}
use Rattle.std.proofs.lemmas.Bool.{cases_eq}
use Rattle.std.proofs.lemmas.List.{flat_map_more, get_or_append_left, get_or_push, map_more, take_more}
use Rattle.std.proofs.lemmas.List.FromFn.{get_or-map-range_with_len, length-map-range_with_len}
use Rattle.std.proofs.lemmas.Option.{slice_get-get_or, slice_get_past, slice_get_within}
use Rattle.reg_forms.specs.declared.forms.EnumForm.{EnumForm}
use Rattle.reg_forms.specs.declared.forms.Forms.{Forms}
use Rattle.reg_tables.specs.Aliases.{AreAliases}
use Rattle.reg_tables.specs.Places.{last_place_in, next_place}
use Rattle.reg_tables.specs.Values.{AreValues, last_in, last_of, next_of, number_of, value_of, within}
use Rattle.std.specs.Str.{bytes_eq}
use Rattle.reg_forms.specs.declared.forms.Fault.{Fault}
use Rattle.reg_forms.specs.declared.forms.RowCode.{RowCode}
use Rattle.reg_forms.specs.declared.forms.RowCode.TheVariants.{ValueClash}
use Rattle.reg_tables.specs.Tables.{enumerant_of}
use Rattle.reg_tables.specs.Wrong.{are_different, clash, fault_if}
use Rattle.reg_tables.proofs.LeaderLemmas.{link-within}
use Rattle.reg_tables.proofs.PlaceLemmas.{find-names, position-names}
use Rattle.reg_tables.proofs.ReachingLemmas.{next-is}

-- what is read at a place of a list that may have nothing there
pub flatten-past : {A : Type 0} (xs : List (Option A)) (place : ℕ) → length xs ≤ place → None ≡ option_flatten (slice_get xs place)
flatten-past xs place past = rw (slice_get_past xs place past)

flatten-map : {A B : Type 0} (g : A → Option B) (xs : List A) (place : ℕ)
    → option_flatten (slice_get (map g xs) place) ≡ option_and_then g (slice_get xs place)
flatten-map g [] place = refl
flatten-map g (x ∷ xs) zero = refl
flatten-map g (x ∷ xs) (suc place) = flatten-map g xs place

numbers-at : (f : Forms) (numbers : List (Option ℤ)) (lasts : List (Option ℕ)) (place : ℕ) → AreValues f numbers lasts
    → option_flatten (slice_get numbers place) ≡ option_and_then (number_of f) (slice_get f.enumerants place)
numbers-at f numbers lasts place v =
    ap (λ (ns : List (Option ℤ)). option_flatten (slice_get ns place)) v.numbers_are ∙ flatten-map (number_of f) f.enumerants place

pub number-is : (f : Forms) (numbers : List (Option ℤ)) (lasts : List (Option ℕ)) (place : ℕ) (e : EnumForm) (number : Option ℤ)
    → AreValues f numbers lasts → slice_get f.enumerants place ≡ Some e → number ≡ option_flatten (slice_get numbers place) → number ≡ number_of f e
number-is f numbers lasts place e number v at is = is ∙ numbers-at f numbers lasts place v ∙ ap (option_and_then (number_of f)) at

pub value-is : (f : Forms) (numbers : List (Option ℤ)) (lasts : List (Option ℕ)) (place last : ℕ) (e : EnumForm) (value : Option ℤ)
    → AreValues f numbers lasts → slice_get f.enumerants place ≡ Some e → Some last ≡ option_flatten (slice_get lasts place)
    → value ≡ option_flatten (slice_get numbers last) → value ≡ value_of f e
value-is f numbers lasts place last e value v at is number =
    number ∙ numbers-at f numbers lasts last v
    ∙ ap (λ (l : Option ℕ). option_and_then (number_of f) (option_and_then (slice_get f.enumerants) l)) is
    ∙ ap (option_and_then (number_of f)) (v.lasts_are place e at)

-- a chain ends where it has a last place
pub last-there : (f : Forms) (numbers : List (Option ℤ)) (lasts : List (Option ℕ)) (place : ℕ) (e : EnumForm) (last : Option ℕ)
    → AreValues f numbers lasts → slice_get f.enumerants place ≡ Some e → last ≡ option_flatten (slice_get lasts place) → last ≢ None → is_none (last_of f e) ≡ false
last-there f numbers lasts place e None v at is some = absurd (some refl)
last-there f numbers lasts place e (Some last) v at is some =
    let inside = link-within lasts (length f.enumerants) place last v.within (sym (is ∙ next-is lasts place)) in
    let here : last_of f e ≡ Some (get_or f.enumerants last e) =
    sym (v.lasts_are place e at) ∙ ap (option_and_then (slice_get f.enumerants)) (sym is) ∙ slice_get-get_or f.enumerants last e inside in
    ap is_none here

-- one row more
module _ (f : Forms) (rows : List EnumForm) (next : List (Option ℕ)) (i : ℕ) (row : EnumForm) (link : Option ℕ) where
  pub aliases-more : length next ≡ i → slice_get rows i ≡ Some row → option_and_then (slice_get f.enumerants) link ≡ next_of f row
      → ((place : ℕ) (e : EnumForm) → place < i → slice_get rows place ≡ Some e
      → option_and_then (slice_get f.enumerants) (next_place next place) ≡ next_of f e)
      → (place : ℕ) (e : EnumForm) → place < i + 1 → slice_get rows place ≡ Some e
      → option_and_then (slice_get f.enumerants) (next_place (next ++ link ∷ []) place) ≡ next_of f e
  aliases-more count here is before place e inside at =
      ⊎_elim
      (λ same.
      let one : Some row ≡ Some e = sym here ∙ ap (slice_get rows) (sym same) ∙ at in
      let row_is : row ≡ e = cc in
      let read : next_place (next ++ link ∷ []) place ≡ link =
      next-is (next ++ link ∷ []) place ∙ get_or_push next link None place (count ∙ sym same) in
      ap (option_and_then (slice_get f.enumerants)) read ∙ is ∙ ap (next_of f) row_is)
      (λ ne.
      let below : place < i = omega arith in
      let read : next_place (next ++ link ∷ []) place ≡ next_place next place =
      next-is (next ++ link ∷ []) place ∙ get_or_append_left next (link ∷ []) None place (omega (arith, count)) ∙ sym (next-is next place) in
      ap (option_and_then (slice_get f.enumerants)) read ∙ before place e below at)
      (cases_eq place i)

-- the last row of a chain is that at the last place
module _ (f : Forms) (next : List (Option ℕ)) (a : AreAliases f next) where
  last-step-at : (n place : ℕ) (e : EnumForm) (step : Option ℕ) → slice_get f.enumerants place ≡ Some e
      → ((to : ℕ) (other : EnumForm) → slice_get f.enumerants to ≡ Some other
      → option_and_then (slice_get f.enumerants) (last_place_in n next to) ≡ last_in n f other)
      → next_place next place ≡ step
      → option_and_then (slice_get f.enumerants) (option_map_or (last_place_in n next) (next_place next place) (Some place))
      ≡ option_map_or (last_in n f) (next_of f e) (Some e)
  last-step-at n place e None at rest is =
      let none : next_of f e ≡ None = sym (a.next_are place e at) ∙ ap (option_and_then (slice_get f.enumerants)) is in
      rw (is, none) at
  last-step-at n place e (Some to) at rest is =
      let inside = link-within next (length f.enumerants) place to a.within (sym (next-is next place) ∙ is) in
      let there = slice_get-get_or f.enumerants to e inside in
      let some : next_of f e ≡ Some (get_or f.enumerants to e) =
      sym (a.next_are place e at) ∙ ap (option_and_then (slice_get f.enumerants)) is ∙ there in
      rw (is, some) (rest to (get_or f.enumerants to e) there)

  last-at : (n place : ℕ) (e : EnumForm) → slice_get f.enumerants place ≡ Some e
      → option_and_then (slice_get f.enumerants) (last_place_in n next place) ≡ last_in n f e
  last-at zero place e at = refl
  last-at (suc n) place e at = last-step-at n place e (next_place next place) at (last-at n) refl

  pub values-are : (numbers : List (Option ℤ)) (lasts : List (Option ℕ)) → numbers ≡ map (number_of f) f.enumerants
      → lasts ≡ map (last_place_in (length next + 1) next) (range_with_len 0 (length next))
      → All (λ (last : Option ℕ). IfSome last (λ (p : ℕ). p < length next)) lasts → AreValues f numbers lasts
  values-are numbers lasts numbers_are lasts_are within =
      let steps : ℕ → Option ℕ = last_place_in (length next + 1) next in
      let count : length lasts ≡ length next = ap length lasts_are ∙ length-map-range_with_len steps 0 (length next) in
      record {
        numbers_are = numbers_are;
        lasts_count = count ∙ a.each;
        lasts_are = λ place e at.
            let inside : place < length next = omega (arith, a.each, slice_get_within f.enumerants place e at) in
            let read : option_flatten (slice_get lasts place) ≡ last_place_in (length f.enumerants + 1) next place =
            next-is lasts place ∙ ap (λ (ls : List (Option ℕ)). get_or ls place None) lasts_are
            ∙ get_or-map-range_with_len steps 0 (length next) place place None inside (omega arith)
            ∙ ap (λ (n : ℕ). last_place_in (n + 1) next place) a.each in
            ap (option_and_then (slice_get f.enumerants)) read ∙ last-at (length f.enumerants + 1) place e at;
        within = rw a.each at within;
      }

-- the first row of a name is that at the first place
pub first-is : (name : List ℕ) (rows : List EnumForm) (place : Option ℕ) → place ≡ position (λ e. bytes_eq name e.name) rows
    → option_and_then (slice_get rows) place ≡ find (λ e. bytes_eq name e.name) rows
first-is name rows place is =
    ap (option_and_then (slice_get rows)) (is ∙ position-names (λ (e : EnumForm). e.name) name rows)
    ∙ sym (find-names (λ (e : EnumForm). e.name) name rows)

-- one thing more of a loop
pub mapped-more : {A B : Type 0} (g : A → B) (xs : List A) (i : ℕ) (x : A) (y : B) (old new : List B) → i < length xs → x ≡ get_or xs i x → y ≡ g x
    → old ≡ map g (take i xs) → new ≡ old ++ y ∷ [] → new ≡ map g (take (i + 1) xs)
mapped-more g xs i x y old new inside is made before after =
    after ∙ ap (λ ys. ys ++ y ∷ []) before ∙ ap (λ z. map g (take i xs) ++ z ∷ []) (made ∙ ap g is) ∙ sym (map_more g xs i x inside)

pub joined-more : {A B : Type 0} (g : A → List B) (xs : List A) (i : ℕ) (x : A) (start old new : List B) → i < length xs → x ≡ get_or xs i x
    → old ≡ start ++ flat_map g (take i xs) → new ≡ old ++ g x → new ≡ start ++ flat_map g (take (i + 1) xs)
joined-more g xs i x start old new inside is before after =
    after ∙ ap (λ ys. ys ++ g x) before ∙ ap (λ z. (start ++ flat_map g (take i xs)) ++ g z) is ∙ flat_map_more g start (take i xs) (get_or xs i x)
    ∙ ap (λ ys. start ++ flat_map g ys) (sym (take_more xs i x inside))

-- a fault is put where the test says so, and nothing else
pub faulted : (old new : List Fault) (test : Bool) (code : RowCode) (place : ℕ) (word : List ℕ) → test ≡ true
    → new ≡ old ++ fault_if true code place word → new ≡ old ++ fault_if test code place word
faulted old new test code place word is made = made ∙ ap (λ (t : Bool). old ++ fault_if t code place word) (sym is)

pub unfaulted : (old : List Fault) (test : Bool) (code : RowCode) (place : ℕ) (word : List ℕ) → test ≡ false
    → old ≡ old ++ fault_if test code place word
unfaulted old test code place word is = sym (append-nil old) ∙ ap (λ (t : Bool). old ++ fault_if t code place word) (sym is)

-- a row of the type stands within it
pub within-is : (of : List ℕ) (first : EnumForm) (row : Option EnumForm) → Some first ≡ row → bytes_eq of first.of ≡ true
    → row ≡ option_and_then (within of) row
within-is of first row is same =
    sym is ∙ sym (ap (λ (t : Bool). if t then Some first else None) same) ∙ ap (option_and_then (within of)) is

-- the clash of a row with the first row of its name
pub clash-is : (f : Forms) (first row : EnumForm) (name : List ℕ) → name ≡ row.name → Some first ≡ enumerant_of f name
    → clash f row ≡ fault_if (bytes_eq first.of row.of && are_different (value_of f first) (value_of f row)) ValueClash row.place row.name
clash-is f first row name named is =
    let fault : EnumForm → List Fault =
    λ one. fault_if (bytes_eq one.of row.of && are_different (value_of f one) (value_of f row)) ValueClash row.place row.name in
    ap (λ (found : Option EnumForm). option_map_or fault found [])
    (ap (enumerant_of f) (sym named) ∙ sym is)

pub clash-test : (f : Forms) (first row : EnumForm) (value other : Option ℤ) (test told : Bool) → value ≡ value_of f first → other ≡ value_of f row
    → test ≡ (bytes_eq first.of row.of && are_different value other) → test ≡ told
    → (bytes_eq first.of row.of && are_different (value_of f first) (value_of f row)) ≡ told
clash-test f first row value other test told value_is other_is is told_is =
    ap (λ (v : Option ℤ). bytes_eq first.of row.of && are_different v (value_of f row)) (sym value_is)
    ∙ ap (λ (v : Option ℤ). bytes_eq first.of row.of && are_different value v) (sym other_is) ∙ sym is ∙ told_is
