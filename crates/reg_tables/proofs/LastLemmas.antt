-- Where chains of aliases of declared names end, by places, and the members that stand there.
use Rattle.std.proofs.Common.{◌≡◌, ℕ, zero, suc, ◌+◌, ◌<◌, ◌≤◌, Bool, true, false, cond, ltb, List, [], ◌∷◌, length, map, get_or, position, Option, Some, None, refl, sym, ap, subst, inl, inr, ◌∙◌, arith}
use Rattle.std.specs.Prelude.{◌&&◌, ◌||◌, ◌⊎◌, All, IfSome, is_none, is_some, option_map, slice_get, if◌then◌else◌}
use Rattle.std.specs.List.{list_any, position_or_len, range_with_len}
use Rattle.std.specs.Option.{option_and_then, option_flatten, option_map_or}
use Rattle.std.specs.Str.{bytes_eq}
use Rattle.std.proofs.lemmas.Bool.{cases_lt, ltb-true}
use Rattle.std.proofs.lemmas.List.{get_or-map, length-map, map-id}
use Rattle.std.proofs.lemmas.List.Elements.{All-get_or, All-map}
use Rattle.std.proofs.lemmas.List.FromFn.{get_or-range_with_len, length-range_with_len}
use Rattle.std.proofs.lemmas.Option.{slice_get-get_or, slice_get-map, slice_get_cases, slice_get_past, slice_get_within}
use Rattle.vkb_formula.specs.Names.{place_of}
use Rattle.reg_forms.specs.declared.forms.Declaration.{Declaration}
use Rattle.reg_forms.specs.declared.forms.Forms.{Forms}
use Rattle.reg_forms.specs.declared.forms.MemberForm.{MemberForm}
use Rattle.reg_tables.specs.Bits.{aliased, has_member, is_bit, is_member_name, is_struct_kind, last_declared, last_declared_in, member_in, owner_in}
use Rattle.reg_tables.specs.Found.{AreLasts, aliased_at, last_struct_of, members_table}
use Rattle.reg_tables.specs.Lists.{each_name, is_among}
use Rattle.reg_tables.specs.Places.{last_place_in, next_place}
use Rattle.reg_tables.specs.Tables.{declaration_of}
use Rattle.reg_tables.proofs.FirstsLemmas.{among-firsts, place-among}
use Rattle.reg_tables.proofs.PlaceLemmas.{find-names, position-names}

-- the place of a declaration is where it is found
pub declared-there : (f : Forms) (name : List ℕ)
    → option_and_then (slice_get f.declarations) (position (λ d. bytes_eq name d.name) f.declarations) ≡ declaration_of f name
declared-there f name =
    ap (option_and_then (slice_get f.declarations)) (position-names (λ (d : Declaration). d.name) name f.declarations)
    ∙ sym (find-names (λ (d : Declaration). d.name) name f.declarations)

within-cond : (b : Bool) (m n : ℕ) → ltb m n ≡ b → IfSome (cond b (Some m) None) (λ i. i < n)
within-cond true m n e = ltb-true m n e
within-cond false m n e = tt

-- what is found is within
pub position-within : {X : Type 0} (p : X → Bool) (xs : List X) → IfSome (position p xs) (λ i. i < length xs)
position-within p xs = within-cond (ltb (position_or_len p xs) (length xs)) (position_or_len p xs) (length xs) refl

aliased-at : (f : Forms) (alias : Option (List ℕ))
    → option_and_then (slice_get f.declarations) (option_and_then (λ name. position (λ other. bytes_eq name other.name) f.declarations) alias) ≡ option_and_then (declaration_of f) alias
aliased-at f None = refl
aliased-at f (Some name) = declared-there f name

aliased-within : (f : Forms) (alias : Option (List ℕ))
    → IfSome (option_and_then (λ name. position (λ other. bytes_eq name other.name) f.declarations) alias) (λ i. i < length f.declarations)
aliased-within f None = tt
aliased-within f (Some name) = position-within (λ (other : Declaration). bytes_eq name other.name) f.declarations

pub all-within : (f : Forms) → All (λ place. IfSome place (λ p. p < length f.declarations)) (map (aliased_at f) f.declarations)
all-within f =
    All-map (λ place. IfSome place (λ p. p < length f.declarations)) (aliased_at f) f.declarations
    (λ k d h. aliased-within f (get_or f.declarations k d).alias)

module _ (f : Forms) where
  next-is : (place : ℕ) (d : Declaration) → slice_get f.declarations place ≡ Some d
      → next_place (map (aliased_at f) f.declarations) place ≡ aliased_at f d
  next-is place d h = ap option_flatten (slice_get-map (aliased_at f) f.declarations place ∙ ap (option_map (aliased_at f)) h)

  step-at : (n place : ℕ) (d : Declaration) (o : Option ℕ) (r : Option Declaration) → slice_get f.declarations place ≡ Some d
      → option_and_then (slice_get f.declarations) o ≡ r → IfSome o (λ i. i < length f.declarations)
      → ((p : ℕ) (other : Declaration) → slice_get f.declarations p ≡ Some other → option_and_then (slice_get f.declarations) (last_place_in n (map (aliased_at f) f.declarations) p) ≡ last_declared_in n f other)
      → option_and_then (slice_get f.declarations) (option_map_or (last_place_in n (map (aliased_at f) f.declarations)) o (Some place)) ≡ option_map_or (last_declared_in n f) r (Some d)
  step-at n place d None r h e within rest = h ∙ ap (λ found. option_map_or (last_declared_in n f) found (Some d)) e
  step-at n place d (Some p) r h e within rest =
      let there = slice_get-get_or f.declarations p d within in
      rest p (get_or f.declarations p d) there ∙ ap (λ found. option_map_or (last_declared_in n f) found (Some d)) (sym there ∙ e)

  -- following places is following declarations
  last-is : (n place : ℕ) (d : Declaration) → slice_get f.declarations place ≡ Some d
      → option_and_then (slice_get f.declarations) (last_place_in n (map (aliased_at f) f.declarations) place) ≡ last_declared_in n f d
  last-is zero place d h = refl
  last-is (suc n) place d h =
      ap (λ next. option_and_then (slice_get f.declarations) (option_map_or (last_place_in n (map (aliased_at f) f.declarations)) next (Some place))) (next-is place d h)
      ∙ step-at n place d (aliased_at f d) (aliased f d) h (aliased-at f d.alias) (aliased-within f d.alias) (last-is n)

  ranged : (n place : ℕ) → place < n → slice_get (range_with_len 0 n) place ≡ Some place
  ranged n place h =
      let long = length-range_with_len 0 n in
      slice_get-get_or (range_with_len 0 n) place 0 (omega arith) ∙ ap Some (get_or-range_with_len 0 n place 0 h ∙ (let e : 0 + place ≡ place = omega arith in e))

  lasts-at : (next lasts : List (Option ℕ)) → next ≡ map (aliased_at f) f.declarations
      → lasts ≡ map (last_place_in (length next + 1) next) (range_with_len 0 (length next))
      → (place : ℕ) (d : Declaration) → slice_get f.declarations place ≡ Some d → option_and_then (slice_get f.declarations) (option_flatten (slice_get lasts place)) ≡ last_declared f d
  lasts-at next lasts e h place d there =
      let count : length next ≡ length f.declarations = ap length e ∙ length-map f.declarations (aliased_at f) in
      let within = slice_get_within f.declarations place d there in
      ap (λ all. option_and_then (slice_get f.declarations) (option_flatten (slice_get all place))) h
      ∙ ap (λ found. option_and_then (slice_get f.declarations) (option_flatten found))
      (slice_get-map (last_place_in (length next + 1) next) (range_with_len 0 (length next)) place ∙ ap (option_map (last_place_in (length next + 1) next)) (ranged (length next) place (omega arith)))
      ∙ ap (λ n. option_and_then (slice_get f.declarations) (last_place_in (n + 1) next place)) count
      ∙ ap (λ links. option_and_then (slice_get f.declarations) (last_place_in (length f.declarations + 1) links place)) e
      ∙ last-is (length f.declarations + 1) place d there

  pub are-lasts : (next lasts : List (Option ℕ)) → next ≡ map (aliased_at f) f.declarations
      → lasts ≡ map (last_place_in (length next + 1) next) (range_with_len 0 (length next))
      → All (λ last. IfSome last (λ p. p < length next)) lasts → AreLasts f lasts
  are-lasts next lasts e h within =
      let count : length next ≡ length f.declarations = ap length e ∙ length-map f.declarations (aliased_at f) in
      record {
        count = ap length h ∙ length-map (range_with_len 0 (length next)) (last_place_in (length next + 1) next) ∙ length-range_with_len 0 (length next) ∙ count;
        lasts_are = lasts-at next lasts e h;
        within = subst (λ n. All (λ last. IfSome last (λ p. p < n)) lasts) count within;
      }

any-mapped : (name : List ℕ) (members : List MemberForm)
    → is_among (map (λ member. member.name) members) name ≡ list_any (λ member. bytes_eq name member.name) members
any-mapped name [] = refl
any-mapped name (member ∷ members) = ap (λ rest. bytes_eq name member.name || rest) (any-mapped name members)

in-table : (b : Bool) (name : List ℕ) (members : List MemberForm)
    → is_some (place_of name (if b then each_name (map (λ member. member.name) members) else [])) ≡ (b && list_any (λ member. bytes_eq name member.name) members)
in-table false name members = refl
in-table true name members =
    place-among name (each_name (map (λ member. member.name) members))
    ∙ ap (λ names. is_among names name) (sym (map-id (each_name (map (λ member. member.name) members))))
    ∙ among-firsts (λ (one : List ℕ). one) (map (λ member. member.name) members) name
    ∙ ap (λ names. is_among names name) (map-id (map (λ member. member.name) members))
    ∙ any-mapped name members

-- the table tells which members there are
pub has-member : (name : List ℕ) (d : Declaration) → is_some (place_of name (members_table d)) ≡ has_member name d
has-member name d = in-table (is_struct_kind d.kind && is_none d.alias) name d.members

struct-at : (b : Bool) (g : Declaration → Bool) (last : Option Declaration)
    → (b && option_map_or g last false) ≡ option_map_or g (if b then last else None) false
struct-at true g last = refl
struct-at false g last = refl

struct-of : (f : Forms) (g : Declaration → Bool) (o : Option Declaration)
    → option_map_or (λ d. is_struct_kind d.kind && option_map_or g (last_declared f d) false) o false ≡ option_map_or g (option_and_then (λ d. if is_struct_kind d.kind then last_declared f d else None) o) false
struct-of f g None = refl
struct-of f g (Some d) = struct-at (is_struct_kind d.kind) g (last_declared f d)

-- a member is looked for in the last struct of the chain
pub member-of-last : (f : Forms) (owner : List ℕ) (g : Declaration → Bool)
    → option_map_or (λ d. is_struct_kind d.kind && option_map_or g (last_declared f d) false) (declaration_of f owner) false ≡ option_map_or g (last_struct_of f owner) false
member-of-last f owner g = struct-of f g (declaration_of f owner)

pub next-within : (f : Forms) (next : List (Option ℕ)) → next ≡ map (aliased_at f) f.declarations
    → All (λ place. IfSome place (λ p. p < length next)) next
next-within f next e =
    let count : length next ≡ length f.declarations = ap length e ∙ length-map f.declarations (aliased_at f) in
    subst (λ n. All (λ place. IfSome place (λ p. p < n)) next) (sym count)
    (subst (λ links. All (λ place. IfSome place (λ p. p < length f.declarations)) links) (sym e) (all-within f))

flat-cases : (lasts : List (Option ℕ)) (at n : ℕ) → All (λ last. IfSome last (λ p. p < n)) lasts
    → (at < length lasts) ⊎ (length lasts ≤ at) → IfSome (option_flatten (slice_get lasts at)) (λ p. p < n)
flat-cases lasts at n h (inl within) = subst (λ found. IfSome (option_flatten found) (λ p. p < n)) (sym (slice_get-get_or lasts at None within)) (All-get_or (λ last. IfSome last (λ p. p < n)) lasts at None within h)
flat-cases lasts at n h (inr past) = subst (λ found. IfSome (option_flatten found) (λ p. p < n)) (sym (slice_get_past lasts at past)) tt

module _ (f : Forms) (lasts : List (Option ℕ)) (owner : List ℕ) (at : ℕ) (result : Option ℕ) (are : AreLasts f lasts) (found : position (λ d. bytes_eq owner d.name) f.declarations ≡ Some at) (is : (d : Declaration) → slice_get f.declarations at ≡ Some d → result ≡ (if is_struct_kind d.kind then option_flatten (slice_get lasts at) else None)) where
  there : declaration_of f owner ≡ slice_get f.declarations at
  there = sym (declared-there f owner) ∙ ap (option_and_then (slice_get f.declarations)) found

  pub found-within : at < length f.declarations
  found-within = subst (λ place. IfSome place (λ i. i < length f.declarations)) found (position-within (λ (d : Declaration). bytes_eq owner d.name) f.declarations)

  last-at : (b : Bool) (o : Option ℕ) (last : Option Declaration) → option_and_then (slice_get f.declarations) o ≡ last
      → option_and_then (slice_get f.declarations) (if b then o else None) ≡ (if b then last else None)
  last-at true o last h = h
  last-at false o last h = refl

  bound-at : (b : Bool) (o : Option ℕ) → IfSome o (λ p. p < length f.declarations)
      → IfSome (if b then o else None) (λ p. p < length f.declarations)
  bound-at true o h = h
  bound-at false o h = tt

  last-of : (d : Declaration) → slice_get f.declarations at ≡ Some d
      → option_and_then (slice_get f.declarations) result ≡ last_struct_of f owner
  last-of d h =
      ap (option_and_then (slice_get f.declarations)) (is d h)
      ∙ last-at (is_struct_kind d.kind) (option_flatten (slice_get lasts at)) (last_declared f d) (are.lasts_are at d h)
      ∙ sym (ap (option_and_then (λ (one : Declaration). if is_struct_kind one.kind then last_declared f one else None)) (there ∙ h))

  bound-of : (d : Declaration) → slice_get f.declarations at ≡ Some d → IfSome result (λ p. p < length f.declarations)
  bound-of d h =
      subst (λ place. IfSome place (λ p. p < length f.declarations)) (sym (is d h))
      (bound-at (is_struct_kind d.kind) (option_flatten (slice_get lasts at)) (flat-cases lasts at (length f.declarations) are.within (cases_lt at (length lasts))))

  pub last-struct : option_and_then (slice_get f.declarations) result ≡ last_struct_of f owner
  last-struct = elim ((slice_get_cases f.declarations at).1) [ inl p ↦ last-of p.0 p.2 | inr q ↦ (let h = found-within in let k = q.0 in absurd (omega arith)) ]

  pub last-within : IfSome result (λ p. p < length f.declarations)
  last-within = elim ((slice_get_cases f.declarations at).1) [ inl p ↦ bound-of p.0 p.2 | inr q ↦ (let h = found-within in let k = q.0 in absurd (omega arith)) ]

-- no struct has the name
pub no-struct : (f : Forms) (owner : List ℕ) → position (λ d. bytes_eq owner d.name) f.declarations ≡ None → None ≡ last_struct_of f owner
no-struct f owner e =
    sym (ap (option_and_then (λ (one : Declaration). if is_struct_kind one.kind then last_declared f one else None))
    (sym (declared-there f owner) ∙ ap (option_and_then (slice_get f.declarations)) e))

module _ (f : Forms) (name : List ℕ) (members : List (List (List ℕ))) (at : ℕ) (table : List (List ℕ)) where
  bit-of : (d : Declaration) → at < length f.declarations → get_or f.declarations at d ≡ d
      → slice_get f.declarations at ≡ Some d → members ≡ map members_table f.declarations
      → slice_get f.declarations at ≡ last_struct_of f (owner_in name) → table ≡ get_or members at table
      → is_member_name name ≡ true → is_some (place_of (member_in name) table) ≡ is_bit f name
  bit-of d within same h m last t named =
      ap (λ all. is_some (place_of (member_in name) all))
      (t ∙ ap (λ all. get_or all at table) m ∙ get_or-map members_table f.declarations at d table within ∙ ap members_table same)
      ∙ has-member (member_in name) d
      ∙ sym (ap (λ o. option_map_or (has_member (member_in name)) o false) (sym last ∙ h))
      ∙ sym (member-of-last f (owner_in name) (has_member (member_in name)))
      ∙ sym (ap (λ b. b && option_map_or (λ (one : Declaration). is_struct_kind one.kind && option_map_or (has_member (member_in name)) (last_declared f one) false) (declaration_of f (owner_in name)) false) named)

  pub bit-some : at < length f.declarations → members ≡ map members_table f.declarations
      → slice_get f.declarations at ≡ last_struct_of f (owner_in name) → table ≡ get_or members at table
      → is_member_name name ≡ true → is_some (place_of (member_in name) table) ≡ is_bit f name
  bit-some within m last t named =
      elim ((slice_get_cases f.declarations at).1) [ inl p ↦ bit-of p.0 within p.3 p.2 m last t named | inr q ↦ (let k = q.0 in absurd (omega arith)) ]
