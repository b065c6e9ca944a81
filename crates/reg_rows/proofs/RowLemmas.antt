-- The rows of declared names and their values, one row of the forms after another.
use Rattle.std.proofs.Common.{◌≡◌, ◌≢◌, ℕ, ℤ, pos, ◌+◌, ◌<◌, Bool, true, false, not, cond, eqb, List, [], ◌∷◌, ◌++◌, length, map, take, set, get_or, Option, Some, None, is_some, option_map, slice_get, refl, sym, ap, subst, ◌∙◌, arith, append-nil}
use Rattle.std.specs.List.{position}
use Rattle.std.specs.Option.{IfSome, option_and_then, option_flatten, option_map_or, unwrap_or}
use Rattle.std.specs.Str.{bytes_eq}
use Rattle.std.proofs.lemmas.Bool.{eqb-true, not-false, not-true}
use Rattle.std.proofs.lemmas.List.{get_or-set_other, length-map, length-set, map-append, map-set, take_more}
use Rattle.std.proofs.lemmas.Option.{slice_get-map, slice_get_read, slice_get_within}
use Rattle.vkb_formula.specs.Names.{place_of}
use Rattle.reg_registry.specs.declared.registry.Enumerant.{Enumerant}
use Rattle.reg_registry.specs.declared.registry.Row.{Row}
use Rattle.reg_forms.specs.Declarations.{is_enum_row}
use Rattle.reg_forms.specs.declared.forms.Declaration.{Declaration}
use Rattle.reg_forms.specs.declared.forms.EnumForm.{EnumForm}
use Rattle.reg_forms.specs.declared.forms.Forms.{Forms}
use Rattle.reg_forms.specs.declared.forms.Given.{Given}
use Rattle.reg_forms.specs.declared.forms.Given.TheVariants as given
use Rattle.reg_tables.specs.Lists.{firsts, is_among}
use Rattle.reg_tables.specs.Tables.{declaration_of}
use Rattle.reg_tables.specs.Values.{AreValues, alias_in, last_of, number_of, value_of}
use Rattle.reg_rows.specs.Listing.{AreByType, enum_place}
use Rattle.reg_rows.specs.Rows.{declared_in, row_of}
use Rattle.reg_rows.proofs.FirstRowsLemmas.{first-at, firsts-push, firsts-there}
use Rattle.reg_rows.proofs.ListingLemmas.{within_by}
use Rattle.reg_rows.proofs.PlaceLemmas.{place_of-within, position-names}

-- what is found at a place is that place
pub at-is : (o : Option ℕ) (p : ℕ) → option_map_or (λ at. eqb at p) o false ≡ true → o ≡ Some p
at-is None p e = absurd (cc)
at-is (Some q) p e = ap Some (eqb-true q p e)

-- a thing found at its own place has no name that stood before
pub among-is : {X : Type 0} (name_of : X → List ℕ) (things : List X) (k : ℕ) (thing : X) → slice_get things k ≡ Some thing → (found : Bool) → option_map_or (λ at. eqb at k) (position (λ other. bytes_eq (name_of thing) (name_of other)) things) false ≡ found → not (is_among (map name_of (take k things)) (name_of thing)) ≡ found
among-is name_of things k thing there found e =
    sym (first-at name_of things k thing there) ∙ sym (ap (λ (o : Option ℕ). option_map_or (λ at. eqb at k) o false) (position-names name_of (name_of thing) things)) ∙ e

flattened : {X Y : Type 0} (g : X → Option Y) (o : Option X) → option_flatten (option_map g o) ≡ option_and_then g o
flattened g None = refl
flattened g (Some x) = refl

module _ (f : Forms) (numbers : List (Option ℤ)) (lasts : List (Option ℕ)) (are : AreValues f numbers lasts) (place : ℕ) (e : EnumForm) (there : slice_get f.enumerants place ≡ Some e) where
  pub in-lasts : place < length lasts
  in-lasts = omega (arith, are.lasts_count, slice_get_within f.enumerants place e there)

  -- the last row of the chain of aliases
  pub last-found : (o : Option ℕ) → o ≡ get_or lasts place o → last_of f e ≡ option_and_then (slice_get f.enumerants) o
  last-found o here =
      sym (are.lasts_are place e there)
      ∙ ap (λ (o : Option (Option ℕ)). option_and_then (slice_get f.enumerants) (option_flatten o)) (slice_get_read lasts (length lasts) place o refl in-lasts here)

  pub last-within : (o : Option ℕ) → o ≡ get_or lasts place o → (last : ℕ) → o ≡ Some last → last < length f.enumerants
  last-within o here last is =
      subst (λ (o : Option ℕ). IfSome o (λ p. p < length f.enumerants)) (sym here ∙ is) (are.within place o in-lasts)

  number_there : (o : Option ℕ) → option_and_then (λ last. option_flatten (slice_get numbers last)) o ≡ option_and_then (number_of f) (option_and_then (slice_get f.enumerants) o)
  number_there None = refl
  number_there (Some last) =
      ap (λ (ns : List (Option ℤ)). option_flatten (slice_get ns last)) are.numbers_are ∙ ap option_flatten (slice_get-map (number_of f) f.enumerants last)
      ∙ flattened (number_of f) (slice_get f.enumerants last)

  -- the value at the end of the chain
  pub value-found : (n : ℤ) → n ≡ unwrap_or (option_and_then (λ last. option_flatten (slice_get numbers last)) (option_flatten (slice_get lasts place))) (pos 0) → n ≡ unwrap_or (value_of f e) (pos 0)
  value-found n is =
      is ∙ ap (λ (o : Option ℤ). unwrap_or o (pos 0)) (number_there (option_flatten (slice_get lasts place)) ∙ ap (option_and_then (number_of f)) (are.lasts_are place e there))

-- the end of an alias
pub end-is : (g : Given) (name : List ℕ) → g ≡ given.Alias name → (last known : Option EnumForm) → last ≡ known → option_map (λ l. l.name) known ≡ cond (is_some (alias_in g)) (option_map (λ l. l.name) last) None
end-is g name alias last known is =
    ap (option_map (λ l. l.name)) (sym is) ∙ ap (λ g. cond (is_some (alias_in g)) (option_map (λ l. l.name) last) None) (sym alias)

-- a place whose list is known is there
pub mapped-within : {A B : Type 0} (g : A → B) (xs : List A) (p : ℕ) (y : B) → option_map g (slice_get xs p) ≡ Some y → p < length xs
mapped-within g xs p y e = omega (arith, slice_get_within (map g xs) p y (slice_get-map g xs p ∙ e), length-map xs g)

-- what is read at a place whose list is known
pub mapped-read : {A B : Type 0} (g : A → B) (xs : List A) (p : ℕ) (x : A) (y : B) → option_map g (slice_get xs p) ≡ Some y → x ≡ get_or xs p x → g x ≡ y
mapped-read g xs p x y e here =
    let within = mapped-within g xs p y e in
    let same : Some (g x) ≡ Some y = sym (ap (option_map g) (slice_get_read xs (length xs) p x refl within here)) ∙ e in
    (cc)

enum_by : (o : Option Declaration) (p : Option ℕ) (k n : ℕ) → Some k ≡ option_and_then (λ d. cond (is_enum_row d) p None) o → ((j : ℕ) → p ≡ Some j → j < n) → k < n
enum_by None p k n e h = absurd (cc)
enum_by (Some d) p k n e h = within_by (is_enum_row d) p k n e h

-- the place of an enum type is one of a name
pub enum-within : (f : Forms) (names : List (List ℕ)) (name : List ℕ) (k : ℕ) → Some k ≡ enum_place f names name → k < length names
enum-within f names name k e = enum_by (declaration_of f name) (place_of name names) k (length names) e (place_of-within name names)

added : {Y : Type 0} {X : Type 0} (g : X → Y) (xs : List X) (x : X) (among : Bool) → map g (xs ++ cond among [] (x ∷ [])) ≡ map g xs ++ cond among [] (g x ∷ [])
added g xs x true = map-append g xs []
added g xs x false = map-append g xs (x ∷ [])

-- what is made of the firsts, with one thing more
pub firsts-more : {X Y : Type 0} (name_of : X → List ℕ) (g : X → Y) (things : List X) (i : ℕ) (thing : X) → i < length things → thing ≡ get_or things i thing → (among : Bool) → is_among (map name_of (take i things)) (name_of thing) ≡ among → map g (firsts name_of (take (i + 1) things)) ≡ map g (firsts name_of (take i things)) ++ cond among [] (g thing ∷ [])
firsts-more name_of g things i thing within here among known =
    ap (λ xs. map g (firsts name_of xs)) (take_more things i thing within ∙ ap (λ x. take i things ++ x ∷ []) (sym here))
    ∙ ap (map g) (firsts-push name_of (take i things) thing ∙ ap (λ b. firsts name_of (take i things) ++ cond b [] (thing ∷ [])) known)
    ∙ added g (firsts name_of (take i things)) thing among

-- the lists behind one that was taken out
pub ahead-more : {A : Type 0} (items : A → List Enumerant) (f : Forms) (so_far : List EnumForm) (from : ℕ) (lists : List A) (new : A) → AreByType f from so_far (map items lists) → AreByType f (from + 1) so_far (map items (set lists from new))
ahead-more items f so_far from lists new before = record {
  one_each = length-map (set lists from new) items ∙ length-set lists from new ∙ sym (length-map lists items) ∙ before.one_each;
  each = λ p d behind there.
      let other : p ≢ from = omega arith in
      ap (λ xs. get_or xs p []) (map-set items lists from new) ∙ get_or-set_other (map items lists) from p (items new) [] other ∙ before.each p d (omega arith) there;
}

module _ (f : Forms) (i : ℕ) (d : Declaration) (within : i < length f.declarations) (here : d ≡ get_or f.declarations i d) (o : Option ℕ) (found : o ≡ position (λ other. bytes_eq d.name other.name) f.declarations) where
  there : slice_get f.declarations i ≡ Some d
  there = slice_get_read f.declarations (length f.declarations) i d refl within here

  stood : (first : Bool) → first ≡ option_map_or (λ at. eqb at i) o false → not (is_among (map (λ d. d.name) (take i f.declarations)) d.name) ≡ first
  stood first is =
      among-is (λ d. d.name) f.declarations i d there first (ap (λ (o : Option ℕ). option_map_or (λ at. eqb at i) o false) (sym found) ∙ sym is)

  module _ (rows : List Row) (are : rows ≡ map (row_of f) (firsts (λ d. d.name) (take i f.declarations))) where
    -- the first declaration of a name stands at the place of the next row
    pub next-there : true ≡ option_map_or (λ at. eqb at i) o false → slice_get (declared_in f) (length rows) ≡ Some d
    next-there is =
        ap (slice_get (declared_in f)) (ap length are ∙ length-map (firsts (λ d. d.name) (take i f.declarations)) (row_of f))
        ∙ firsts-there (λ d. d.name) f.declarations i d there (not-true (is_among (map (λ d. d.name) (take i f.declarations)) d.name) (stood true is))

    -- the rows with the next declaration, which is the first of its name, or isn't
    pub rows-more : true ≡ option_map_or (λ at. eqb at i) o false → rows ++ row_of f d ∷ [] ≡ map (row_of f) (firsts (λ d. d.name) (take (i + 1) f.declarations))
    rows-more is =
        ap (λ front. front ++ row_of f d ∷ []) are
        ∙ sym (firsts-more (λ d. d.name) (row_of f) f.declarations i d within here false (not-true (is_among (map (λ d. d.name) (take i f.declarations)) d.name) (stood true is)))

    pub rows-same : false ≡ option_map_or (λ at. eqb at i) o false → rows ≡ map (row_of f) (firsts (λ d. d.name) (take (i + 1) f.declarations))
    rows-same is =
        are ∙ sym (append-nil (map (row_of f) (firsts (λ d. d.name) (take i f.declarations))))
        ∙ sym (firsts-more (λ d. d.name) (row_of f) f.declarations i d within here true (not-false (is_among (map (λ d. d.name) (take i f.declarations)) d.name) (stood false is)))
