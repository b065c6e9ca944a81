-- The parts of a registry put together.
use Rattle.std.proofs.Common.{◌≡◌, ◌<◌, ◌≤◌, ℕ, List, ◌∷◌, All, Option, None, Some, Vec, Global, [], length, map, slice_get, Contains, subst, sym, ap, ◌∙◌, arith, ⊎_elim}
use Rattle.std.specs.Option.{IsSomeAnd, MatchOption}
use Rattle.std.proofs.lemmas.List.{length-map}
use Rattle.std.proofs.lemmas.List.Elements.{All-cons}
use Rattle.std.proofs.lemmas.Option.{slice_get_past}
use Rattle.std.proofs.lemmas.Bool.{cases_lt}
use Rattle.vkb_formula.specs.Names.{most_names}
use Rattle.reg_registry.specs.Naming.{IsCircle, IsNamingCycle, IsOnCircle, LeadBack, Names}
use Rattle.reg_registry.specs.Rows.{id_at}
use Rattle.reg_registry.specs.declared.registry.Block.{Block}
use Rattle.reg_registry.specs.declared.registry.OptionRow.{OptionRow}
use Rattle.reg_registry.specs.declared.registry.Row.{Row}
use Rattle.reg_forms.specs.declared.forms.Forms.{Forms}
use Rattle.reg_tables.specs.Bits.{Readings}
use Rattle.reg_rows.specs.Rows.{block_rows, declared_in, names_in, option_names, option_rows_of, row_of, rows_of}

-- parts that are those of the rows are the rows
pub parts-are : (f : Forms) (readings : Readings) (names : List (List ℕ)) (rows : List Row) (options : List (List ℕ)) (asked : List OptionRow)
    (listed : List Block) (tags : List (List ℕ)) → names ≡ names_in f → rows ≡ map (row_of f) (declared_in f) → options ≡ option_names f readings
    → asked ≡ option_rows_of f readings → listed ≡ block_rows f readings 0 f.blocks → tags ≡ f.tags
    → record { names = names; rows = rows; options = options; option_rows = asked; blocks = listed; tags = tags } ≡ rows_of f readings
parts-are f readings names rows options asked listed tags n r o a l t =
    λ i. record { names = n i; rows = r i; options = o i; option_rows = a i; blocks = l i; tags = t i }

-- no circle was found
pub none-found : (B : Vec ℕ Global → Type 0) (rows now : List Row) (found : Option (Vec ℕ Global)) → now ≡ rows → found ≡ None
    → MatchOption found ((place : ℕ) → IsOnCircle now place → ⊥) B → (place : ℕ) → IsOnCircle rows place → ⊥
none-found B rows now found same none match =
    subst (λ (all : List Row). (place : ℕ) → IsOnCircle all place → ⊥) same
    (subst (λ (o : Option (Vec ℕ Global)). MatchOption o ((place : ℕ) → IsOnCircle now place → ⊥) B) none match)

-- places of a circle among rows
abbrev pub IsFound : List Row → List ℕ → Type 0
IsFound rows places = (first : ℕ) × (others : List ℕ) × (places ≡ first ∷ others) × IsCircle rows first others

-- a circle was found
pub one-found : (A : Type 0) (rows now : List Row) (found : Option (Vec ℕ Global)) (circle : Vec ℕ Global) → now ≡ rows → found ≡ Some circle
    → MatchOption found A (λ places. IsFound now places.items) → IsFound rows circle.items
one-found A rows now found circle same some match =
    subst (λ (all : List Row). IsFound all circle.items) same
    (subst (λ (o : Option (Vec ℕ Global)). MatchOption o A (λ places. IsFound now places.items)) some match)

-- the names at its places are one
pub named-circle : (f : Forms) (readings : Readings) (places : List ℕ) (table names : List (List ℕ)) → table ≡ names_in f
    → IsFound (map (row_of f) (declared_in f)) places → map Some names ≡ map (slice_get table) places → IsNamingCycle (rows_of f readings) names
named-circle f readings places table names are found named = record {
  first = found.0;
  others = found.1;
  is_circle = found.3;
  named = named ∙ ap (λ (t : List (List ℕ)). map (slice_get t) places) are ∙ ap (map (slice_get (names_in f))) found.2;
}

-- what names another is there
named-there : (rows : List Row) (place other : ℕ) → Names rows place other → place < length rows
named-there rows place other names =
    ⊎_elim (λ below. below) (λ past. absurd (subst (λ (o : Option Row). IsSomeAnd o (λ row. Contains row.named (id_at other))) (slice_get_past rows place past) names)) (cases_lt place (length rows))

leads-there : (rows : List Row) (place : ℕ) (others : List ℕ) (first : ℕ) → LeadBack rows place others first → All (λ p. p < length rows) (place ∷ others)
leads-there rows place [] first lead = All-cons (λ p. p < length rows) place [] (named-there rows place first lead) (λ k d none. absurd (omega (arith, none)))
leads-there rows place (next ∷ others) first lead =
    All-cons (λ p. p < length rows) place (next ∷ others) (named-there rows place next lead.0) (leads-there rows next others first lead.1)

-- the places of a circle are those of names
pub found-within : (f : Forms) (places : List ℕ) → IsFound (map (row_of f) (declared_in f)) places → All (λ p. p < length (names_in f)) places
found-within f places found =
    let lengths : length (map (row_of f) (declared_in f)) ≡ length (names_in f) =
    length-map (declared_in f) (row_of f) ∙ sym (length-map (declared_in f) (λ d. d.name)) in
    subst (λ (n : ℕ). All (λ p. p < n) places) lengths
    (subst (λ (ps : List ℕ). All (λ p. p < length (map (row_of f) (declared_in f))) ps) (sym found.2)
    (leads-there (map (row_of f) (declared_in f)) found.0 found.1 found.0 found.3.lead))

-- there are as many rows as names
pub rows-few : (f : Forms) → length (names_in f) ≤ most_names → length (map (row_of f) (declared_in f)) < 4294967296
rows-few f few =
    let rows : length (map (row_of f) (declared_in f)) ≡ length (declared_in f) = length-map (declared_in f) (row_of f) in
    let names : length (names_in f) ≡ length (declared_in f) = length-map (declared_in f) (λ d. d.name) in
    omega (arith, rows, names, few)
