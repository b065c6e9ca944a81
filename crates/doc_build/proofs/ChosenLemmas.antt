-- Which names a choice sets.
use Rattle.std.proofs.Common.{◌≡◌, ◌∙◌, refl, sym, ap, ℕ, zero, suc, ◌+◌, Bool, true, false, ◌||◌, List, [], ◌∷◌, ◌++◌, length, map, take, ◌<◌, Some, slice_get, get_or, slice_index_or, arith}
use Rattle.std.proofs.lemmas.List.{map_push, take_more}
use Rattle.std.specs.Str.{bytes_eq}
use Rattle.std.specs.Cmp.Lexicographic.{bytes_decides}
use Rattle.std.proofs.Math.Bool.{or-false}
use Rattle.std.proofs.lemmas.Bool.{false_from_ne_true, or_left, or_parts}
use Rattle.std.proofs.lemmas.List.Folds.{list_any-append, Any-from_list_any}
use Rattle.std.proofs.lemmas.Option.{slice_get-get_or, slice_get_within, get_or_from_slice_get, same_Some}
use Rattle.vkb_formula.specs.Names.{AreDifferent}
use Rattle.doc_tree.specs.Flat.{is_among}
use Rattle.doc_build.specs.Choices.{Choice, chosen_of}
use Rattle.doc_build.specs.Keeping.{OptionsAreSet, TellsNames}
use Rattle.doc_build.specs.Names.{is_on}
use Rattle.doc_tree.specs.declared.Document.{Document}

same_bytes : (a b : List ℕ) → bytes_eq a b ≡ true → a ≡ b
same_bytes a b h = (bytes_decides a b).0 h

-- a name that is among names stands at a place
held-from_is_among : (names : List (List ℕ)) (name : List ℕ) → is_among names name ≡ true → (place : ℕ) × (slice_get names place ≡ Some name)
held-from_is_among names name h =
    let found = Any-from_list_any (bytes_eq name) names h in
    (found.0, slice_get-get_or names found.0 found.1 found.2 ∙ ap Some (found.3 ∙ sym (same_bytes name found.1 found.4)))

-- a name that stands at no place isn't among the names
pub is_among-absent : (names : List (List ℕ)) (name : List ℕ) → ((place : ℕ) → slice_get names place ≡ Some name → ⊥) → is_among names name ≡ false
is_among-absent names name none = false_from_ne_true (is_among names name) (λ h. let found = held-from_is_among names name h in none found.0 found.1)

-- what isn't an option isn't chosen
not_chosen : (options : List (List ℕ)) (choice : Choice) (name : List ℕ) → is_among options name ≡ false → is_among (chosen_of options choice) name ≡ false
not_chosen [] choice name h = refl
not_chosen (option ∷ options) [] name h = refl
not_chosen (option ∷ options) (true ∷ choice) name h =
    let parts = or_parts (bytes_eq name option) (is_among options name) h in
    ap (λ b. b || is_among (chosen_of options choice) name) parts.0 ∙ not_chosen options choice name parts.1
not_chosen (option ∷ options) (false ∷ choice) name h =
    not_chosen options choice name (or_parts (bytes_eq name option) (is_among options name) h).1

rest-different : (option : List ℕ) (options : List (List ℕ)) → AreDifferent (option ∷ options) → AreDifferent options
rest-different option options h i j name at_i at_j = let same = h (suc i) (suc j) name at_i at_j in omega arith

-- an option is chosen where the choice says so
chosen-at : (options : List (List ℕ)) (choice : Choice) (name : List ℕ) (option : ℕ) → AreDifferent options → slice_get options option ≡ Some name
    → is_among (chosen_of options choice) name ≡ slice_index_or choice option false
chosen-at [] choice name option different held = absurd (cc)
chosen-at (first ∷ options) [] name option different held = refl
chosen-at (first ∷ options) (true ∷ choice) name zero different held =
    or_left (bytes_eq name first) (is_among (chosen_of options choice) name) ((bytes_decides name first).1 (sym (same_Some first name held)))
chosen-at (first ∷ options) (false ∷ choice) name zero different held =
    not_chosen options choice name (is_among-absent options name (λ place at. let same = different 0 (suc place) name held at in omega arith))
chosen-at (first ∷ options) (true ∷ choice) name (suc option) different held =
    let apart : bytes_eq name first ≡ false = false_from_ne_true (bytes_eq name first) (λ is. let same = different 0 (suc option) name (ap Some (sym (same_bytes name first is))) held in omega arith) in
    ap (λ b. b || is_among (chosen_of options choice) name) apart ∙ chosen-at options choice name option (rest-different first options different) held
chosen-at (first ∷ options) (false ∷ choice) name (suc option) different held =
    chosen-at options choice name option (rest-different first options different) held

-- a name is set where it always is or is chosen
both : (always options : List (List ℕ)) (choice : Choice) (name : List ℕ) → is_among (always ++ chosen_of options choice) name ≡ (is_among always name || is_among (chosen_of options choice) name)
both always options choice name = list_any-append (bytes_eq name) always (chosen_of options choice)

pub options-set : OptionsAreSet
options-set = record {
  option = λ always options choice name place different held.
      both always options choice name ∙ ap (λ (b : Bool). is_among always name || b) (chosen-at options choice name place different held);
  other = λ always options choice name absent.
      both always options choice name ∙ ap (λ (b : Bool). is_among always name || b) (not_chosen options choice name absent) ∙ or-false (is_among always name);
}

-- one name more is told of
pub set-more : (set names : List (List ℕ)) (place : ℕ) (name : List ℕ) → slice_get names place ≡ Some name → (told now : List Bool) (value : Bool)
    → told ≡ map (is_among set) (take place names) → now ≡ told ++ value ∷ [] → value ≡ is_among set name → now ≡ map (is_among set) (take (place + 1) names)
set-more set names place name held told now value was pushed is =
    let next : take (place + 1) names ≡ take place names ++ name ∷ [] =
    take_more names place [] (slice_get_within names place name held) ∙ ap (λ n. take place names ++ n ∷ []) (get_or_from_slice_get names place name [] held) in
    pushed ∙ ap (λ (bs : List Bool). bs ++ value ∷ []) was ∙ ap (λ (b : Bool). map (is_among set) (take place names) ++ b ∷ []) is
    ∙ sym (ap (map (is_among set)) next ∙ map_push (is_among set) (take place names) name)

-- names that are always set, told in another order
pub set-alike : (fixed always options : List (List ℕ)) (choice : Choice) → ((name : List ℕ) → is_among fixed name ≡ is_among always name) → (names : List (List ℕ))
    → map (is_among (fixed ++ chosen_of options choice)) names ≡ map (λ name. is_among (always ++ chosen_of options choice) name) names
set-alike fixed always options choice same [] = refl
set-alike fixed always options choice same (name ∷ names) =
    ap (λ (b : Bool). b ∷ map (is_among (fixed ++ chosen_of options choice)) names)
    (both fixed options choice name ∙ ap (λ (b : Bool). b || is_among (chosen_of options choice) name) (same name) ∙ sym (both always options choice name))
    ∙ ap (λ (bs : List Bool). is_among (always ++ chosen_of options choice) name ∷ bs) (set-alike fixed always options choice same names)

-- a name that always is set
pub set-fixed : (fixed options : List (List ℕ)) (choice : Choice) (name : List ℕ) → is_among fixed name ≡ true → is_among (fixed ++ chosen_of options choice) name ≡ true
set-fixed fixed options choice name is = both fixed options choice name ∙ or_left (is_among fixed name) (is_among (chosen_of options choice) name) is

-- and another one
pub set-option : (fixed options : List (List ℕ)) (choice : Choice) (name : List ℕ) (place : ℕ) → AreDifferent options → is_among fixed name ≡ false → slice_get options place ≡ Some name
    → is_among (fixed ++ chosen_of options choice) name ≡ slice_index_or choice place false
set-option fixed options choice name place different isnt held =
    options-set.option fixed options choice name place different held ∙ ap (λ (b : Bool). b || slice_index_or choice place false) isnt

pub set-none : (fixed options : List (List ℕ)) (choice : Choice) (name : List ℕ) → is_among fixed name ≡ false → is_among options name ≡ false → is_among (fixed ++ chosen_of options choice) name ≡ false
set-none fixed options choice name isnt absent = options-set.other fixed options choice name absent ∙ isnt

map-at : {X Y : Type 0} (f : X → Y) (xs : List X) (k : ℕ) (x : X) (y : Y) → k < length xs → get_or (map f xs) k y ≡ f (get_or xs k x)
map-at f [] k x y within = absurd (omega arith)
map-at f (z ∷ xs) zero x y within = refl
map-at f (z ∷ xs) (suc k) x y within = map-at f xs k x y (omega arith)

-- values of all names tell of each
pub names-told : (values : List Bool) (d : Document) (names : List (List ℕ)) → values ≡ map (λ name. is_among names name) d.names → TellsNames names d (is_on values)
names-told values d names are = λ place within.
    ap (λ (bs : List Bool). get_or bs place false) are ∙ map-at (λ name. is_among names name) d.names place [] false within
