-- What is found and put in a list of files, by the place of the name.
use Rattle.std.proofs.Common.{◌≡◌, ◌≢◌, ◌↔◌, ℕ, zero, suc, ◌<◌, ◌≤◌, Bool, true, false, cond, not, ◌||◌, ◌&&◌, leb, MatchBool, ◌+◌, ◌-◌, take, drop, Result, Ok, Err, List, [], ◌∷◌, length, get_or, set, Option, Some, None, is_some, IsSome, IsTrue, Decides, Vec, refl, ap, ◌∙◌, sym, arith}
use Rattle.std.specs.List.{list_any, position, AllByRecursion, AllPairs, IsDistinct}
use Rattle.std.specs.Map.{keys_of}
use Rattle.std.specs.Str.{bytes_eq}
use Rattle.std.specs.String.{string_bytes}
use Rattle.std.specs.declared.alloc.Global.{Global}
use Rattle.std.specs.declared.string.String.{String}
use Rattle.std.proofs.lemmas.Bool.Decides.{nat_tests, Decides-and}
use Rattle.std.proofs.lemmas.Grind.{common_steps}
use Rattle.std.proofs.lemmas.List.{at_drop_more}
use Rattle.std.proofs.lemmas.List.Quantifiers.{position-Some}
use Rattle.std.proofs.lemmas.List.Recursion.{found_at, found_nowhere}
use Rattle.std.proofs.lemmas.Cmp.{nat_list_eq_equiv}
use Rattle.std.proofs.lemmas.Map.Made.{AllPairs-from_IsDistinct, IsDistinct-from_AllPairs}
use Rattle.std.proofs.lemmas.Map.{keys-set_value, lookup-set_value}
use Rattle.std.proofs.lemmas.Slice.Eq.{bytes_eq-Decides}
use Rattle.std.proofs.lemmas.List.Sums.{fails_before_first}
use Rattle.std.specs.List.{position_or_len}
use Rattle.vkb_outside.specs.Held.{held, file_at, with_file, names_differ, IsAnswer}
use Rattle.vkb_outside.specs.Shelf.{ChangesAtMost}
use Rattle.vkb_outside.specs.declared.shelf.ReadTrouble.{ReadTrouble}
use Rattle.vkb_outside.specs.declared.shelf.ReadTrouble.TheVariants.{TooLong, Memory}

-- a name and its bytes
abbrev pub File : Type 0
File = String Global × Vec ℕ Global

-- whether a file has this name
abbrev pub is_named : List ℕ → File → Bool
is_named name file = bytes_eq name (string_bytes file.0)

-- what is found where the name has a place
pub file_at-found : (name : List ℕ) (files : List File) (i : ℕ) (file : File) → Some i ≡ position (is_named name) files → file ≡ get_or files i file → file_at (held files) name ≡ Some file.1.items
file_at-found name files i file h e =
    let p = position-Some (is_named name) files i file (sym h) in
    found_at (λ fs. file_at (held fs) name) (is_named name) (λ f. Some f.1.items) None refl (λ _ _. refl) files i file p.0 p.2 p.1 ∙ ap (λ f. Some f.1.items) (sym e)

none_found : {X : Type 0} (p : X → Bool) (xs : List X) → None ≡ position p xs → length xs ≤ position_or_len p xs
none_found p xs h = grind (arith, nat_tests)

nowhere : (name : List ℕ) (files : List File) → None ≡ position (is_named name) files → file_at (held files) name ≡ None
nowhere name [] h = refl
nowhere name (f ∷ fs) h =
    let none : length (f ∷ fs) ≤ position_or_len (is_named name) (f ∷ fs) = none_found (is_named name) (f ∷ fs) h in
    found_nowhere (λ fs. file_at (held fs) name) (is_named name) (λ f. Some f.1.items) None refl (λ _ _. refl) (f ∷ fs) f (λ k lt. fails_before_first (is_named name) (f ∷ fs) k f (omega arith))

-- nothing is found where it has none
pub file_at-missing : (name : List ℕ) (files : List File) (place : Option ℕ) → place ≡ position (is_named name) files → ((i : ℕ) → place ≡ Some i → ⊥) → file_at (held files) name ≡ None
file_at-missing name files None h none = nowhere name files h
file_at-missing name files (Some i) h none = absurd (none i refl)

-- bytes that are put at the first place of a name
with_file-at : (name : List ℕ) (files : List File) (i : ℕ) (d : File) (bytes : Vec ℕ Global) → i < length files → is_named name (get_or files i d) ≡ true → ((k : ℕ) → k < i → is_named name (get_or files k d) ≡ false) → held (set files i ((get_or files i d).0, bytes)) ≡ with_file (held files) name bytes.items
with_file-at name [] i d bytes lt at before = absurd (omega arith)
with_file-at name (f ∷ fs) zero d bytes lt at before = rw at
with_file-at name (f ∷ fs) (suc i) d bytes lt at before =
    rw (before zero (omega arith)) (ap (λ t. (string_bytes f.0, f.1.items) ∷ t) (with_file-at name fs i d bytes (omega arith) at (λ k h. before (suc k) (omega arith))))

pub with_file-found : (name : List ℕ) (files : List File) (i : ℕ) (d : File) (bytes : Vec ℕ Global) → Some i ≡ position (is_named name) files → held (set files i ((get_or files i d).0, bytes)) ≡ with_file (held files) name bytes.items
with_file-found name files i d bytes h =
    let p = position-Some (is_named name) files i d (sym h) in with_file-at name files i d bytes p.0 p.1 p.2

-- a name is among those of the files exactly where it is found
pub list_any-names : (name : List ℕ) (files : List File) → list_any (bytes_eq name) (keys_of (held files)) ≡ is_some (file_at (held files) name)
list_any-names name [] = refl
list_any-names name (f ∷ fs) =
    elim (is_named name f) as (λ b. (b || list_any (bytes_eq name) (keys_of (held fs))) ≡ is_some (cond b (Some f.1.items) (file_at (held fs) name))) [ true ↦ refl | false ↦ list_any-names name fs ]

is_some-file_at : (name : List ℕ) (files : List File) (place : Option ℕ) → place ≡ position (is_named name) files → is_some (file_at (held files) name) ≡ is_some place
is_some-file_at name files None h = ap is_some (nowhere name files h)
is_some-file_at name [] (Some i) h = cc
is_some-file_at name (f ∷ fs) (Some i) h =
    let p = position-Some (is_named name) (f ∷ fs) i f (sym h) in
    ap is_some (found_at (λ fs. file_at (held fs) name) (is_named name) (λ f. Some f.1.items) None refl (λ _ _. refl) (f ∷ fs) i f p.0 p.2 p.1)

-- a slice from a place on
rest : (files : List File) (i : ℕ) → take (length files - i) (drop i files) ≡ drop i files
rest files i = grind (arith, common_steps)

-- at a file, the names differ from there on where its name isn't found later, and they differ later
pub names_differ-more : (files : List File) (i : ℕ) (file : File) (later : Option ℕ) → i < length files → file ≡ get_or files i file → later ≡ position (is_named (string_bytes file.0)) (take (length files - (i + 1)) (drop (i + 1) files)) → names_differ (held (drop i files)) ≡ (not (is_some later) && names_differ (held (drop (i + 1) files)))
names_differ-more files i file later lt e h =
    at_drop_more (λ fs. names_differ (held fs)) files i file lt ∙ ap (λ f. names_differ (held (f ∷ drop (i + 1) files))) (sym e) ∙ ap (λ b. not b && names_differ (held (drop (i + 1) files))) (list_any-names (string_bytes file.0) (drop (i + 1) files) ∙ is_some-file_at (string_bytes file.0) (drop (i + 1) files) later (h ∙ ap (λ fs. position (is_named (string_bytes file.0)) fs) (rest files (i + 1))))

either : (b : Bool) (P Q : Type 0) → b ≡ true → P → MatchBool b P Q
either true P Q e p = p
either false P Q e p = cc

or_else : (b : Bool) (P Q : Type 0) → b ≡ false → Q → MatchBool b P Q
or_else true P Q e q = cc
or_else false P Q e q = q

pub IsAnswer-copy : (bytes : List ℕ) (most : ℕ) (copy : Vec ℕ Global) → length bytes ≤ most → copy.items ≡ bytes → IsAnswer (Some bytes) most (Ok (Some copy))
IsAnswer-copy bytes most copy within same =
    either (leb (length bytes) most) (copy.items ≡ bytes) (◌≡◌ {A = Result (Option (Vec ℕ Global)) ReadTrouble} (Ok (Some copy)) (Err TooLong)) (grind (arith, nat_tests)) same

pub IsAnswer-memory : (bytes : List ℕ) (most : ℕ) → length bytes ≤ most → IsAnswer (Some bytes) most (Err Memory)
IsAnswer-memory bytes most within =
    either (leb (length bytes) most) (Unit {0}) (◌≡◌ {A = Result (Option (Vec ℕ Global)) ReadTrouble} (Err Memory) (Err TooLong)) (grind (arith, nat_tests)) tt

pub IsAnswer-long : (bytes : List ℕ) (most : ℕ) → most < length bytes → IsAnswer (Some bytes) most (Err TooLong)
IsAnswer-long bytes most long =
    or_else (leb (length bytes) most) ⊥ (◌≡◌ {A = Result (Option (Vec ℕ Global)) ReadTrouble} (Err TooLong) (Err TooLong)) (grind (arith, nat_tests)) refl

names_differ-with_file : (files : List (List ℕ × List ℕ)) (name bytes : List ℕ) → names_differ (with_file files name bytes) ≡ names_differ files
names_differ-with_file [] name bytes = refl
names_differ-with_file (file ∷ files) name bytes =
    elim (bytes_eq name file.0) as (λ b. names_differ (cond b ((file.0, bytes) ∷ files) (file ∷ with_file files name bytes)) ≡ names_differ (file ∷ files)) [
      | true ↦ refl
      | false ↦ rw (keys-set_value (bytes_eq name) files bytes, names_differ-with_file files name bytes) refl
    ]

differs : (name other : List ℕ) → other ≢ name → bytes_eq name other ≡ false
differs name other apart = differs_by (bytes_eq name other) (bytes_eq-Decides name other)
  where
    differs_by : (b : Bool) → Decides b (name ≡ other) → b ≡ false
    differs_by true d = absurd (apart (sym (d.0 refl)))
    differs_by false d = refl

-- what a put of a name that is held leaves
file_at-with_file : (files : List (List ℕ × List ℕ)) (name bytes other : List ℕ) → IsSome (file_at files name) → file_at (with_file files name bytes) other ≡ cond (bytes_eq name other) (Some bytes) (file_at files other)
file_at-with_file files name bytes other some =
    lookup-set_value nat_list_eq_equiv (bytes_eq name) (λ x y e. nat_list_eq_equiv.congr name x y e) other bytes files some

Puts-with_file : (files : List (List ℕ × List ℕ)) (name bytes : List ℕ) → IsSome (file_at files name) → ChangesAtMost name (λ n. file_at files n) (λ n. file_at (with_file files name bytes) n) × (file_at (with_file files name bytes) name ≡ Some bytes)
Puts-with_file files name bytes some =
    let same : file_at (with_file files name bytes) name ≡ Some bytes = file_at-with_file files name bytes name some ∙ ap (λ b. cond b (Some bytes) (file_at files name)) (nat_list_eq_equiv.refl name) in (
      record {
        others = λ other apart. file_at-with_file files name bytes other some ∙ ap (λ b. cond b (Some bytes) (file_at files other)) (differs name other apart);
        held = rw same refl;
      },
      same,
    )

pub names_differ-put : (old new : List (List ℕ × List ℕ)) (name bytes : List ℕ) → new ≡ with_file old name bytes → IsTrue (names_differ old) → IsTrue (names_differ new)
names_differ-put old new name bytes e differ = rw (e, names_differ-with_file old name bytes) differ

pub Puts-put : (old new : List (List ℕ × List ℕ)) (name bytes : List ℕ) → new ≡ with_file old name bytes → IsSome (file_at old name) → ChangesAtMost name (λ n. file_at old n) (λ n. file_at new n) × (file_at new name ≡ Some bytes)
Puts-put old new name bytes e some = rw e (Puts-with_file old name bytes some)

none_passes : {X : Type 0} (p : X → Bool) (xs : List X) → Decides (not (list_any p xs)) (AllByRecursion (λ x. p x ≡ false) xs)
none_passes p [] = (λ _. tt, λ _. refl)
none_passes p (x ∷ xs) =
    elim (p x) as (λ b. Decides (not (b || list_any p xs)) ((b ≡ false) × AllByRecursion (λ y. p y ≡ false) xs)) [
      | true ↦ (λ (e : false ≡ true). cc, λ h. let e : true ≡ false = h.0 in cc)
      | false ↦ (λ e. (refl, (none_passes p xs).0 e), λ h. (none_passes p xs).1 h.1)
    ]

distinct : (files : List (List ℕ × List ℕ)) → Decides (names_differ files) (IsDistinct bytes_eq (keys_of files))
unfolding IsDistinct
distinct [] = (λ _. tt, λ _. refl)
distinct (file ∷ files) =
    Decides-and (not (list_any (bytes_eq file.0) (keys_of files))) (names_differ files) (none_passes (bytes_eq file.0) (keys_of files)) (distinct files)

-- each name differs from all later ones
pub names_differ-meaning : (files : List (List ℕ × List ℕ)) (answer : Bool) → answer ≡ names_differ files → IsTrue answer ↔ AllPairs (λ a b. a ≢ b) (keys_of files)
names_differ-meaning files answer e =
    (λ yes. AllPairs-from_IsDistinct bytes_eq-Decides (keys_of files) ((distinct files).0 (sym e ∙ yes)), λ apart. e ∙ (distinct files).1 (IsDistinct-from_AllPairs bytes_eq-Decides (keys_of files) apart))
