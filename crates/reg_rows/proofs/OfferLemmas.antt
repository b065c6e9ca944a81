-- Options whose name stands before them, by a table of the names so far.
use Rattle.std.proofs.Common.{◌≡◌, ℕ, ◌+◌, Bool, true, false, ◌||◌, nat_eq, List, [], ◌∷◌, ◌++◌, Option, Some, None, length, refl, sym, ap, subst, ◌∙◌, arith, inl, inr, length-append}
use Rattle.std.specs.Prelude.{is_some, option_map}
use Rattle.std.specs.Str.{bytes_eq}
use Rattle.std.specs.Cmp.Lexicographic.{bytes_decides}
use Rattle.std.proofs.lemmas.Bool.{cases_Bool, cond-true, cond-false, eq-eqb, ne_eqb}
use Rattle.std.proofs.lemmas.List.{append_assoc}
use Rattle.std.proofs.Math.Bool.{or_comm, or-false}
use Rattle.std.proofs.lemmas.List.Folds.{list_any-append}
use Rattle.vkb_formula.specs.Names.{place_of, with_name}
use Rattle.reg_forms.specs.declared.forms.Fault.{Fault}
use Rattle.reg_forms.specs.declared.forms.OptionForm.{OptionForm}
use Rattle.reg_forms.specs.declared.forms.RowCode.TheVariants.{DuplicateName}
use Rattle.reg_tables.specs.Lists.{is_among}
use Rattle.reg_tables.specs.Wrong.{fault_if}
use Rattle.reg_rows.specs.Faults.{offered_twice}

-- a name is among some exactly if their table has a place for it
pub among-place : (names : List (List ℕ)) (name : List ℕ) → is_some (place_of name names) ≡ is_among names name
among-place [] name = refl
among-place (first ∷ names) name =
    elim (cases_Bool (bytes_eq name first)) [
      | inl same ↦ ap is_some (cond-true (bytes_eq name first) _ _ same) ∙ sym (ap (λ b. b || is_among names name) same)
      | inr apart ↦
          ap is_some (cond-false (bytes_eq name first) _ _ apart) ∙ mapped (place_of name names) ∙ among-place names name
          ∙ sym (ap (λ b. b || is_among names name) apart)
    ]
  where
    mapped : (place : Option ℕ) → is_some (option_map (λ n. n + 1) place) ≡ is_some place
    mapped None = refl
    mapped (Some n) = refl

-- two lists that have the same names
abbrev AreSame : List (List ℕ) → List (List ℕ) → Type 0
AreSame names others = (name : List ℕ) → is_among names name ≡ is_among others name

more-same : (names others : List (List ℕ)) (name : List ℕ) → AreSame names others → AreSame (name ∷ names) (name ∷ others)
more-same names others name same other = ap (λ b. bytes_eq other name || b) (same other)

abbrev told : Bool → OptionForm → List Fault
told known o = fault_if known DuplicateName o.place o.name

-- what is offered twice depends on no more than which names stand before
offered-same : (names others : List (List ℕ)) (options : List OptionForm) → AreSame names others → offered_twice names options ≡ offered_twice others options
offered-same names others [] same = refl
offered-same names others (o ∷ more) same =
    ap (λ b. told b o ++ offered_twice (o.name ∷ names) more) (same o.name)
    ∙ ap (λ faults. told (is_among others o.name) o ++ faults) (offered-same (o.name ∷ names) (o.name ∷ others) more (more-same names others o.name same))

-- a name that is among them already
known-same : (names : List (List ℕ)) (name : List ℕ) → is_among names name ≡ true → AreSame (name ∷ names) names
known-same names name known other =
    elim (cases_Bool (bytes_eq other name)) [
      | inl same ↦
          ap (λ b. b || is_among names other) same
          ∙ sym (ap (is_among names) ((bytes_decides other name).0 same) ∙ known)
      | inr apart ↦ ap (λ b. b || is_among names other) apart
    ]

-- a name that is put last
last-same : (names : List (List ℕ)) (name : List ℕ) → AreSame (name ∷ names) (names ++ name ∷ [])
last-same names name other =
    or_comm (bytes_eq other name) (is_among names other)
    ∙ ap (λ b. is_among names other || b) (sym (or-false (bytes_eq other name)))
    ∙ sym (list_any-append (bytes_eq other) names (name ∷ []))

table-known : (names : List (List ℕ)) (name : List ℕ) → is_among names name ≡ true → with_name name names ≡ names
table-known names name known = cond-true (is_some (place_of name names)) names (names ++ name ∷ []) (among-place names name ∙ known)

table-new : (names : List (List ℕ)) (name : List ℕ) → is_among names name ≡ false → with_name name names ≡ names ++ name ∷ []
table-new names name new = cond-false (is_some (place_of name names)) names (names ++ name ∷ []) (among-place names name ∙ new)

table-same : (names : List (List ℕ)) (name : List ℕ) → AreSame (name ∷ names) (with_name name names)
table-same names name =
    elim (cases_Bool (is_among names name)) [
      | inl known ↦ subst (AreSame (name ∷ names)) (sym (table-known names name known)) (known-same names name known)
      | inr new ↦ subst (AreSame (name ∷ names)) (sym (table-new names name new)) (last-same names name)
    ]

-- the table is as long as before exactly if it had the name
table-length : (names : List (List ℕ)) (name : List ℕ) → nat_eq (length (with_name name names)) (length names) ≡ is_among names name
table-length names name =
    elim (cases_Bool (is_among names name)) [
      | inl known ↦ eq-eqb _ _ (ap length (table-known names name known)) ∙ sym known
      | inr new ↦
          ne_eqb _ _ (λ same. absurd (omega (arith, same, ap length (table-new names name new), length-append names (name ∷ [])))) ∙ sym new
    ]

-- The step over an option: `all` is what was ahead before it, and `table` has its name.
module _ (names table : List (List ℕ)) (o : OptionForm) (all more : List OptionForm) (before whole : List Fault) (first : all ≡ o ∷ more) (put : table ≡ with_name o.name names) where
  said : offered_twice names all ≡ told (nat_eq (length table) (length names)) o ++ offered_twice table more
  said =
      ap (offered_twice names) first
      ∙ ap (λ b. told b o ++ offered_twice (o.name ∷ names) more) (sym (ap (λ t. nat_eq (length t) (length names)) put ∙ table-length names o.name))
      ∙ ap (λ faults. told (nat_eq (length table) (length names)) o ++ faults)
      (offered-same (o.name ∷ names) (with_name o.name names) more (table-same names o.name) ∙ ap (λ t. offered_twice t more) (sym put))

  pub offered-known : (now : List Fault) → nat_eq (length table) (length names) ≡ true → now ≡ before ++ told true o → before ++ offered_twice names all ≡ whole → now ++ offered_twice table more ≡ whole
  offered-known now known fault_put so_far =
      ap (λ faults. faults ++ offered_twice table more) fault_put
      ∙ append_assoc before (told true o) (offered_twice table more)
      ∙ ap (λ faults. before ++ faults) (sym (said ∙ ap (λ b. told b o ++ offered_twice table more) known))
      ∙ so_far

  pub offered-new : nat_eq (length table) (length names) ≡ false → before ++ offered_twice names all ≡ whole → before ++ offered_twice table more ≡ whole
  offered-new new so_far =
      ap (λ faults. before ++ faults) (sym (said ∙ ap (λ b. told b o ++ offered_twice table more) new))
      ∙ so_far
