-- Members whose name stands before them, by a table of the names so far.
use Rattle.std.proofs.Common.{◌≡◌, ℕ, ◌+◌, true, false, ◌||◌, nat_eq, List, [], ◌∷◌, ◌++◌, Option, Some, None, length, map, refl, sym, ap, subst, ◌∙◌, arith, inl, inr, length-append}
use Rattle.std.specs.Prelude.{is_some, option_map, if◌then◌else◌}
use Rattle.std.specs.List.{list_any}
use Rattle.std.specs.Str.{bytes_eq}
use Rattle.std.specs.Cmp.Lexicographic.{bytes_decides}
use Rattle.std.proofs.lemmas.Bool.{cases_Bool, cond-true, cond-false, eq-eqb, ne_eqb}
use Rattle.std.proofs.Math.Bool.{or_comm, or-false}
use Rattle.std.proofs.lemmas.List.{map-append}
use Rattle.std.proofs.lemmas.List.Folds.{list_any-append}
use Rattle.vkb_formula.specs.Names.{place_of, with_name}
use Rattle.reg_forms.specs.declared.forms.Forms.{Forms}
use Rattle.reg_forms.specs.declared.forms.MemberForm.{MemberForm}
use Rattle.reg_forms.specs.declared.forms.RowCode.TheVariants.{DuplicateName}
use Rattle.reg_forms.specs.Forms.{with_item, with_items}
use Rattle.reg_forms.specs.Items.{Item}
use Rattle.reg_forms.specs.Parts.{is_among, repeated}
use Rattle.reg_forms.proofs.ItemLemmas.{put_step}

-- a name is among some exactly if their table has a place for it
among-place : (names : List (List ℕ)) (name : List ℕ) → is_some (place_of name names) ≡ is_among names name
among-place [] name = refl
among-place (first ∷ names) name =
    elim (cases_Bool (bytes_eq name first)) [
      | inl same ↦ ap is_some (cond-true (bytes_eq name first) _ _ same) ∙ sym (ap (λ b. b || is_among names name) same)
      | inr apart ↦
          ap is_some (cond-false (bytes_eq name first) _ _ apart) ∙ mapped (place_of name names) ∙ among-place names name
          ∙ sym (ap (λ b. b || is_among names name) apart)
    ]
  where
    mapped : (place : Option ℕ) → is_some (option_map (λ n. n + 1) place) ≡ is_some place
    mapped None = refl
    mapped (Some n) = refl

-- two lists that have the same names
abbrev AreSame : List (List ℕ) → List (List ℕ) → Type 0
AreSame names others = (name : List ℕ) → is_among names name ≡ is_among others name

more-same : (names others : List (List ℕ)) (name : List ℕ) → AreSame names others → AreSame (name ∷ names) (name ∷ others)
more-same names others name same other = ap (λ b. bytes_eq other name || b) (same other)

-- what is repeated depends on no more than which names stand before
repeated-same : (names others : List (List ℕ)) (members : List MemberForm) → AreSame names others → repeated names members ≡ repeated others members
repeated-same names others [] same = refl
repeated-same names others (member ∷ more) same =
    ap (λ b. (if b then Item.wrong (record { code = DuplicateName; at = member.place; word = member.name }) ∷ [] else []) ++ repeated (member.name ∷ names) more) (same member.name)
    ∙ ap (λ items. (if is_among others member.name then Item.wrong (record { code = DuplicateName; at = member.place; word = member.name }) ∷ [] else []) ++ items)
    (repeated-same (member.name ∷ names) (member.name ∷ others) more (more-same names others member.name same))

-- a name that is among them already
known-same : (names : List (List ℕ)) (name : List ℕ) → is_among names name ≡ true → AreSame (name ∷ names) names
known-same names name known other =
    elim (cases_Bool (bytes_eq other name)) [
      | inl same ↦
          ap (λ b. b || is_among names other) same
          ∙ sym (ap (is_among names) ((bytes_decides other name).0 same) ∙ known)
      | inr apart ↦ ap (λ b. b || is_among names other) apart
    ]

-- a name that is put last
last-same : (names : List (List ℕ)) (name : List ℕ) → AreSame (name ∷ names) (names ++ name ∷ [])
last-same names name other =
    or_comm (bytes_eq other name) (is_among names other)
    ∙ ap (λ b. is_among names other || b) (sym (or-false (bytes_eq other name)))
    ∙ sym (list_any-append (bytes_eq other) names (name ∷ []))

-- whether some member has a name, by the members and by their names
among-members : (name : List ℕ) (members : List MemberForm) → list_any (λ member. bytes_eq name member.name) members ≡ is_among (map (λ member. member.name) members) name
among-members name [] = refl
among-members name (first ∷ more) = ap (λ b. bytes_eq name first.name || b) (among-members name more)

-- a member whose name stands in none before it is passed over
pub differs-on : (before : List MemberForm) (member : MemberForm) (more : List MemberForm) → list_any (λ other. bytes_eq member.name other.name) before ≡ false → repeated (map (λ m. m.name) before) (member ∷ more) ≡ repeated (map (λ m. m.name) (before ++ member ∷ [])) more
differs-on before member more apart =
    let names = map (λ (m : MemberForm). m.name) before in
    ap (λ b. (if b then Item.wrong (record { code = DuplicateName; at = member.place; word = member.name }) ∷ [] else []) ++ repeated (member.name ∷ names) more)
    (sym (among-members member.name before) ∙ apart)
    ∙ repeated-same (member.name ∷ names) (names ++ member.name ∷ []) more (last-same names member.name)
    ∙ ap (λ ns. repeated ns more) (sym (map-append (λ m. m.name) before (member ∷ [])))

table-known : (names : List (List ℕ)) (name : List ℕ) → is_among names name ≡ true → with_name name names ≡ names
table-known names name known = cond-true (is_some (place_of name names)) names (names ++ name ∷ []) (among-place names name ∙ known)

table-new : (names : List (List ℕ)) (name : List ℕ) → is_among names name ≡ false → with_name name names ≡ names ++ name ∷ []
table-new names name new = cond-false (is_some (place_of name names)) names (names ++ name ∷ []) (among-place names name ∙ new)

table-same : (names : List (List ℕ)) (name : List ℕ) → AreSame (name ∷ names) (with_name name names)
table-same names name =
    elim (cases_Bool (is_among names name)) [
      | inl known ↦ subst (AreSame (name ∷ names)) (sym (table-known names name known)) (known-same names name known)
      | inr new ↦ subst (AreSame (name ∷ names)) (sym (table-new names name new)) (last-same names name)
    ]

-- the table is as long as before exactly if it had the name
table-length : (names : List (List ℕ)) (name : List ℕ) → nat_eq (length (with_name name names)) (length names) ≡ is_among names name
table-length names name =
    elim (cases_Bool (is_among names name)) [
      | inl known ↦ eq-eqb _ _ (ap length (table-known names name known)) ∙ sym known
      | inr new ↦
          ne_eqb _ _ (λ same. absurd (omega (arith, same, ap length (table-new names name new), length-append names (name ∷ [])))) ∙ sym new
    ]

-- The step over a member: `all` is what was ahead before it, and `table` has its name.
module _ (names table : List (List ℕ)) (member : MemberForm) (all more : List MemberForm) (before : Forms) (whole : Forms) (first : all ≡ member ∷ more) (put : table ≡ with_name member.name names) where
  abbrev fault : Item
  fault = Item.wrong (record { code = DuplicateName; at = member.place; word = member.name })

  said : repeated names all ≡ (if nat_eq (length table) (length names) then fault ∷ [] else []) ++ repeated table more
  said =
      ap (repeated names) first
      ∙ ap (λ b. (if b then fault ∷ [] else []) ++ repeated (member.name ∷ names) more) (sym (ap (λ t. nat_eq (length t) (length names)) put ∙ table-length names member.name))
      ∙ ap (λ items. (if nat_eq (length table) (length names) then fault ∷ [] else []) ++ items)
      (repeated-same (member.name ∷ names) (with_name member.name names) more (table-same names member.name) ∙ ap (λ t. repeated t more) (sym put))

  pub repeated-known : (now : Forms) → nat_eq (length table) (length names) ≡ true → now ≡ with_item before fault → with_items before (repeated names all) ≡ whole → with_items now (repeated table more) ≡ whole
  repeated-known now known fault_put so_far =
      put_step before now whole (fault ∷ []) (repeated table more) (repeated names all)
      (said ∙ ap (λ items. items ++ repeated table more) (cond-true (nat_eq (length table) (length names)) (fault ∷ []) [] known))
      fault_put
      so_far

  pub repeated-new : nat_eq (length table) (length names) ≡ false → with_items before (repeated names all) ≡ whole → with_items before (repeated table more) ≡ whole
  repeated-new new so_far =
      ap (with_items before)
      (sym (said ∙ ap (λ items. items ++ repeated table more) (cond-false (nat_eq (length table) (length names)) (fault ∷ []) [] new)))
      ∙ so_far
