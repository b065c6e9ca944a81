-- Names joined are read as these names.
use Rattle.std.proofs.Common.{◌≡◌, ◌∷◌, [], ℕ, Bool, List, length, true, false, refl, sym, ap, ◌∙◌, arith, ◌==◌, if◌then◌else◌}
use Rattle.std.specs.List.{list_all, join_with_byte}
use Rattle.std.proofs.lemmas.Bool.{false≢true, and_parts}
use Rattle.std.proofs.lemmas.List.Splits.{join_with_byte-slice_split, length-slice_split}
use Rattle.doc_cond.specs.Lines.{AreNames, is_run, is_name_byte, joined, lacks}
use Rattle.doc_cond.proofs.Pieces.{pieces, pieces-join, runs_lack, run_lacks, lacks-join, has_separator}

abbrev pub separator : Bool → ℕ
separator any = if any then 44 else 43

-- the separator tells which names they are
pub any_is : (any : Bool) (names : List (List ℕ)) → AreNames any names → lacks (joined any names) 43 ≡ any
any_is true names h = lacks-join 43 44 names refl (runs_lack is_name_byte 43 names refl h.each)
any_is false [] h = absurd (omega (arith, h.some))
any_is false (x ∷ []) h = absurd (false≢true (h.single refl))
any_is false (x ∷ y ∷ names) h = has_separator 43 (x ∷ y ∷ names) (omega arith)

pub names_are : (any : Bool) (names : List (List ℕ)) → AreNames any names → pieces (separator any) (joined any names) ≡ names
names_are true names h = pieces-join 44 names h.some (runs_lack is_name_byte 44 names refl h.each)
names_are false names h = pieces-join 43 names h.some (runs_lack is_name_byte 43 names refl h.each)

pub joined_lack : (c : ℕ) (any : Bool) (names : List (List ℕ)) → is_name_byte c ≡ false → (44 == c) ≡ false → (43 == c) ≡ false → list_all (is_run is_name_byte) names ≡ true → lacks (joined any names) c ≡ true
joined_lack c true names fails comma plus h = lacks-join c 44 names comma (runs_lack is_name_byte c names fails h)
joined_lack c false names fails comma plus h = lacks-join c 43 names plus (runs_lack is_name_byte c names fails h)

-- what two lists of names are joined to tells them apart
pub names_once : (any other : Bool) (names more : List (List ℕ)) → AreNames any names → AreNames other more → joined any names ≡ joined other more → (any ≡ other) × (names ≡ more)
names_once any other names more h k e =
    let same : any ≡ other = sym (any_is any names h) ∙ (ap (λ bytes. lacks bytes 43) e ∙ any_is other more k) in
    (same, sym (names_are any names h) ∙ (ap (pieces (separator any)) e ∙ (ap (λ (s : Bool). pieces (separator s) (joined other more)) same ∙ names_are other more k)))

-- the pieces of a text around its separator are names, where each is one
single_lacks : (text : List ℕ) (names : List (List ℕ)) → join_with_byte 43 names ≡ text → list_all (is_run is_name_byte) names ≡ true → length names ≡ 1 → lacks text 43 ≡ true
single_lacks text [] e h one = absurd (omega (arith, one))
single_lacks text (x ∷ []) e h one = sym (ap (λ bytes. lacks bytes 43) e) ∙ run_lacks is_name_byte 43 x refl (and_parts (is_run is_name_byte x) true h).0
single_lacks text (x ∷ y ∷ names) e h one = absurd (omega (arith, one))

pub names_from_pieces : (any : Bool) (text : List ℕ) → lacks text 43 ≡ any → list_all (is_run is_name_byte) (pieces (separator any) text) ≡ true → AreNames any (pieces (separator any) text)
names_from_pieces true text e h = record {
  some = omega (arith, length-slice_split (λ b. b == 44) text);
  each = h;
  single = λ _. refl;
}
names_from_pieces false text e h = record {
  some = omega (arith, length-slice_split (λ b. b == 43) text);
  each = h;
  single = λ one. sym e ∙ single_lacks text (pieces 43 text) (join_with_byte-slice_split 43 text) h one;
}

pub joined_pieces : (any : Bool) (text : List ℕ) → text ≡ joined any (pieces (separator any) text)
joined_pieces true text = sym (join_with_byte-slice_split 44 text)
joined_pieces false text = sym (join_with_byte-slice_split 43 text)

-- no names are joined to a text of which a piece is no name
pub no_names : (any : Bool) (text : List ℕ) → lacks text 43 ≡ any → list_all (is_run is_name_byte) (pieces (separator any) text) ≡ false → (other : Bool) (names : List (List ℕ)) → AreNames other names → ¬ (text ≡ joined other names)
no_names any text e h other names are spelled =
    let same : any ≡ other = sym e ∙ (ap (λ bytes. lacks bytes 43) spelled ∙ any_is other names are) in
    let found : pieces (separator any) text ≡ names = ap (pieces (separator any)) spelled ∙ (ap (λ (s : Bool). pieces (separator s) (joined other names)) same ∙ names_are other names are) in
    false≢true (sym h ∙ (ap (list_all (is_run is_name_byte)) found ∙ are.each))
