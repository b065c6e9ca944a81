-- Ids with the page's name in the place of the attribute.
use Rattle.std.proofs.Common.{◌≡◌, ◌∙◌, refl, sym, ap, ℕ, zero, suc, ◌+◌, Bool, true, false, cond, List, [], ◌∷◌, ◌++◌, drop, append_assoc}
use Rattle.std.specs.Prelude.{nat_eq}
use Rattle.std.specs.List.{starts_with}
use Rattle.std.proofs.Math.Seq.{drop-drop}
use Rattle.doc_build.specs.Ids.{filled_from, refpage}

-- bytes that belong to the attribute are passed
pub filled-skip : (page : List ℕ) (left : ℕ) (bytes : List ℕ) → filled_from page left bytes ≡ filled_from page 0 (drop left bytes)
filled-skip page zero bytes = refl
filled-skip page (suc left) [] = refl
filled-skip page (suc left) (byte ∷ bytes) = filled-skip page left bytes

-- where the attribute stands, the page's name is put
filled-attribute : (page rest : List ℕ) → starts_with nat_eq rest refpage ≡ true → filled_from page 0 rest ≡ page ++ filled_from page 0 (drop 9 rest)
filled-attribute page [] is = absurd (cc)
filled-attribute page (byte ∷ bytes) is =
    ap (λ (b : Bool). cond b (page ++ filled_from page 8 bytes) (byte ∷ filled_from page 0 bytes)) is ∙ ap (λ (t : List ℕ). page ++ t) (filled-skip page 8 bytes)

pub filled-named : (page written : List ℕ) (at : ℕ) (old new whole : List ℕ) → starts_with nat_eq (drop at written) refpage ≡ true → new ≡ old ++ page
    → old ++ filled_from page 0 (drop at written) ≡ whole → new ++ filled_from page 0 (drop (at + 9) written) ≡ whole
filled-named page written at old new whole is put was =
    let rest = filled_from page 0 (drop (at + 9) written) in
    let here : filled_from page 0 (drop at written) ≡ page ++ rest =
    filled-attribute page (drop at written) is ∙ ap (λ (t : List ℕ). page ++ filled_from page 0 t) (drop-drop 9 at written) in
    ap (λ (t : List ℕ). t ++ rest) put ∙ append_assoc old page rest ∙ ap (λ (t : List ℕ). old ++ t) (sym here) ∙ was

-- another byte is put as it is
pub filled-byte : (page written : List ℕ) (at byte : ℕ) (old new whole : List ℕ) → drop at written ≡ byte ∷ drop (at + 1) written → starts_with nat_eq (drop at written) refpage ≡ false
    → new ≡ old ++ byte ∷ [] → old ++ filled_from page 0 (drop at written) ≡ whole → new ++ filled_from page 0 (drop (at + 1) written) ≡ whole
filled-byte page written at byte old new whole split isnt put was =
    let bytes = drop (at + 1) written in
    let rest = filled_from page 0 bytes in
    let first : starts_with nat_eq (byte ∷ bytes) refpage ≡ false = ap (λ (t : List ℕ). starts_with nat_eq t refpage) (sym split) ∙ isnt in
    let here : filled_from page 0 (drop at written) ≡ byte ∷ rest =
    ap (filled_from page 0) split ∙ ap (λ (b : Bool). cond b (page ++ filled_from page 8 bytes) (byte ∷ rest)) first in
    ap (λ (t : List ℕ). t ++ rest) put ∙ append_assoc old (byte ∷ []) rest ∙ ap (λ (t : List ℕ). old ++ t) (sym here) ∙ was
