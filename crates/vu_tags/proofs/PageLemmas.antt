-- The page that a line includes.
use Rattle.std.proofs.Common.{inl, inr, ◌⊎◌, ◌↔◌, subst, ◌≡◌, ◌≢◌, ℕ, false, List, ◌++◌, Option, Some, None, take, drop, refl, sym, ap, ◌∙◌, codes, append_assoc, take-append-drop}
use Rattle.vkb_bytes.specs.Bytes.{begins}
use Rattle.doc_cond.specs.Lines.{Includes, IsApi, IsBadCondition, IsKind, bare}
use Rattle.doc_cond.specs.declared.CondFault.{CondFault}
use Rattle.doc_cond.specs.declared.CondFault.TheVariants.{Memory}
use Rattle.doc_cond.specs.declared.LineKind.{LineKind}
use Rattle.doc_cond.specs.declared.LineKind.TheVariants.{Api}
use Rattle.vu_tags.specs.Lines.{unfed}
use Rattle.vu_tags.specs.Tagged.{Names, TellsPages}
use Rattle.vu_tags.specs.Progress.{api_of}
use Rattle.vu_tags.proofs.PlaceLemmas.{begins_on}

none_of : {X : Type 0} (o : Option X) → ((x : X) → o ≡ Some x → ⊥) → o ≡ None
none_of None h = refl
none_of (Some x) h = absurd (h x refl)

-- a line of a known kind has the name that the kind has
pub names_tell : (names : Names) → TellsPages names → (line : List ℕ) (kind : LineKind) → IsKind line kind → ((other : LineKind) → IsKind line other → kind ≡ other) → names line ≡ api_of kind
names_tell names tells line (Api name) is only = (tells.each line name).1 is
names_tell names tells line kind is only =
    none_of (names line) (λ name e. let same = ap api_of (only (Api name) ((tells.each line name).0 e)) in cc)

-- a line of no kind has none
pub names_none : (names : Names) → TellsPages names → (line : List ℕ) (fault : CondFault) → fault ≢ Memory → ((other : LineKind) → IsKind line other → fault ≡ Memory) → names line ≡ None
names_none names tells line fault differs only = none_of (names line) (λ name e. differs (only (Api name) ((tells.each line name).0 e)))

-- the front of a front
pub front_of : (n : ℕ) (line front : List ℕ) (rest : List ℕ) → take n line ≡ front ++ rest → line ≡ front ++ (rest ++ drop n line)
front_of n line front rest is =
    sym (take-append-drop n line) ∙ ap (λ (bytes : List ℕ). bytes ++ drop n line) is ∙ append_assoc front rest (drop n line)

-- a line that includes a page begins as an include
pub names_begin : (names : Names) → TellsPages names → (line : List ℕ) → begins line (codes "include::") ≡ false → names (unfed line) ≡ None
unfolding unfed
names_begin names tells line unlike =
    none_of (names (unfed line)) (λ name e.
    let is : Includes (IsApi name) (bare (unfed line)) = (tells.each (unfed line) name).0 e in
    let first = front_of _ (unfed line) (codes "include::") _ is.spelled in
    let begun = begins_on line (codes "include::") _ (front_of _ line (codes "include::") _ first) in
    cc)

-- a name for each line of a kind, and for each that has none
name_of : (line : List ℕ) → ((kind : LineKind) × IsKind line kind) ⊎ IsBadCondition (bare line) → Option (List ℕ)
name_of line (inl found) = api_of found.0
name_of line (inr bad) = None

api_is : (kind : LineKind) (name : List ℕ) → api_of kind ≡ Some name → kind ≡ Api name
api_is (Api other) name e = let same : other ≡ name = cc in ap Api same
api_is kind name e = cc

module _ (one : (line : List ℕ) (kind other : LineKind) → IsKind line kind → IsKind line other → kind ≡ other) where
  name_tells : (line : List ℕ) (found : ((kind : LineKind) × IsKind line kind) ⊎ IsBadCondition (bare line)) (name : List ℕ)
      → (name_of line found ≡ Some name) ↔ IsKind line (Api name)
  unfolding name_of
  name_tells line (inl found) name = (
    λ e. subst (IsKind line) (api_is found.0 name e) found.1,
    λ is. ap api_of (one line found.0 (Api name) found.1 is),
  )
  name_tells line (inr bad) name = (λ e. cc, λ is. absurd (bad.unspelled (Api name) is))

pub some_names : ((line : List ℕ) → ((kind : LineKind) × IsKind line kind) ⊎ IsBadCondition (bare line))
    → ((line : List ℕ) (kind other : LineKind) → IsKind line kind → IsKind line other → kind ≡ other) → (names : Names) × TellsPages names
some_names each one = (λ line. name_of line (each line), record { each = λ line name. name_tells one line (each line) name })

same_option : {X : Type 0} (o p : Option X) → ((x : X) → o ≡ Some x → p ≡ Some x) → ((x : X) → p ≡ Some x → o ≡ Some x) → o ≡ p
same_option None None there back = refl
same_option None (Some x) there back = back x refl
same_option (Some x) p there back = sym (there x refl)

pub one_names : (names others : Names) → TellsPages names → TellsPages others → names ≡ others
one_names names others tells tell =
    let same : (line : List ℕ) → names line ≡ others line = λ line. same_option (names line) (others line)
    (λ name e. (tell.each line name).1 ((tells.each line name).0 e)) (λ name e. (tells.each line name).1 ((tell.each line name).0 e)) in
    λ i. λ line. same line i
