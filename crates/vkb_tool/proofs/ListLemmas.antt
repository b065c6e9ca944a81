-- What stands in a list.
use Rattle.std.proofs.Common.{◌≡◌, ℕ, zero, suc, Bool, true, false, cond, List, [], ◌∷◌, filter, Contains, sym, ap, ◌∙◌, subst, arith}

-- an element is among others where one more stands in front, or doesn't
behind : {X : Type 0} (b : Bool) (y : X) (xs : List X) (x : X) → Contains xs x → Contains (cond b (y ∷ xs) xs) x
behind true y xs x (k, less, is) = (suc k, omega (arith, less), is)
behind false y xs x among = among

-- an element that passes is among those that do
pub Contains-filter : {X : Type 0} (test : X → Bool) (xs : List X) (x : X) → Contains xs x → test x ≡ true → Contains (filter test xs) x
Contains-filter test [] x (k, less, is) passes = absurd (omega (arith, less))
Contains-filter test (y ∷ xs) x (zero, less, is) passes =
    let same : y ≡ x = is in
    let first : test y ≡ true = ap test same ∙ passes in
    subst (λ (b : Bool). Contains (cond b (y ∷ filter test xs) (filter test xs)) x) (sym first) (0, omega arith, same)
Contains-filter test (y ∷ xs) x (suc k, less, is) passes =
    let later : Contains (filter test xs) x = Contains-filter test xs x (k, omega (arith, less), is) passes in
    behind (test y) y (filter test xs) x later
