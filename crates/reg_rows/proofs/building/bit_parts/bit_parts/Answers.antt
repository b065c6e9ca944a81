use Rattle.std.proofs.Common.{◌≡◌, ◌≤◌, ◌+◌, ◌-◌, ◌==◌, min, ℕ, Bool, true, false, cond, List, [], ◌∷◌, length, take, drop, refl, ap, ◌∙◌, arith}
use Rattle.std.proofs.lemmas.List.{drop-drop, drop_min, take_rest}
use Rattle.reg_tables.specs.Bits.{owner_in}
use Rattle.reg_rows.proofs.building.bit_parts.bit_parts.Goals as goal

front_by : (b : Bool) (byte : ℕ) (rest : List ℕ) → take (length (owner_in rest)) rest ≡ owner_in rest → take (length (cond b [] (byte ∷ owner_in rest))) (byte ∷ rest) ≡ cond b [] (byte ∷ owner_in rest)
front_by true byte rest e = refl
front_by false byte rest e = ap (λ more. byte ∷ more) e

-- the name of the struct is a front of the name
owner_front : (name : List ℕ) → take (length (owner_in name)) name ≡ owner_in name
owner_front [] = refl
owner_front (byte ∷ rest) = front_by (byte == 58) byte rest (owner_front rest)

short_by : (b : Bool) (byte : ℕ) (rest : List ℕ) → length (owner_in rest) ≤ length rest → length (cond b [] (byte ∷ owner_in rest)) ≤ length (byte ∷ rest)
short_by true byte rest h = omega arith
short_by false byte rest h = omega arith

owner_short : (name : List ℕ) → length (owner_in name) ≤ length name
owner_short [] = omega arith
owner_short (byte ∷ rest) = short_by (byte == 58) byte rest (owner_short rest)

least_of : (n : ℕ) → min n 2 ≡ min 2 n
least_of n = omega arith

-- behind a cut, as much as there is of two bytes is left out
behind : (name rest : List ℕ) (least n : ℕ) → least ≡ min (length rest) 2 → rest ≡ drop n name → take (length rest - least) (drop least rest) ≡ drop (n + 2) name
behind name rest least n l r =
    take_rest rest least ∙ ap (λ k. drop k rest) (l ∙ least_of (length rest)) ∙ drop_min 2 rest ∙ ap (drop 2) r ∙ drop-drop 2 n name

pub split_at-requires : goal.split_at-requires
split_at-requires c = omega (arith, owner_short c.args.name.now)

pub returns-clause-owner : goal.returns-clause-owner
returns-clause-owner c =
    c.split_at.ensures.front ∙ ap (λ n. take n c.args.name.now) c.owner_end.ensures ∙ owner_front c.args.name.now

pub returns-clause-member : goal.returns-clause-member
returns-clause-member c =
    behind c.args.name.now c.split_at.result.1.now _ _ c.min.ensures c.split_at.ensures.back
    ∙ ap (λ n. drop (n + 2) c.args.name.now) c.owner_end.ensures
