-- The known bytes of a writer, from one write to the next.
use Rattle.std.proofs.Common.{◌≡◌, ℕ, ◌-◌, List, ◌++◌, length, take, drop, Option, Some, None, append_assoc, ◌∙◌, arith}
use Rattle.std.proofs.lemmas.Grind.{common_steps}
use Rattle.std.specs.Io.KnownBytes.{Appends, Keeps}
use Rattle.vkbuild.specs.Output.{AppendsPrefix}

pub Appends-more : (first next last : Option (List ℕ)) (xs ys : List ℕ) → Appends first next xs → Appends next last ys → Appends first last (xs ++ ys)
Appends-more None next last xs ys a b = tt
Appends-more (Some us) None last xs ys a b = absurd a
Appends-more (Some us) (Some vs) None xs ys a b = absurd b
Appends-more (Some us) (Some vs) (Some ws) xs ys a b = rw (b, a) (append_assoc us xs ys)

-- what a write took of the rest goes to what was taken before
pub taken-more : (taken rest : List ℕ) (count : ℕ) → taken ++ rest ≡ (taken ++ take count rest) ++ take (length rest - count) (drop count rest)
taken-more taken rest count = grind (arith, common_steps)

Appends-kept : (first next last : Option (List ℕ)) (xs : List ℕ) → Appends first next xs → Keeps next last → Appends first last xs
Appends-kept None next last xs a b = tt
Appends-kept (Some us) None last xs a b = absurd a
Appends-kept (Some us) (Some vs) None xs a b = absurd b
Appends-kept (Some us) (Some vs) (Some ws) xs a b = b ∙ a

-- a write that fails keeps what was known
pub part-kept : (first next last : Option (List ℕ)) (bytes taken rest : List ℕ) → bytes ≡ taken ++ rest → Appends first next taken → Keeps next last → AppendsPrefix first last bytes
part-kept first next last bytes taken rest all so_far kept = (taken, rest, all, Appends-kept first next last taken so_far kept)

-- one that takes some of the rest appends them
pub part-more : (first next last : Option (List ℕ)) (bytes taken rest : List ℕ) (count : ℕ) → bytes ≡ taken ++ rest → Appends first next taken → Appends next last (take count rest) → AppendsPrefix first last bytes
part-more first next last bytes taken rest count all so_far more =
    (taken ++ take count rest, take (length rest - count) (drop count rest), all ∙ taken-more taken rest count, Appends-more first next last taken (take count rest) so_far more)
