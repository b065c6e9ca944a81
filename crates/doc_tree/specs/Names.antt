-- The names that the conditions of lines mention.
use Rattle.std.specs.Prelude.{ℕ, not, List, [], ◌∷◌, filter}
use Rattle.std.specs.Str.{bytes_eq}
use Rattle.doc_cond.specs.declared.LineKind.{LineKind}
use Rattle.doc_cond.specs.declared.LineKind.TheVariants.{Begin, OneLine}

-- the names in the condition of an opener or a one-line form; a closer only repeats its opener's
abbrev pub names_in : LineKind → List (List ℕ)
names_in (Begin negated any names) = names
names_in (OneLine negated any names from to) = names
names_in _ = []

-- the names, each where it stands first
abbrev pub each_once : List (List ℕ) → List (List ℕ)
each_once [] = []
each_once (name ∷ names) = name ∷ filter (λ other. not (bytes_eq other name)) (each_once names)
