-- Lists of watchers, each of which watches for a clause.
use Rattle.std.specs.Prelude.{◌≡◌, ℕ, ◌<◌, ◌==◌, if◌then◌else◌, List, [], ◌∷◌, ◌++◌, length, slice_index_or, Option, Some, None}

-- for each list the indexes of its watchers, from the front, and for each index the number of the watcher's clause
pub record Watched : Type 0 where
  pub lists : List (List ℕ)
  pub clauses : List ℕ

-- the list of a number
abbrev pub list_at : List (List ℕ) → ℕ → List ℕ
list_at lists list = slice_index_or lists list []

-- a watcher is in a list, behind those that are passed and before the rest
abbrev pub StandsAt : List (List ℕ) → ℕ → List ℕ → ℕ → List ℕ → Type 0
StandsAt lists list passed watcher rest = list_at lists list ≡ passed ++ watcher ∷ rest

-- what the first of some watchers is, if any
abbrev pub BeginsWith : List ℕ → Option ℕ → Type 0
BeginsWith watchers None = watchers ≡ []
BeginsWith watchers (Some first) = (rest : List ℕ) × (watchers ≡ first ∷ rest)

-- what the last of some watchers is, if any
abbrev pub EndsWith : List ℕ → Option ℕ → Type 0
EndsWith watchers None = watchers ≡ []
EndsWith watchers (Some last) = (front : List ℕ) × (watchers ≡ front ++ last ∷ [])

-- the watchers of a list from one of them on, or none
abbrev pub rest_from : List ℕ → Option ℕ → List ℕ
rest_from watchers None = []
rest_from [] (Some watcher) = []
rest_from (first ∷ rest) (Some watcher) = if first == watcher then first ∷ rest else rest_from rest (Some watcher)

-- a watcher is in a list, directly behind another, or first where there is no other
pub record StandsBehind (list : List ℕ) (before : Option ℕ) (watcher : ℕ) : Type 0 where
  pub passed : List ℕ
  pub rest : List ℕ
  pub split : list ≡ passed ++ watcher ∷ rest
  pub last : EndsWith passed before

-- each watcher is in exactly one list, once, and the lists have no others
pub record StandsOnce (watched : Watched) : Type 0 where
  pub somewhere : (watcher : ℕ) → watcher < length watched.clauses
      → (list : ℕ) × (passed : List ℕ) × (rest : List ℕ) × StandsAt watched.lists list passed watcher rest
  pub known : (list watcher : ℕ) (passed rest : List ℕ)
      → StandsAt watched.lists list passed watcher rest → watcher < length watched.clauses
  pub once : (watcher list other : ℕ) (passed rest before behind : List ℕ)
      → StandsAt watched.lists list passed watcher rest → StandsAt watched.lists other before watcher behind
      → (list ≡ other) × (passed ≡ before) × (rest ≡ behind)
