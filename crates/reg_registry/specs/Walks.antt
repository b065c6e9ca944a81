-- For private contracts: a walk along the names that each row names, which finds the first that lies on a circle.
--
-- Names are entered one behind the other on a path. What a name on it names is put ahead, and looked at from the last on. Names on the path that
-- lead to each other are one group; the path is cut into groups, of which the last is the first in the list.
use Rattle.std.specs.Prelude.{◌≡◌, ◌⊎◌, ℕ, ◌+◌, ◌<◌, ◌≤◌, List, [], ◌∷◌, ◌++◌, length, set, Option, Some, slice_get, All, Contains, IfSome, IsSomeAnd}
use Rattle.reg_registry.specs.declared.registry.Row.{Row}
use Rattle.reg_registry.specs.declared.circles.groups.Group.{Group}
use Rattle.reg_registry.specs.declared.circles.walk.Mark.{Mark}
use Rattle.reg_registry.specs.declared.circles.walk.Mark.TheVariants.{Unseen, OnPath, Done}
use Rattle.reg_registry.specs.declared.circles.walk.Next.{Next}
use Rattle.reg_registry.specs.declared.circles.walk.Next.TheVariants.{Enter, Join, Skip, Close, End}
use Rattle.reg_registry.specs.Naming.{IsOnCircle, Leads, Names}

-- how far a walk has come, and the first name that was found on a circle
pub record Walked : Type 0 where
  pub marks : List Mark
  pub path : List ℕ
  pub ahead : List ℕ
  pub groups : List Group
  pub first : Option ℕ

-- the same name, or one that it leads to
abbrev pub Reaches : List Row → ℕ → ℕ → Type 0
Reaches rows place other = (place ≡ other) ⊎ Leads rows place other

abbrev pub IsDone : List Mark → ℕ → Type 0
IsDone marks name = slice_get marks name ≡ Some Done

-- the last group ends where the path does, each before it where the next begins, and the first of all begins where the path does
abbrev pub AreStacked : List Group → ℕ → ℕ → Type 0
AreStacked [] end ahead = end ≡ 0
AreStacked (g ∷ more) end ahead = (g.start < end) × (g.ahead ≤ ahead) × AreStacked more g.start g.ahead

-- a group begins behind the one place and up to the other
pub record IsParted (groups : List Group) (low high : ℕ) : Type 0 where
  pub group : Group
  pub known : Contains groups group
  pub behind : low < group.start
  pub upto : group.start ≤ high

-- a name stands among others from a place on
pub record IsFrom (names : List ℕ) (start name : ℕ) : Type 0 where
  pub place : ℕ
  pub from : start ≤ place
  pub here : slice_get names place ≡ Some name

-- what a group's name names is still ahead, or done, or on the path and not before the group
abbrev pub IsMet : Walked → Group → ℕ → Type 0
IsMet w group name = IsFrom w.ahead group.ahead name ⊎ IsDone w.marks name ⊎ IsFrom w.path group.start name

pub record IsWalk (rows : List Row) (w : Walked) : Type 0 where
  pub count : length w.marks ≡ length rows
  pub stacked : AreStacked w.groups (length w.path) (length w.ahead)
  pub placed : (name place : ℕ) → slice_get w.path place ≡ Some name → slice_get w.marks name ≡ Some (OnPath place)
  pub found : (name place : ℕ) → slice_get w.marks name ≡ Some (OnPath place) → slice_get w.path place ≡ Some name
  pub within : All (λ name. name < length rows) w.ahead
  pub left : (name : ℕ) → slice_get w.marks name ≡ Some Unseen → Contains w.ahead name
  pub joined : (low high one other : ℕ) → slice_get w.path high ≡ Some one → slice_get w.path low ≡ Some other
      → IsParted w.groups low high ⊎ Reaches rows one other
  pub looked : (group : Group) → Contains w.groups group → (name other : ℕ) → IsFrom w.path group.start name → Names rows name other
      → IsMet w group other
  pub leads : (group : Group) → Contains w.groups group → (name other : ℕ) → slice_get w.path group.start ≡ Some name
      → IsFrom w.ahead group.ahead other → Leads rows name other
  pub closed : (name other : ℕ) → IsDone w.marks name → Names rows name other → IsDone w.marks other
  pub least : (name : ℕ) → IsDone w.marks name → IsOnCircle rows name → IsSomeAnd w.first (λ first. first ≤ name)
  pub first : IfSome w.first (IsOnCircle rows)

-- the name is the next to be looked at, and the last group has put it ahead, if there is one
pub record IsAhead (w : Walked) (name : ℕ) : Type 0 where
  pub front : List ℕ
  pub last : w.ahead ≡ front ++ name ∷ []
  pub stacked : AreStacked w.groups (length w.path) (length front)

-- the last group has nothing ahead
pub record IsSpent (w : Walked) : Type 0 where
  pub group : Group
  pub more : List Group
  pub last : w.groups ≡ group ∷ more
  pub spent : group.ahead ≡ length w.ahead

-- the same, and it begins at a place
pub record IsSpentAt (w : Walked) (start : ℕ) : Type 0 where
  pub group : Group
  pub more : List Group
  pub last : w.groups ≡ group ∷ more
  pub spent : group.ahead ≡ length w.ahead
  pub begins : group.start ≡ start

-- what is to be done next
abbrev pub IsNext : Walked → Next → Type 0
IsNext w (Enter name) = IsAhead w name × (slice_get w.marks name ≡ Some Unseen)
IsNext w (Join place) = (name : ℕ) × IsAhead w name × (slice_get w.marks name ≡ Some (OnPath place))
IsNext w Skip = (name : ℕ) × IsAhead w name × IsDone w.marks name
IsNext w Close = IsSpent w
IsNext w End = (w.groups ≡ []) × (w.ahead ≡ [])

-- no group begins behind the place
abbrev pub NoneBehind : List Group → ℕ → Type 0
NoneBehind groups place = (group : Group) → Contains groups group → group.start ≤ place

-- the name is done, or stands on the path in the last group
abbrev pub IsPast : Walked → ℕ → Type 0
IsPast w name = IsDone w.marks name ⊎ ((place : ℕ) × (slice_get w.path place ≡ Some name) × NoneBehind w.groups place)

-- the names are done
abbrev pub with_done : List ℕ → List Mark → List Mark
with_done [] marks = marks
with_done (name ∷ names) marks = set (with_done names marks) name Done

-- the first name on a circle, also among those on the path from a place on
pub record IsFirstWith (rows : List Row) (w : Walked) (start : ℕ) (first : Option ℕ) : Type 0 where
  pub on_circle : IfSome first (IsOnCircle rows)
  pub among : (name : ℕ) → IsFrom w.path start name → IsOnCircle rows name → IsSomeAnd first (λ least. least ≤ name)
  pub before : (name : ℕ) → w.first ≡ Some name → IsSomeAnd first (λ least. least ≤ name)

-- how much may still be put ahead, with a group for each name that isn't seen
abbrev pub weight_of : List Row → List Mark → ℕ
weight_of [] marks = 0
weight_of (row ∷ rows) [] = 0
weight_of (row ∷ rows) (Unseen ∷ marks) = length row.named + 2 + weight_of rows marks
weight_of (row ∷ rows) (OnPath place ∷ marks) = weight_of rows marks
weight_of (row ∷ rows) (Done ∷ marks) = weight_of rows marks

-- how many steps a walk has ahead at most
abbrev pub steps_of : List Row → Walked → ℕ
steps_of rows w = weight_of rows w.marks + length w.ahead + length w.groups
