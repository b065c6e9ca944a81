-- The lines of a document in flat order, and which of them stand where some names are set. The conditionals are those of the
-- AsciiDoc language documentation; that names are compared byte for byte, and what `ifndef` with several names means, is this
-- tool's own rule.
use Rattle.std.specs.Prelude.{ℕ, Bool, true, not, ◌&&◌, List, if◌then◌else◌}
use Rattle.std.specs.List.{list_all, list_any}
use Rattle.std.specs.Str.{bytes_eq}
use Rattle.doc_cond.specs.declared.LineKind.{LineKind}
use Rattle.doc_cond.specs.declared.LineKind.TheVariants.{OneLine}

-- `ifdef` on names, or where `negated` `ifndef`; where `any`, one of the names suffices, else all are wanted
pub record Condition : Type 0 where
  pub negated : Bool
  pub any : Bool
  pub names : List (List ℕ)

-- a line of the flat document
pub record FlatLine : Type 0 where
  -- the name of its file
  pub file : List ℕ
  -- its number in the file, from 1
  pub number : ℕ
  pub bytes : List ℕ
  pub kind : LineKind
  -- the conditions of the openers round it, outermost first: those round the include lines above it, and those of its own file
  pub round : List Condition

-- the name is one of these, byte for byte
abbrev pub is_among : List (List ℕ) → List ℕ → Bool
is_among names name = list_any (bytes_eq name) names

-- where `any`, at least one of the names is set; else all are
abbrev pub holds : List (List ℕ) → Bool → List (List ℕ) → Bool
holds set any names = if any then list_any (is_among set) names else list_all (is_among set) names

-- the condition is met where these names are set: `ifndef` is the opposite of `ifdef`
abbrev pub is_met : List (List ℕ) → Condition → Bool
is_met set condition = if condition.negated then not (holds set condition.any condition.names) else holds set condition.any condition.names

-- a one-line form's own condition is met; a line of another kind has none
abbrev pub stands_by_itself : List (List ℕ) → LineKind → Bool
stands_by_itself set (OneLine negated any names from to) = is_met set (record { negated = negated; any = any; names = names })
stands_by_itself set _ = true

-- the line is kept where these names are set: all conditions round it are met, and its own
abbrev pub is_kept : List (List ℕ) → FlatLine → Bool
is_kept set line = list_all (is_met set) line.round && stands_by_itself set line.kind
