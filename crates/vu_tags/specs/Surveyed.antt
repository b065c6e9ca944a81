-- What is known of all files before any tag is given, which no public contract names.
use Rattle.std.specs.Prelude.{◌≡◌, ◌<◌, ◌^◌, ℕ, false, List}
use Rattle.std.specs.List.{list_any}
use Rattle.vu_tags.specs.Statements.{needed_of}
use Rattle.vu_tags.specs.Tags.{IsFirstBad, has_malformed, start_of}
use Rattle.vu_tags.specs.Tagged.{left_of}
use Rattle.vu_tags.specs.declared.survey.Plan.{Plan}
use Rattle.vu_tags.specs.declared.TagFault.{TagFault}
use Rattle.vu_tags.specs.declared.TagFault.TheVariants.{BadTag, NoNumber, Memory}

-- no tag is malformed, and the numbers are right
pub record IsPlan (first : ℕ) (files : List (List ℕ)) (plan : Plan) : Type 0 where
  pub well : list_any has_malformed files ≡ false
  pub start_is : plan.start ≡ start_of first files
  pub needed_is : plan.needed ≡ needed_of files
  pub small : plan.start < 2 ^ 31
  pub left_is : plan.left ≡ left_of first files

-- the fault tells the first malformed tag
abbrev pub IsFirstBadFault : List (List ℕ) → TagFault → Type 0
IsFirstBadFault files (BadTag file line) = IsFirstBad files file line
IsFirstBadFault files (NoNumber needed left) = ⊥
IsFirstBadFault files Memory = ⊥
