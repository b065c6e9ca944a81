-- Lines with their new tags, one behind the other.
use Rattle.std.proofs.Common.{◌≡◌, ℕ, ◌+◌, ◌≤◌, Bool, true, false, cond, List, ◌∷◌, ◌++◌, length, take, drop, sym, ap, ◌∙◌, append_assoc, arith}
use Rattle.std.proofs.lemmas.Bool.{and_parts}
use Rattle.std.proofs.lemmas.List.Prefix.{front_fits}
use Rattle.std.specs.Prelude.{◌&&◌}
use Rattle.vu_tags.specs.Lines.{bullet, is_bullet}
use Rattle.vu_tags.specs.Statements.{lacks_tag}
use Rattle.vu_tags.specs.Tagged.{Names, with_piece}
use Rattle.vu_tags.specs.Progress.{block_after, is_untagged_in, line_in, number_after, page_after, tagged_ahead, untagged_ahead}
use Rattle.vu_tags.specs.declared.blocks.Block.{Block}
use Rattle.vu_tags.proofs.PlaceLemmas.{begins_front}

bullet_long : (line : List ℕ) → is_bullet line ≡ true → 4 ≤ length line
unfolding is_bullet
bullet_long line is = front_fits line bullet (drop 4 line) (begins_front line bullet is)

pub untagged_long : (block : Block) (line : List ℕ) → is_untagged_in block line ≡ true → 4 ≤ length line
untagged_long block line is =
    let parts = and_parts (block.inside && is_bullet line) (lacks_tag line) is in
    bullet_long line (and_parts block.inside (is_bullet line) parts.0).1

pub written : (text line piece : List ℕ) → ((text ++ take 4 line) ++ piece) ++ drop 4 line ≡ text ++ with_piece line piece
written text line piece =
    append_assoc (text ++ take 4 line) piece (drop 4 line) ∙ append_assoc text (take 4 line) (piece ++ drop 4 line)

counted : (b : Bool) (number rest : ℕ) → cond b (number + 1) number + rest ≡ number + (cond b 1 0 + rest)
counted true number rest = omega arith
counted false number rest = omega arith

module _ (block : Block) (number : ℕ) (line : List ℕ) (lines after : List (List ℕ)) (first : lines ≡ line ∷ after) where
  pub untagged_on : (all : ℕ) → number + untagged_ahead block lines ≡ all → number_after block number line + untagged_ahead (block_after block line) after ≡ all
  untagged_on all so =
      counted (is_untagged_in block line) number (untagged_ahead (block_after block line) after)
      ∙ ap (λ (ls : List (List ℕ)). number + untagged_ahead block ls) (sym first) ∙ so

  pub tagged_on : (names : Names) (page text all : List ℕ) → text ++ tagged_ahead names block page number lines ≡ all
      → (text ++ line_in block page number line after) ++ tagged_ahead names (block_after block line) (page_after names page line) (number_after block number line) after ≡ all
  tagged_on names page text all so =
      append_assoc text (line_in block page number line after) (tagged_ahead names (block_after block line) (page_after names page line) (number_after block number line) after)
      ∙ ap (λ (ls : List (List ℕ)). text ++ tagged_ahead names block page number ls) (sym first) ∙ so
