-- All places of a state that was reached lie before the place that was reached.
use Rattle.std.proofs.Common.{ℕ, ◌+◌, ◌-◌, ◌<◌, ◌≤◌, List, [], ◌∷◌, ◌++◌, length, drop, Option, arith, length-take}
use Rattle.std.specs.Prelude.{slice_range}
use Rattle.std.specs.List.{AllByRecursion}
use Rattle.reg_reader.specs.Within.{Within, AreWithin}
use Rattle.reg_reader.specs.Bounds.{IsOpenWithin, IsWithin}
use Rattle.reg_reader.specs.Markup.{run_of, IsName, IsReference, IsCharacters, AreAttributes, IsStartTag, IsComment, IsEndTag, IsElement, ArePieces}
use Rattle.reg_reader.specs.declared.markup.Part.{Part}
use Rattle.reg_reader.specs.declared.markup.Node.{Node}
use Rattle.reg_reader.specs.declared.phase.Phase.{Phase}
use Rattle.reg_reader.specs.declared.reader.Open.{Open}
use Rattle.reg_reader.proofs.Reached.{open_of, Upto, IsRun, IsTagged, Reached}
use Rattle.reg_reader.proofs.Sound.{each-le}
use Rattle.reg_reader.proofs.SoundSteps.{copy-sums}

pub reference-long : (text : List ℕ) (value : ℕ) → IsReference text value → 2 ≤ length text
reference-long text value IsReference.less = omega arith
reference-long text value IsReference.greater = omega arith
reference-long text value IsReference.ampersand = omega arith
reference-long text value IsReference.quote = omega arith
reference-long text value IsReference.apostrophe = omega arith
reference-long text value (IsReference.decimal digits all some few low high) = omega arith
reference-long text value (IsReference.hexadecimal digits all some few low high) = omega arith

pub reference-lt : (b : List ℕ) (j k value : ℕ) → IsReference (slice_range b j k) value → j < k
reference-lt b j k value is = omega (arith, reference-long _ value is, length-take (k - j) (drop j b))

pub characters-le : {b : List ℕ} {stop i j : ℕ} {text : List ℕ} → IsCharacters b stop i j text → i ≤ j
characters-le IsCharacters.none = omega arith
characters-le (IsCharacters.plain chars lt a c d) = omega (arith, characters-le chars)
characters-le {b} (IsCharacters.reference {j = j} {k = k} {n = n} chars le is) = omega (arith, characters-le chars, reference-lt b j k n is)

pub all-more : (n m : ℕ) → n ≤ m → (attributes : List (Part × Part)) → AreWithin n attributes → AreWithin m attributes
all-more n m le [] h = tt
all-more n m le (x ∷ xs) h = ((h.0.0, omega (arith, h.0.1)), all-more n m le xs h.1)

pub all-append : (n : ℕ) (xs : List (Part × Part)) (x : Part × Part) → AreWithin n xs → x.0.from ≤ x.0.to → x.0.to ≤ n → AreWithin n (xs ++ x ∷ [])
all-append n [] x h a c = ((a, c), tt)
all-append n (y ∷ xs) x h a c = (h.0, all-append n xs x h.1 a c)

pub name-le : {b : List ℕ} {i j : ℕ} → IsName b i j → i + 1 ≤ j
name-le named = each-le named.rest

pub attributes-within : {b : List ℕ} {i j : ℕ} {attributes : List (Part × Part)} → AreAttributes b i j attributes → (i ≤ j) × AreWithin j attributes
attributes-within AreAttributes.none = (omega arith, tt)
attributes-within (AreAttributes.more {j = j} {k = k} {attributes = attributes} {name = name} {value = value} before is) =
    let rest = attributes-within before in
    let le : name.to ≤ k = omega (arith, each-le is.white, name-le is.named, each-le is.before_equals, each-le is.after_equals, characters-le is.characters, is.value_from, is.whole) in
    (omega (arith, rest.0, each-le is.white, name-le is.named), all-append k attributes (name, value) (all-more j k (omega (arith, each-le is.white, name-le is.named)) attributes rest.1) (omega (arith, name-le is.named)) le)

pub comment-le : {b : List ℕ} {i j : ℕ} → IsComment b i j → i ≤ j
comment-le c = omega (arith, c.behind, c.whole)

record TagBounds (i : ℕ) (name : Part) (attributes : List (Part × Part)) (j : ℕ) : Type 0 where
  at : i < j
  order : name.from ≤ name.to
  name_to : name.to ≤ j
  attributes_to : AreWithin j attributes

tag-bounds : {b : List ℕ} {i j : ℕ} {name : Part} {attributes : List (Part × Part)} → IsStartTag b i name attributes j → TagBounds i name attributes j
tag-bounds {j = j} {attributes = attributes} tag =
    let listed = attributes-within tag.listed in record {
      at = omega (arith, tag.name_from, name-le tag.named, listed.0, each-le tag.white);
      order = omega (arith, name-le tag.named);
      name_to = omega (arith, listed.0, each-le tag.white);
      attributes_to = all-more tag.end j (each-le tag.white) attributes listed.1;
    }

pub tag-lt : {b : List ℕ} {i j : ℕ} {name : Part} {attributes : List (Part × Part)} → IsStartTag b i name attributes j → i < j
tag-lt tag = (tag-bounds tag).at

pub end-le : {b : List ℕ} {i j : ℕ} {name : Part} → IsEndTag b name i j → i ≤ j
end-le tag = let sums = copy-sums tag.named in omega (arith, sums.0, sums.1, each-le tag.white, tag.whole)

mutual
  pub element-le : {b : List ℕ} {most outer i j : ℕ} {child : Node} → IsElement b most outer i j child → i ≤ j
  element-le (IsElement.empty deep tag slash greater) = let bounds = tag-bounds tag in omega (arith, bounds.at)
  element-le (IsElement.filled deep tag greater pieces chars end) = let bounds = tag-bounds tag in omega (arith, bounds.at, pieces-le pieces, characters-le chars, end-le end)

  pub pieces-le : {b : List ℕ} {most outer i j : ℕ} {nodes : List Node} → ArePieces b most outer i j nodes → i ≤ j
  pieces-le ArePieces.none = omega arith
  pieces-le (ArePieces.comment pieces chars c) = omega (arith, pieces-le pieces, characters-le chars, comment-le c)
  pieces-le (ArePieces.element pieces chars child) = omega (arith, pieces-le pieces, characters-le chars, element-le child)

pub opens-more : (n m : ℕ) → n ≤ m → (opens : List Open) → AllByRecursion (IsOpenWithin n) opens → AllByRecursion (IsOpenWithin m) opens
opens-more n m le [] h = tt
opens-more n m le (top ∷ rest) h = ((h.0.0, omega (arith, h.0.1), all-more n m le top.attributes h.0.2), opens-more n m le rest h.1)

-- an element whose content goes on
open-within : {b : List ℕ} {i j : ℕ} {name : Part} {attributes : List (Part × Part)} (children : List Node) (rest : List Open) (m : ℕ) → IsStartTag b i name attributes j → j ≤ m → AllByRecursion (IsOpenWithin i) rest → AllByRecursion (IsOpenWithin m) (open_of i name attributes children ∷ rest)
open-within {i = i} {j = j} {attributes = attributes} children rest m tag le outer =
    let bounds = tag-bounds tag in
    ((bounds.order, omega (arith, bounds.name_to), all-more j m le attributes bounds.attributes_to), opens-more i m (omega (arith, bounds.at)) rest outer)

run-within : {b : List ℕ} {stop from n : ℕ} {reference : Option ℕ} → IsRun b stop from reference n → Within reference n
run-within (IsRun.whole chars) = tt
run-within (IsRun.partial chars lt p) = lt

run-le : {b : List ℕ} {stop from n : ℕ} {reference : Option ℕ} → IsRun b stop from reference n → from ≤ n
run-le (IsRun.whole chars) = characters-le chars
run-le (IsRun.partial chars lt p) = omega (arith, characters-le chars)

module _ {b : List ℕ} {most : ℕ} where
  pub upto-within : {n : ℕ} {opens : List Open} {root : Option Node} → Upto b most opens root n → AllByRecursion (IsOpenWithin n) opens
  upto-within (Upto.before head) = tt
  upto-within (Upto.after head element blank) = tt
  upto-within {n} (Upto.inside {k = k} {children = children} {rest = rest} deep tag ends pieces chars outer) = open-within (children ++ run_of k n) rest n tag (omega (arith, pieces-le pieces, characters-le chars)) (upto-within outer)

  tagged-within : {n m : ℕ} {top : Open} {rest : List Open} → IsTagged b most top rest n → n ≤ m → AllByRecursion (IsOpenWithin m) (top ∷ rest)
  tagged-within {n} {m} {top} {rest} tagged le =
      let listed = attributes-within tagged.listed in (
        (omega (arith, name-le tagged.named), omega (arith, listed.0), all-more n m le top.attributes listed.1),
        opens-more top.at m (omega (arith, tagged.name_from, name-le tagged.named, listed.0)) rest (upto-within tagged.outer),
      )

  pub reached-within : {n : ℕ} {does : Phase} {opens : List Open} {root : Option Node} → Reached b most does opens root n → IsWithin n (record { phase = does; opens = opens; root = root })
  reached-within (Reached.outside upto) = record { phase = tt; opens = tt }
  reached-within {n} (Reached.text {children = children} {rest = rest} deep tag ends pieces chars outer) = record { phase = run-within chars; opens = open-within children rest n tag (omega (arith, pieces-le pieces, run-le chars)) (upto-within outer) }
  reached-within (Reached.markup {n = n} {opens = opens} upto less) = record { phase = omega arith; opens = opens-more n (n + 1) (omega arith) opens (upto-within upto) }
  reached-within {n} (Reached.comment {from = from} {opens = opens} upto front) = record { phase = omega (arith, front.behind); opens = opens-more from n (omega (arith, front.behind)) opens (upto-within upto) }
  reached-within (Reached.declaration front) = record { phase = front.behind; opens = tt }
  reached-within {n} (Reached.name {at = at} {opens = opens} deep less named upto) = record { phase = tt; opens = opens-more at n (omega (arith, name-le named)) opens (upto-within upto) }
  reached-within (Reached.tag tagged white some) = record { phase = tt; opens = tagged-within tagged (omega arith) }
  reached-within (Reached.attribute tagged white some named) = record { phase = omega (arith, name-le named); opens = tagged-within tagged (omega (arith, name-le named)) }
  reached-within (Reached.equals tagged is_name white) = record { phase = (omega (arith, name-le is_name.named), each-le white); opens = tagged-within tagged (omega (arith, is_name.some, name-le is_name.named, each-le white)) }
  reached-within (Reached.quote tagged is_name before equals white) = record { phase = (omega (arith, name-le is_name.named), omega (arith, each-le before, each-le white)); opens = tagged-within tagged (omega (arith, is_name.some, name-le is_name.named, each-le before, each-le white)) }
  reached-within (Reached.value tagged is_name before equals behind quotes opens at chars) = record { phase = (omega (arith, name-le is_name.named), omega (arith, each-le before, each-le behind, at, run-le chars), run-within chars); opens = tagged-within tagged (omega (arith, is_name.some, name-le is_name.named, each-le before, each-le behind, at, run-le chars)) }
  reached-within (Reached.value_end tagged) = record { phase = tt; opens = tagged-within tagged (omega arith) }
  reached-within (Reached.slash tagged white slash) = record { phase = tt; opens = tagged-within tagged (omega (arith, each-le white)) }
  reached-within {n} (Reached.end_name {k = k} {top = top} {rest = rest} upto less slash copy le) = let sums = copy-sums copy in record { phase = omega (arith, sums.0, sums.1); opens = opens-more k n (omega (arith, sums.0, sums.1)) (top ∷ rest) (upto-within upto) }
  reached-within {n} (Reached.end_white {k = k} {top = top} {rest = rest} upto less slash copy white) = let sums = copy-sums copy in record { phase = tt; opens = opens-more k n (omega (arith, sums.0, sums.1, each-le white)) (top ∷ rest) (upto-within upto) }
