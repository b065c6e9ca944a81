-- A path is one exactly where each of its pieces is a part.
use Rattle.std.proofs.Common.{◌≡◌, ◌∷◌, [], ℕ, List, true, false, refl, sym, ap, ◌∙◌, subst, arith, ◌==◌}
use Rattle.std.specs.List.{AllByRecursion, list_all}
use Rattle.std.proofs.lemmas.Bool.{and_from}
use Rattle.std.proofs.lemmas.List.Splits.{join_with_byte-slice_split, length-slice_split}
use Rattle.doc_cond.specs.Lines.{IsPart, IsPath, is_path_byte, lacks}
use Rattle.doc_cond.proofs.Pieces.{pieces, pieces-join, run_lacks, lacks-join}

-- a byte that stands in no part
parts_lack : (c : ℕ) (parts : List (List ℕ)) → is_path_byte c ≡ false → AllByRecursion IsPart parts → list_all (λ bytes. lacks bytes c) parts ≡ true
parts_lack c [] fails each = refl
parts_lack c (part ∷ parts) fails each = and_from (lacks part c) (list_all (λ bytes. lacks bytes c) parts) (run_lacks is_path_byte c part fails each.0.run) (parts_lack c parts fails each.1)

pub path_from_pieces : (text : List ℕ) → AllByRecursion IsPart (pieces 47 text) → IsPath text
path_from_pieces text each = (pieces 47 text, omega (arith, length-slice_split (λ b. b == 47) text), each, sym (join_with_byte-slice_split 47 text))

pub pieces_from_path : (text : List ℕ) → IsPath text → AllByRecursion IsPart (pieces 47 text)
pieces_from_path text (parts, some, each, spelled) =
    let same : pieces 47 text ≡ parts = ap (pieces 47) spelled ∙ pieces-join 47 parts some (parts_lack 47 parts refl each) in
    subst (AllByRecursion IsPart) (sym same) each

-- a path has no bracket
pub path_lacks : (c : ℕ) (text : List ℕ) → is_path_byte c ≡ false → (47 == c) ≡ false → IsPath text → lacks text c ≡ true
path_lacks c text fails apart (parts, some, each, spelled) = ap (λ bytes. lacks bytes c) spelled ∙ lacks-join c 47 parts apart (parts_lack c parts fails each)
