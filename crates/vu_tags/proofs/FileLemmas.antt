-- What tagging leaves of all files.
use Rattle.std.proofs.Common.{◌≡◌, ℕ, ◌+◌, ◌-◌, ◌<◌, ◌≤◌, false, List, [], ◌∷◌, ◌++◌, Option, Some, None, take, drop, refl, sym, ap, subst, ◌∙◌, inl, inr, append_assoc, append-nil, take-append-drop, arith}
use Rattle.std.proofs.lemmas.Bool.{cases_Bool}
use Rattle.std.proofs.lemmas.List.Elements.{All-nil, All-cons, filter_map-append}
use Rattle.std.proofs.lemmas.List.Sums.{sum_by-cons}
use Rattle.std.specs.Prelude.{All, IfSome, max}
use Rattle.std.specs.List.{concat, cons_option, filter_map, flat_map, fold, list_any, sum_by}
use Rattle.vu_tags.specs.Lines.{lines_of}
use Rattle.vu_tags.specs.Statements.{further_lines, needed_of, untagged_in}
use Rattle.vu_tags.specs.Tags.{has_malformed, is_wrong, number_of, numbers_of, past, start_of, tags_of}
use Rattle.vu_tags.specs.Tagged.{CanTag, Names, TellsPages, page_of, parameter_of, piece_of, tagged_file, tagged_from, tagged_of, with_piece}
use Rattle.vu_tags.specs.Kept.Adds.{nothing}
use Rattle.vu_tags.specs.Kept.{Adds, IsPut, Keeps, Part}
use Rattle.vu_tags.specs.Progress.{block_after, block_behind, is_untagged_in, page_after, tagged_ahead, untagged_ahead}
use Rattle.vu_tags.specs.declared.blocks.Block.{Block}
use Rattle.vu_tags.proofs.AgainLemmas.{adds_as, adds_join, all_stay, none_changed, none_left, none_wrong}
use Rattle.vu_tags.proofs.AheadLemmas.{tagged_file-ahead, untagged_in-ahead}
use Rattle.vu_tags.proofs.FedLemmas.{are_lines}
use Rattle.vu_tags.proofs.FrontLemmas.{fronts_of, malformed_fronts, numbers_tags, or_none}
use Rattle.vu_tags.proofs.LineLemmas.{lines_join}

line_keeps : (line old new : List ℕ) → Keeps old new → Keeps (line ++ old) (line ++ new)
line_keeps line old new kept = record {
  parts = record { kept = line; put = [] } ∷ kept.parts;
  new_is = ap (λ (bytes : List ℕ). line ++ bytes) kept.new_is ∙ ap (λ (l : List ℕ). l ++ flat_map (λ (part : Part). part.kept ++ part.put) kept.parts) (sym (append-nil line));
  old_is = ap (λ (bytes : List ℕ). line ++ bytes) kept.old_is;
  puts_are = All-cons (λ (part : Part). IsPut part.put) (record { kept = line; put = [] }) kept.parts (inl refl) kept.puts_are;
}

piece_keeps : (line page parameter : List ℕ) (number : ℕ) (old new : List ℕ) → Keeps old new → Keeps (line ++ old) (with_piece line (piece_of page parameter number) ++ new)
piece_keeps line page parameter number old new kept =
    let piece = piece_of page parameter number in
    let front = take 4 line in
    let back = drop 4 line in
    let more = line_keeps back old new kept in
    let first : Part = record { kept = front; put = piece } in
    record {
      parts = first ∷ more.parts;
      new_is = append_assoc front (piece ++ back) new ∙ ap (λ (bytes : List ℕ). front ++ bytes) (append_assoc piece back new)
          ∙ sym (append_assoc front piece (back ++ new)) ∙ ap (λ (bytes : List ℕ). (front ++ piece) ++ bytes) more.new_is;
      old_is = ap (λ (bytes : List ℕ). bytes ++ old) (sym (take-append-drop 4 line)) ∙ append_assoc front back old ∙ ap (λ (bytes : List ℕ). front ++ bytes) more.old_is;
      puts_are = All-cons (λ (part : Part). IsPut part.put) first more.parts (inr (page, parameter, number, refl)) more.puts_are;
    }

module _ (names : Names) (tells : TellsPages names) where
  file_none : (number : ℕ) (file : List ℕ) → untagged_in (tagged_file names number file) ≡ 0
  file_none number file =
      untagged_in-ahead (tagged_file names number file)
      ∙ ap (λ (bytes : List ℕ). untagged_ahead (block_behind []) (lines_of bytes)) (tagged_file-ahead names number file)
      ∙ none_left names tells (lines_of file) (are_lines file) (block_behind []) (page_of names []) number refl

  file_well : (number : ℕ) (file : List ℕ) → has_malformed file ≡ false → has_malformed (tagged_file names number file) ≡ false
  file_well number file well =
      malformed_fronts (tagged_file names number file)
      ∙ ap (λ (bytes : List ℕ). list_any is_wrong (fronts_of bytes)) (tagged_file-ahead names number file)
      ∙ none_wrong names tells (lines_of file) (are_lines file) (block_behind []) (page_of names []) number refl
      (ap (λ (bytes : List ℕ). list_any is_wrong (fronts_of bytes)) (lines_join file) ∙ sym (malformed_fronts file) ∙ well)

  file_stays : (number : ℕ) (file : List ℕ) → untagged_in file ≤ 100000 - number → Adds number (tags_of file) (tags_of (tagged_file names number file)) (number + untagged_in file)
  file_stays number file few =
      let same = untagged_in-ahead file in
      adds_as (ap tags_of (lines_join file)) (ap tags_of (sym (tagged_file-ahead names number file))) (ap (λ (n : ℕ). number + n) (sym same))
      (all_stay names tells (lines_of file) (are_lines file) (block_behind []) (page_of names []) number refl (omega arith))

  files_none : (number : ℕ) (files : List (List ℕ)) → sum_by untagged_in (tagged_from names number files) ≡ 0
  files_none number [] = refl
  files_none number (file ∷ files) =
      sum_by-cons untagged_in (tagged_file names number file) (tagged_from names (number + untagged_in file) files)
      ∙ rw (file_none number file, files_none (number + untagged_in file) files) refl

  files_well : (number : ℕ) (files : List (List ℕ)) → list_any has_malformed files ≡ false → list_any has_malformed (tagged_from names number files) ≡ false
  files_well number [] well = refl
  files_well number (file ∷ files) well =
      let parts = or_none _ _ well in
      rw (file_well number file parts.0) (files_well (number + untagged_in file) files parts.1)

  files_stay : (number : ℕ) (files : List (List ℕ)) → sum_by untagged_in files ≤ 100000 - number
      → Adds number (flat_map tags_of files) (flat_map tags_of (tagged_from names number files)) (number + sum_by untagged_in files)
  files_stay number [] few = adds_as refl refl (omega arith) (nothing {number = number})
  files_stay number (file ∷ files) few =
      let sum = sum_by-cons untagged_in file files in
      let end : number + untagged_in file + sum_by untagged_in files ≡ number + sum_by untagged_in (file ∷ files) = omega arith in
      adds_as refl refl end (adds_join (file_stays number file (omega arith)) (files_stay (number + untagged_in file) files (omega arith)))

file_same : (names : Names) (number : ℕ) (file : List ℕ) → untagged_in file ≡ 0 → tagged_file names number file ≡ file
file_same names number file none =
    tagged_file-ahead names number file
    ∙ none_changed names (lines_of file) (block_behind []) (page_of names []) number (sym (untagged_in-ahead file) ∙ none)
    ∙ lines_join file

files_same : (names : Names) (number : ℕ) (files : List (List ℕ)) → sum_by untagged_in files ≡ 0 → tagged_from names number files ≡ files
files_same names number [] none = refl
files_same names number (file ∷ files) none =
    let sum = sum_by-cons untagged_in file files in
    ap (λ (bytes : List ℕ). bytes ∷ tagged_from names (number + untagged_in file) files) (file_same names number file (omega arith))
    ∙ ap (λ (rest : List (List ℕ)). file ∷ rest) (files_same names (number + untagged_in file) files (omega arith))

-- tagging again
pub again : (names : Names) (first next : ℕ) (files : List (List ℕ)) → TellsPages names → CanTag first files
    → CanTag next (tagged_of names first files) × (tagged_of names next (tagged_of names first files) ≡ tagged_of names first files)
unfolding needed_of
again names first next files tells can =
    let none = files_none names tells (start_of first files) files in (
      record { well = files_well names tells (start_of first files) files can.well; enough = omega (arith, none) },
      files_same names _ (tagged_of names first files) none,
    )

-- all tags
pub stand : (names : Names) (first : ℕ) (files : List (List ℕ)) → TellsPages names → CanTag first files
    → Adds (start_of first files) (flat_map tags_of files) (flat_map tags_of (tagged_of names first files)) (start_of first files + needed_of files)
unfolding needed_of
stand names first files tells can = files_stay names tells (start_of first files) files can.enough

fold_grows : (start : ℕ) (numbers : List ℕ) → start ≤ fold past start numbers
fold_grows start [] = omega arith
fold_grows start (number ∷ numbers) = let more = fold_grows (max start (number + 1)) numbers in omega arith

-- the number of each tag is below the start
abbrev pub IsBelow : ℕ → List ℕ → Type 0
IsBelow bound tag = IfSome (number_of tag) (λ number. number < bound)

below_first : (start : ℕ) (tag : List ℕ) (tags : List (List ℕ)) (o : Option ℕ) → number_of tag ≡ o
    → ((first : ℕ) → All (IsBelow (fold past first (filter_map number_of tags))) tags) → All (IsBelow (fold past start (cons_option o (filter_map number_of tags)))) (tag ∷ tags)
below_first start tag tags None is rest =
    All-cons (IsBelow (fold past start (filter_map number_of tags))) tag tags (subst (λ (o : Option ℕ). IfSome o (λ number. number < fold past start (filter_map number_of tags))) (sym is) tt) (rest start)
below_first start tag tags (Some number) is rest =
    let next = max start (number + 1) in
    let more = fold_grows next (filter_map number_of tags) in
    All-cons (IsBelow (fold past next (filter_map number_of tags))) tag tags
    (subst (λ (o : Option ℕ). IfSome o (λ n. n < fold past next (filter_map number_of tags))) (sym is) (omega (arith, more))) (rest next)

below : (tags : List (List ℕ)) (start : ℕ) → All (IsBelow (fold past start (filter_map number_of tags))) tags
below [] start = All-nil (IsBelow start)
below (tag ∷ tags) start = below_first start tag tags (number_of tag) refl (below tags)

numbers_are : (files : List (List ℕ)) → flat_map numbers_of files ≡ filter_map number_of (flat_map tags_of files)
numbers_are [] = refl
numbers_are (file ∷ files) =
    ap (λ (numbers : List ℕ). numbers ++ flat_map numbers_of files) (numbers_tags file)
    ∙ ap (λ (numbers : List ℕ). filter_map number_of (tags_of file) ++ numbers) (numbers_are files)
    ∙ sym (filter_map-append number_of (tags_of file) (flat_map tags_of files))

pub all_below : (first : ℕ) (files : List (List ℕ)) → All (IsBelow (start_of first files)) (flat_map tags_of files)
unfolding start_of
all_below first files =
    let P : List ℕ → Type 0 = λ numbers. All (IsBelow (fold past first numbers)) (flat_map tags_of files) in
    subst P (sym (numbers_are files)) (below (flat_map tags_of files) first)

-- the bytes
lines_keep : (names : Names) (lines : List (List ℕ)) (block : Block) (page : List ℕ) (number : ℕ) → Keeps (concat lines) (tagged_ahead names block page number lines)
lines_keep names [] block page number = record { parts = []; new_is = refl; old_is = refl; puts_are = All-nil (λ (part : Part). IsPut part.put) }
lines_keep names (line ∷ after) block page number =
    let behind = block_after block line in
    let next = page_after names page line in
    elim (cases_Bool (is_untagged_in block line)) [
      | inl is ↦
          let later = lines_keep names after behind next (number + 1) in
          let parameter = parameter_of (concat (line ∷ further_lines after)) in
          rw is (piece_keeps line page parameter number (concat after) (tagged_ahead names behind next (number + 1) after) later)
      | inr isnt ↦ rw isnt (line_keeps line (concat after) (tagged_ahead names behind next number after) (lines_keep names after behind next number))
    ]

pub file_keeps : (names : Names) (number : ℕ) (file : List ℕ) → Keeps file (tagged_file names number file)
file_keeps names number file =
    let kept = lines_keep names (lines_of file) (block_behind []) (page_of names []) number in
    record {
      parts = kept.parts;
      new_is = tagged_file-ahead names number file ∙ kept.new_is;
      old_is = sym (lines_join file) ∙ kept.old_is;
      puts_are = kept.puts_are;
    }
