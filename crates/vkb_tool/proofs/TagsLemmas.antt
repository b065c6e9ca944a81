-- What a request to tag comes to.
use Rattle.std.proofs.Common.{inl, inr, ◌≡◌, ℕ, ◌+◌, ◌-◌, Bool, List, [], ◌∷◌, length, get_or, Option, Some, None, IsSome, IfSome, slice_get, if◌then◌else◌, All, refl, sym, ap, ◌∙◌, subst, arith}
use Rattle.std.specs.Str.{bytes_eq}
use Rattle.std.proofs.lemmas.Bool.{cases_Bool, false≢true}
use Rattle.std.proofs.lemmas.List.{length-map}
use Rattle.std.proofs.lemmas.List.Elements.{All-cons, All-head, All-nil, All-tail}
use Rattle.std.proofs.lemmas.Option.{none-some, same_Some, slice_get-get_or}
use Rattle.vkb_outside.specs.Shelf.{Files}
use Rattle.doc_tree.specs.Fault.{Fault as DocumentFault}
use Rattle.doc_tree.specs.Walk.{or_else}
use Rattle.vu_tags.specs.Statements.{needed_of, untagged_in}
use Rattle.vu_tags.specs.Tagged.{CanTag, IsTagFault, Names, TellsPages, left_of, tagged_from, tagged_of}
use Rattle.vu_tags.specs.Tags.{start_of}
use Rattle.vu_tags.specs.declared.TagFault.TheVariants as tags
use Rattle.vkb_tool.specs.declared.status.Status.TheVariants.{Refused}
use Rattle.vkb_tool.specs.declared.words.Request.TheVariants.{Tag}
use Rattle.vkb_tool.specs.Answer.{AreHeld}
use Rattle.vkb_tool.specs.Fault.{Fault, BadTag, InDocument, InRegistry, NoNumber, NotPermitted, UnknownOption}
use Rattle.vkb_tool.specs.Outcome.{AreRead, Effect, IsTagsFault, Outcome, Put, most_text, puts_tags, refused, tagged, writes_alone}
use Rattle.vkb_tool.specs.Report.{fault_line}
use Rattle.vkb_tool.specs.Tagging.{TellsOfTags, bad_tag, new_tags, no_number}
use Rattle.vkb_tool.specs.Tags.{changed, found_fault, read_fault, text_of, texts_of}
use Rattle.vkb_tool.specs.Words.{Spells}
use Rattle.vkb_tool.proofs.MalformedLemmas.{Standing, bad_there, can_tag, malformed, same_bad, stands, too_few}

-- each line that includes a page has a name
abbrev pub HavePages : Type 0
HavePages = (pages : Names) × TellsPages pages

-- and only one
abbrev pub OnePages : Type 0
OnePages = (pages others : Names) → TellsPages pages → TellsPages others → pages ≡ others

-- ---- one first fault

-- a tag that is malformed stands in the way of the numbers
never_both : (first : ℕ) (texts : List (List ℕ)) (place line needed left : ℕ) → IsTagFault first texts (tags.BadTag place line) → IsTagFault first texts (tags.NoNumber needed left) → ⊥
never_both first texts place line needed left bad few = false≢true (sym few.0.well ∙ (bad_there texts place line bad).0)

pub same_tags_fault : (files : Files) (first : ℕ) (names : List (List ℕ)) (fault other : Fault) → IsTagsFault files first names fault → IsTagsFault files first names other → fault ≡ other
same_tags_fault files first names (InRegistry file api wrong) other is also = absurd is
same_tags_fault files first names fault (InRegistry file api wrong) is also = absurd also
same_tags_fault files first names (UnknownOption word) other is also = absurd is
same_tags_fault files first names (NotPermitted option) other is also = absurd is
same_tags_fault files first names fault (UnknownOption word) is also = absurd also
same_tags_fault files first names fault (NotPermitted option) is also = absurd also
same_tags_fault files first names (InDocument fault) (InDocument other) is also = ap InDocument (same_Some fault other (sym is ∙ also))
same_tags_fault files first names (InDocument fault) (BadTag file line) is also = absurd (none-some fault (sym also.0 ∙ is))
same_tags_fault files first names (InDocument fault) (NoNumber needed left) is also = absurd (none-some fault (sym also.0 ∙ is))
same_tags_fault files first names (BadTag file line) (InDocument fault) is also = absurd (none-some fault (sym is.0 ∙ also))
same_tags_fault files first names (NoNumber needed left) (InDocument fault) is also = absurd (none-some fault (sym is.0 ∙ also))
same_tags_fault files first names (BadTag file line) (BadTag name number) (read, (place, named, is)) (reread, (at, called, also)) =
    let same = same_bad (texts_of files names) place line at number is also in
    let files_are : file ≡ name = same_Some file name (sym named ∙ ap (slice_get names) same.0 ∙ called) in
    let lines_are : line ≡ number = same.1 in
    cc
same_tags_fault files first names (BadTag file line) (NoNumber needed left) (read, (place, named, is)) (reread, few) =
    absurd (never_both first (texts_of files names) place line needed left is few)
same_tags_fault files first names (NoNumber needed left) (BadTag file line) (reread, few) (read, (place, named, is)) =
    absurd (never_both first (texts_of files names) place line needed left is few)
same_tags_fault files first names (NoNumber needed left) (NoNumber count rest) (read, few) (reread, also) =
    let needed_are : needed ≡ count = few.1 ∙ sym also.1 in
    let left_are : left ≡ rest = few.2 ∙ sym also.2 in
    cc

-- ---- what was read

or_else_none : (one other : Option DocumentFault) → or_else one other ≡ None → (one ≡ None) × (other ≡ None)
or_else_none None other none = (refl, none)
or_else_none (Some fault) other none = absurd (none-some fault (sym none))

found_there : (room : ℕ) (name : List ℕ) (found : Option (List ℕ)) → found_fault room name found ≡ None → IsSome found
found_there room name None none = absurd (none-some _ (sym none))
found_there room name (Some bytes) none = refl

-- files that were read are there
are_there : (files : Files) (room : ℕ) (names : List (List ℕ)) → read_fault files room names ≡ None → All (λ name. IsSome (files name)) names
are_there files room [] read = All-nil (λ (name : List ℕ). IsSome (files name))
are_there files room (name ∷ names) read =
    let both = or_else_none (found_fault room name (files name)) (read_fault files (room - length (text_of (files name))) names) read in
    All-cons (λ (other : List ℕ). IsSome (files other)) name names (found_there room name (files name) both.0) (are_there files (room - length (text_of (files name))) names both.1)

-- files that change are among those that were given
among_names : (P : List ℕ → Type 0) (names olds news : List (List ℕ)) → All P names → All (λ (put : Put). P put.0) (changed names olds news)
among_names P [] olds news all = All-nil (λ (put : Put). P put.0)
among_names P (name ∷ names) [] news all = All-nil (λ (put : Put). P put.0)
among_names P (name ∷ names) (old ∷ olds) [] all = All-nil (λ (put : Put). P put.0)
among_names P (name ∷ names) (old ∷ olds) (new ∷ news) all =
    let rest = among_names P names olds news (All-tail P name names all) in
    let more = changed names olds news in
    elim (cases_Bool (bytes_eq old new)) [
      | inl same ↦ subst (λ (b : Bool). All (λ (put : Put). P put.0) (if b then more else (name, new) ∷ more)) (sym same) rest
      | inr differs ↦
          subst (λ (b : Bool). All (λ (put : Put). P put.0) (if b then more else (name, new) ∷ more)) (sym differs)
          (All-cons (λ (put : Put). P put.0) (name, new) more (All-head P name names all) rest)
    ]

-- ---- what is told

-- where tags can be given no fault stands
can_none : (files : Files) (first : ℕ) (names : List (List ℕ)) → AreRead files names → CanTag first (texts_of files names) → (fault : Fault) → ¬ IsTagsFault files first names fault
can_none files first names read can (InRegistry file api fault) is = is
can_none files first names read can (InDocument fault) is = none-some fault (sym read ∙ is)
can_none files first names read can (UnknownOption word) is = is
can_none files first names read can (NotPermitted option) is = is
can_none files first names read can (BadTag file line) (also, (place, named, is)) = false≢true (sym can.well ∙ (bad_there (texts_of files names) place line is).0)
can_none files first names read can (NoNumber needed left) (also, few) = let more = few.0.too_few in let enough = can.enough in omega arith

module _ (have : HavePages) where
  -- what is told of files that were read is what the words and the files come to
  pub tags_told : (words : List (List ℕ)) (files : Files) (first : ℕ) (names texts : List (List ℕ)) (effect : Effect) → Spells words (Tag first names) → AreRead files names → texts ≡ texts_of files names
      → TellsOfTags names texts first effect → Outcome words files effect
  tags_told words files first names texts effect spelled read same (bad_tag tells) =
      let is : IsTagFault first (texts_of files names) (tags.BadTag tells.place tells.line) = subst (λ (ts : List (List ℕ)). IsTagFault first ts (tags.BadTag tells.place tells.line)) same tells.is in
      subst (λ (e : Effect). Outcome words files e) (sym tells.told) (refused (Tag first names) (BadTag tells.file tells.line) spelled (read, (tells.place, tells.named, is)))
  tags_told words files first names texts effect spelled read same (no_number tells) =
      let is : IsTagFault first (texts_of files names) (tags.NoNumber tells.needed tells.left) = subst (λ (ts : List (List ℕ)). IsTagFault first ts (tags.NoNumber tells.needed tells.left)) same tells.is in
      subst (λ (e : Effect). Outcome words files e) (sym tells.told) (refused (Tag first names) (NoNumber tells.needed tells.left) spelled (read, is))
  tags_told words files first names texts effect spelled read same (new_tags tells) =
      let can : CanTag first (texts_of files names) = subst (λ (ts : List (List ℕ)). CanTag first ts) same tells.can in
      let told : effect ≡ puts_tags have.0 first names (texts_of files names) = tells.told have.0 have.1 ∙ ap (λ (ts : List (List ℕ)). puts_tags have.0 first names ts) same in
      subst (λ (e : Effect). Outcome words files e) (sym told) (tagged first names have.0 spelled (can_none files first names read can) have.1)

  -- the files that are put are there
  pub tags_held : (told : Option Files) (first : ℕ) (names texts : List (List ℕ)) (effect : Effect) → IfSome told (λ files. AreRead files names × (texts ≡ texts_of files names)) → TellsOfTags names texts first effect
      → AreHeld told effect.puts
  tags_held None first names texts effect read tells = tt
  tags_held (Some files) first names texts effect read (bad_tag tells) = subst (λ (e : Effect). AreHeld (Some files) e.puts) (sym tells.told) (All-nil (λ (put : Put). IsSome (files put.0)))
  tags_held (Some files) first names texts effect read (no_number tells) = subst (λ (e : Effect). AreHeld (Some files) e.puts) (sym tells.told) (All-nil (λ (put : Put). IsSome (files put.0)))
  tags_held (Some files) first names texts effect read (new_tags tells) =
      subst (λ (e : Effect). AreHeld (Some files) e.puts) (sym (tells.told have.0 have.1))
      (among_names (λ name. IsSome (files name)) names texts (tagged_of have.0 first texts) (are_there files most_text names read.0))

  -- the words and the files come to something
  tags_come : (words : List (List ℕ)) (files : Files) (first : ℕ) (names : List (List ℕ)) → Spells words (Tag first names) → AreRead files names → Standing first (texts_of files names)
      → (effect : Effect) × Outcome words files effect
  tags_come words files first names spelled read (malformed place line is) =
      let there = (bad_there (texts_of files names) place line is).1 in
      let counted = length-map names (λ (name : List ℕ). text_of (files name)) in
      let file = get_or names place [] in
      (writes_alone Refused (fault_line (BadTag file line)), refused (Tag first names) (BadTag file line) spelled (read, (place, slice_get-get_or names place [] (omega arith), is)))
  tags_come words files first names spelled read (too_few few) =
      let needed = needed_of (texts_of files names) in
      let left = left_of first (texts_of files names) in
      (writes_alone Refused (fault_line (NoNumber needed left)), refused (Tag first names) (NoNumber needed left) spelled (read, (few, refl, refl)))
  tags_come words files first names spelled read (can_tag can) =
      (puts_tags have.0 first names (texts_of files names), tagged first names have.0 spelled (can_none files first names read can) have.1)

  pub tags_come_to : (words : List (List ℕ)) (files : Files) (first : ℕ) (names : List (List ℕ)) (fault : Option DocumentFault) → Spells words (Tag first names) → read_fault files most_text names ≡ fault
      → (effect : Effect) × Outcome words files effect
  tags_come_to words files first names (Some fault) spelled read = (writes_alone Refused (fault_line (InDocument fault)), refused (Tag first names) (InDocument fault) spelled read)
  tags_come_to words files first names None spelled read = tags_come words files first names spelled read (stands first (texts_of files names))

-- as many files are tagged as there are
length-tagged_from : (pages : Names) (number : ℕ) (files : List (List ℕ)) → length (tagged_from pages number files) ≡ length files
length-tagged_from pages number [] = refl
length-tagged_from pages number (file ∷ files) = let rest = length-tagged_from pages (number + untagged_in file) files in omega arith

pub length-tagged : (pages : Names) (first : ℕ) (files : List (List ℕ)) → length (tagged_of pages first files) ≡ length files
length-tagged pages first files = length-tagged_from pages (start_of first files) files
