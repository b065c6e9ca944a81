-- What is known of the files of a shelf, by what was read of them.
use Rattle.std.proofs.Common.{◌≡◌, ◌≢◌, ◌∙◌, refl, sym, ap, subst, ℕ, zero, suc, ◌<◌, List, [], ◌∷◌, length, Option, Some, None, IfSome, Result, Ok, Err, OnOk, slice_get, arith, true, false, Bool}
use Rattle.std.specs.Cmp.Lexicographic.{bytes_decides}
use Rattle.std.specs.Map.{update}
use Rattle.std.specs.Str.{bytes_eq}
use Rattle.std.proofs.lemmas.Bool.{false_from_ne_true}
use Rattle.std.proofs.lemmas.Map.{update_other, update_same}
use Rattle.vkb_outside.specs.Shelf.{Files, Reads}
use Rattle.vkb_outside.specs.declared.shelf.ReadTrouble.TheVariants as read
use Rattle.vkb_text.specs.Buffer.{Buffer}
use Rattle.doc_tree.specs.declared.Document.{Document}
use Rattle.doc_tree.specs.declared.fault.DocFault.{DocFault}
use Rattle.doc_tree.specs.declared.fault.DocFault.TheVariants as doc
use Rattle.doc_tree.specs.declared.source.SourceFile.{SourceFile}
use Rattle.doc_tree.specs.Answer.{IsReadBy}
use Rattle.doc_tree.specs.Opening.{IsFetched}
use Rattle.doc_tree.specs.Progress.{Extends}
use Rattle.doc_tree.specs.Running.{Agree, ByReads, Goes, Learns, TurnsOut}
use Rattle.doc_tree.specs.Sources.{most_bytes}
use Rattle.doc_tree.proofs.DraftLemmas.{slice_get-stays}

-- ---- one read

-- some bytes are more than so many
longer : (count : ℕ) → (bytes : List ℕ) × (count < length bytes)
longer zero = (0 ∷ [], omega arith)
longer (suc count) = let less = longer count in (0 ∷ less.0, let longer = less.1 in omega arith)

-- it has too many bytes
pub fetched_long : (told : Option Files) (name named : List ℕ) → IfSome told (λ files. Reads files name most_bytes (Err read.TooLong)) → named ≡ name → IsFetched told name (Err (doc.TooLarge named))
fetched_long None name named reads same =
    let long = longer most_bytes in
    record { found = Some long.0; told_is = tt; fetches = (same, (long.0, refl, long.1)) }
fetched_long (Some files) name named reads same = record { found = files name; told_is = refl; fetches = (same, reads) }

-- nothing is known of it
pub fetched_failed : (told : Option Files) (name : List ℕ) → IsFetched told name (Err doc.ReadFault)
fetched_failed None name = record { found = None; told_is = tt; fetches = tt }
fetched_failed (Some files) name = record { found = files name; told_is = refl; fetches = tt }

pub fetched_memory : (told : Option Files) (name : List ℕ) → IsFetched told name (Err doc.Memory)
fetched_memory None name = record { found = None; told_is = tt; fetches = tt }
fetched_memory (Some files) name = record { found = files name; told_is = refl; fetches = tt }

-- ---- what holds by reads

-- the names of a list have the same where those of a longer one have
pub agree_before : (names more : List (List ℕ)) (files others : Files) → Extends names more → Agree more files others → Agree names files others
agree_before names more files others extends agree = λ file name here. agree file name (slice_get-stays names more file name extends here)

told_itself : (told : Option Files) (known : Files) → IfSome told (λ holds. known ≡ holds → known ≡ holds)
told_itself None known = tt
told_itself (Some holds) known = λ same. same

told_on : (told : Option Files) (known files more : Files) → IfSome told (λ holds. known ≡ holds → files ≡ holds) → IfSome told (λ holds. files ≡ holds → more ≡ holds) → IfSome told (λ holds. known ≡ holds → more ≡ holds)
told_on None known files more first second = tt
told_on (Some holds) known files more first second = λ same. second (first same)

-- nothing is read
pub by_none : {told : Option Files} {names : List (List ℕ)} {Later : Files → Files → Type 0} {P : Files → Type 0} → ((files : Files) → P files) → ByReads told names Later P
by_none {told = told} all = λ known. record {
  files = known;
  told_are = told_itself told known;
  kept = λ file name here. refl;
  holds = λ others later. all others;
}

-- what holds leads to something else
pub by_then : {told : Option Files} {names : List (List ℕ)} {Later After : Files → Files → Type 0} {P Q : Files → Type 0} → ((files others : Files) → After files others → Later files others)
    → ByReads told names Later P → ((files : Files) → P files → Q files) → ByReads told names After Q
by_then later by then = λ known.
    let it = by known in
    record { files = it.files; told_are = it.told_are; kept = it.kept; holds = λ others after. then others (it.holds others (later it.files others after)) }

-- reads, and then others on the same shelf
pub by_both : {told again : Option Files} {names more : List (List ℕ)} {Later : Files → Files → Type 0} {P Q R : Files → Type 0} → again ≡ told → Extends names more → ((files others : Files) → Later files others → Agree more files others)
    → ByReads told names (Agree more) P → ByReads again more Later Q → ((files : Files) → P files → Q files → R files) → ByReads told names Later R
by_both {told = told} {names = names} {more = more} {Later = Later} {Q = Q} same extends later first second both = λ known.
    let one = first known in
    let two = subst (λ (t : Option Files). Learns t more Later Q one.files) same (second one.files) in
    let kept = agree_before names more one.files two.files extends two.kept in
    record {
      files = two.files;
      told_are = told_on told known one.files two.files one.told_are two.told_are;
      kept = λ file name here. kept file name here ∙ one.kept file name here;
      holds = λ others after. both others (one.holds others (λ file name here. later two.files others after file name here ∙ two.kept file name here)) (two.holds others after);
    }

-- the files, with what was found under a name
abbrev with_found : List ℕ → Option (List ℕ) → Files → Files
with_found name found files = update bytes_eq files name found

found_here : (name : List ℕ) (found : Option (List ℕ)) (files : Files) → with_found name found files name ≡ found
found_here name found files = update_same bytes_eq files name found name ((bytes_decides name name).1 refl)

found_apart : (name : List ℕ) (found : Option (List ℕ)) (files : Files) (other : List ℕ) → name ≢ other → with_found name found files other ≡ files other
found_apart name found files other apart = update_other bytes_eq files name found other (false_from_ne_true (bytes_eq name other) (λ same. apart ((bytes_decides name other).0 same)))

found_in : (name : List ℕ) (files : Files) (other : List ℕ) (same : Bool) → bytes_eq name other ≡ same → with_found name (files name) files other ≡ files other
found_in name files other true same = update_same bytes_eq files name (files name) other same ∙ ap files ((bytes_decides name other).0 same)
found_in name files other false same = update_other bytes_eq files name (files name) other same

-- what a shelf holds under a name is nothing new
found_held : (name : List ℕ) (files : Files) → with_found name (files name) files ≡ files
found_held name files =
    let each : (other : List ℕ) → with_found name (files name) files other ≡ files other = λ other. found_in name files other (bytes_eq name other) refl in
    λ i. λ other. each other i

told_found : (told : Option Files) (name : List ℕ) (found : Option (List ℕ)) (known : Files) → IfSome told (λ holds. holds name ≡ found) → IfSome told (λ holds. known ≡ holds → with_found name found known ≡ holds)
told_found None name found known is = tt
told_found (Some holds) name found known is = λ same.
    ap (with_found name found) same ∙ ap (λ (f : Option (List ℕ)). with_found name f holds) (sym is) ∙ found_held name holds

-- a name that wasn't opened before is looked up
pub by_found : {told : Option Files} {names : List (List ℕ)} {Later : Files → Files → Type 0} {P : Files → Type 0} (name : List ℕ) (found : Option (List ℕ)) → ((file : ℕ) → slice_get names file ≢ Some name) → IfSome told (λ holds. holds name ≡ found)
    → ((files others : Files) → Later files others → others name ≡ files name) → ((files : Files) → files name ≡ found → P files) → ByReads told names Later P
by_found {told = told} name found new is later then = λ known. record {
  files = with_found name found known;
  told_are = told_found told name found known is;
  kept = λ file other here. found_apart name found known other (λ same. new file (here ∙ ap Some (sym same)));
  holds = λ others after. then others (later (with_found name found known) others after ∙ found_here name found known);
}

-- the same names
pub by_names : {told : Option Files} {names same : List (List ℕ)} {Later : Files → Files → Type 0} {P : Files → Type 0} → names ≡ same → ByReads told names Later P → ByReads told same Later P
by_names {told = told} {Later = Later} {P = P} are by = subst (λ (ns : List (List ℕ)). ByReads told ns Later P) are by

pub by_same : (names : List (List ℕ)) (files others : Files) → others ≡ files → Agree names files others
by_same names files others same = λ file name here. ap (λ (f : Files). f name) same

-- behind an answer the names that were opened before keep what they have
pub turns_on : {X : Type 0} (result : Result X DocFault) (text : Buffer) (d e : Document) (kept now : List SourceFile) → OnOk result (Goes text d e kept now) → (files others : Files) → TurnsOut result e.files files others → Agree d.files files others
turns_on (Ok done) text d e kept now goes files others agree = agree_before d.files e.files files others goes.grows.files agree
turns_on (Err fault) text d e kept now goes files others same = by_same d.files files others same

-- nothing was known at first, or what the shelf tells
pub read_by : {told : Option Files} {Later : Files → Files → Type 0} {P : Files → Type 0} → ((files : Files) → Later files files) → ByReads told [] Later P → IsReadBy told P
read_by {told = None} itself by =
    let it = by (λ name. None) in
    record { files = it.files; told_are = tt; holds = it.holds it.files (itself it.files) }
read_by {told = Some holds} itself by =
    let it = by holds in
    record { files = it.files; told_are = it.told_are refl; holds = it.holds it.files (itself it.files) }
