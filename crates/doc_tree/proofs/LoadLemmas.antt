-- From nothing to a document.
use Rattle.std.proofs.Common.{◌≡◌, ◌∙◌, refl, sym, ap, subst, ℕ, ◌+◌, List, [], ◌∷◌, ◌++◌, length, Some, None, Result, Ok, Err, IfOk, IfErr, IfSome, slice_get, slice_index_or, arith}
use Rattle.std.proofs.lemmas.Option.{get_or_from_slice_get}
use Rattle.vkb_text.specs.Buffer.{Buffer}
use Rattle.doc_tree.specs.declared.Document.{Document}
use Rattle.doc_tree.specs.declared.fault.DocFault.{DocFault}
use Rattle.doc_tree.specs.declared.fault.DocFault.TheVariants as doc
use Rattle.doc_tree.specs.declared.source.SourceFile.{SourceFile}
use Rattle.doc_tree.specs.Answer.{Answers, told_of}
use Rattle.doc_tree.specs.Loaded.{flat_of}
use Rattle.doc_tree.specs.Names.{each_once}
use Rattle.doc_tree.specs.Running.{IsAt, RunsTo, opened_steps}
use Rattle.doc_tree.specs.Sources.{Sources}
use Rattle.doc_tree.specs.Walk.{Opens, Step, file_steps, first_fault, opened, steps_below, taken, walk}
use Rattle.doc_tree.proofs.RunLemmas.{run_stops, run_then}

-- no steps lead to a document of nothing
pub start_at : (sources : Sources) (room : ℕ) (text : Buffer) (d : Document) (kept : List SourceFile) → length text.bytes + room ≡ text.most → d ≡ record { files = []; names = []; conds = []; lines = [] } → IsAt sources room [] text d kept
start_at sources room text d kept left empty =
    subst (λ (e : Document). IsAt sources room [] text e kept) (sym empty) (record {
      opened_are = refl;
      lines_are = refl;
      size = omega arith;
      known = λ file name here. absurd (cc here);
    })

-- the root isn't opened
pub root_stops : (sources : Sources) (room : ℕ) (root : List ℕ) (fault : DocFault) → IfSome (told_of fault) (λ told. first_fault sources room [] (Opens root ∷ []) ≡ Some told) → IfSome (told_of fault) (λ told. first_fault sources room [] (walk sources root) ≡ Some told)
root_stops sources room root fault stops = run_stops sources room [] (Opens root ∷ []) (file_steps (steps_below sources 15) root [] (sources root)) fault stops

-- the root is opened, and its lines are taken
pub root_runs : {X : Type 0} (sources : Sources) (room : ℕ) (root : List ℕ) (d1 d2 : Document) (text2 : Buffer) (kept2 : List SourceFile) (file : ℕ) (result : Result X DocFault) → first_fault sources room [] (Opens root ∷ []) ≡ None → slice_get d1.files file ≡ Some root
    → RunsTo sources room (Opens root ∷ []) text2 d2 kept2 (opened_steps d1 15 file None sources) result → RunsTo sources room [] text2 d2 kept2 (walk sources root) result
root_runs sources room root d1 d2 text2 kept2 file result none here runs =
    let named : slice_index_or d1.files file [] ≡ root = get_or_from_slice_get d1.files file root [] here in
    let steps : opened_steps d1 15 file None sources ≡ file_steps (steps_below sources 15) root [] (sources root) = ap (λ (n : List ℕ). file_steps (steps_below sources 15) n [] (sources n)) named in
    run_then sources room [] (Opens root ∷ []) (file_steps (steps_below sources 15) root [] (sources root)) text2 d2 kept2 result none
    (subst (λ (ss : List Step). RunsTo sources room (Opens root ∷ []) text2 d2 kept2 ss result) steps runs)

-- the document is given, or there is no memory for it
pub answered : (sources : Sources) (room : ℕ) (steps : List Step) (text : List ℕ) (d : Document) (result : Result Document DocFault) → first_fault sources room [] steps ≡ None → flat_of text d ≡ taken steps → d.files ≡ each_once (opened steps) → IfOk result (λ given. given ≡ d) → IfErr result (λ fault. fault ≡ doc.Memory)
    → Answers sources room steps text result
answered sources room steps text d (Ok given) none lines files is wrong = (none, ap (flat_of text) is ∙ lines, ap (λ (e : Document). e.files) is ∙ files)
answered sources room steps text d (Err fault) none lines files is wrong = subst (λ (f : DocFault). IfSome (told_of f) (λ told. first_fault sources room [] steps ≡ Some told)) (sym wrong) tt

-- a fault on the way is the first
pub root_fails : (sources : Sources) (room : ℕ) (root : List ℕ) (d1 d2 : Document) (text2 : Buffer) (kept2 : List SourceFile) (file : ℕ) (fault : DocFault) → first_fault sources room [] (Opens root ∷ []) ≡ None → slice_get d1.files file ≡ Some root
    → IfSome (told_of fault) (λ told. first_fault sources room (Opens root ∷ []) (opened_steps d1 15 file None sources) ≡ Some told) → IfSome (told_of fault) (λ told. first_fault sources room [] (walk sources root) ≡ Some told)
root_fails sources room root d1 d2 text2 kept2 file fault none here runs = root_runs {X = Unit {0}} sources room root d1 d2 text2 kept2 file (Err fault) none here runs

-- without one the document is whole
pub root_done : (sources : Sources) (room : ℕ) (root : List ℕ) (d1 d2 : Document) (text2 : Buffer) (kept2 : List SourceFile) (file : ℕ) → first_fault sources room [] (Opens root ∷ []) ≡ None → slice_get d1.files file ≡ Some root
    → (first_fault sources room (Opens root ∷ []) (opened_steps d1 15 file None sources) ≡ None) × IsAt sources room (Opens root ∷ [] ++ opened_steps d1 15 file None sources) text2 d2 kept2
    → (first_fault sources room [] (walk sources root) ≡ None) × IsAt sources room ([] ++ walk sources root) text2 d2 kept2
root_done sources room root d1 d2 text2 kept2 file none here runs = root_runs {X = Unit {0}} sources room root d1 d2 text2 kept2 file (Ok (tt {0})) none here runs
