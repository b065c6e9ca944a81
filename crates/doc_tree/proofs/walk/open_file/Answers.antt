use Rattle.std.proofs.Common.{◌≡◌, ◌≢◌, ◌∙◌, ◌++◌, ◌∷◌, [], ℕ, List, Option, Some, length, slice_get, refl, sym, ap, subst}
use Rattle.std.proofs.lemmas.Result.{err_from_is_err_and}
use Rattle.vkb_outside.specs.Shelf.{Files}
use Rattle.doc_tree.specs.declared.Document.{Document}
use Rattle.doc_tree.specs.declared.source.SourceFile.{SourceFile}
use Rattle.doc_tree.specs.Opening.{IsSourceFile}
use Rattle.doc_tree.specs.Running.{Goes, IsAt}
use Rattle.doc_tree.specs.Sources.{IsSource}
use Rattle.doc_tree.specs.Walk.{Opens}
use Rattle.doc_tree.proofs.DraftLemmas.{slice_get-last}
use Rattle.doc_tree.proofs.OpenLemmas.{fetch_fails, open_held, open_new, opens_goes, source_fails}
use Rattle.doc_tree.proofs.ReadsLemmas.{by_found, by_none}
use Rattle.doc_tree.proofs.walk.open_file.Goals as goal

pub returns-in-Some-clause-runs : goal.returns-in-Some-clause-runs
returns-in-Some-clause-runs g c =
    by_none (λ files sources are room before was.
    open_held sources room before c.args.text.now c.args.draft.now c.args.kept.now.items was c.args.name.now c.in-Some.file (rw c.as_bytes.ensures.value at c.in-Some.ensures.found))

pub returns-in_err-bytes-clause-runs : goal.returns-in_err-bytes-clause-runs
returns-in_err-bytes-clause-runs g c =
    let new : (file : ℕ) → slice_get c.args.draft.now.files file ≢ Some c.args.name.now = rw c.as_bytes.ensures.value at c.in_default.ensures.none in
    let p = err_from_is_err_and c.from_residual.result c.from_residual.ensures.1 in
    let fetched = c.in_err-bytes.ensures.fetched in
    let name = c.args.name.now in
    rw (p.1, p.2) (by_found name fetched.found new fetched.told_is (λ files others same. ap (λ (f : Files). f name) same) (λ files found sources are room before was.
    fetch_fails sources room before c.args.text.now c.args.draft.now c.args.kept.now.items was name new fetched.found c.in_err-bytes.field-0.0 fetched.fetches (subst (λ (o : Option (List ℕ)). IsSource o (sources name)) found (are name))))

pub returns-in_err-file-clause-runs : goal.returns-in_err-file-clause-runs
returns-in_err-file-clause-runs g c =
    let p = err_from_is_err_and c.from_residual-in_err-file.result c.from_residual-in_err-file.ensures.1 in
    rw (p.1, p.2, c.in_err-file.ensures.fault) (by_none (λ files sources are room before was. tt))

pub returns-in_err-source-clause-runs : goal.returns-in_err-source-clause-runs
returns-in_err-source-clause-runs g c =
    let new : (file : ℕ) → slice_get c.args.draft.now.files file ≢ Some c.args.name.now = rw c.as_bytes.ensures.value at c.in_default.ensures.none in
    let p = err_from_is_err_and c.from_residual-in_err-source.result c.from_residual-in_err-source.ensures.1 in
    let fetched = c.in_ok-bytes.ensures.fetched in
    let name = c.args.name.now in
    rw (p.1, p.2) (by_found name fetched.found new fetched.told_is (λ files others same. ap (λ (f : Files). f name) same) (λ files found sources are room before was.
    source_fails sources room before c.args.text.now c.args.draft.now c.args.kept.now.items was name new c.in_ok-bytes.bytes.items c.in_err-source.field-0.0 c.in_ok-bytes.ensures.within
    (subst (λ (o : Option (List ℕ)). IsSource o (sources name)) (found ∙ fetched.fetches) (are name)) (rw c.deref.ensures.value at c.in_err-source.ensures.fault)))

pub returns-in_err-push-clause-runs : goal.returns-in_err-push-clause-runs
returns-in_err-push-clause-runs g c =
    let p = err_from_is_err_and c.from_residual-in_err-push.result c.from_residual-in_err-push.ensures.1 in
    rw (p.1, p.2) (by_none (λ files sources are room before was. tt))

pub returns-clause-goes : goal.returns-clause-goes
returns-clause-goes g c =
    let old = c.args.draft.now in
    let name = c.args.name.now in
    let kept = c.args.kept.now.items in
    let source = c.in_ok-source.source in
    let bytes = c.in_ok-bytes.bytes.items in
    let text = c.args.text.now.bytes in
    let after_is : c.read_source.new.text.bytes ≡ text ++ bytes = rw c.deref.ensures.value at c.in_ok-source.ensures.text in
    let file : IsSourceFile (text ++ bytes) bytes (length old.files) source = rw (c.in_ok-source.ensures.text, c.deref.ensures.value, c.in_ok-file.ensures.last) at c.in_ok-source.ensures.source in
    let draft_is : record old { files = old.files ++ name ∷ [] } ≡ c.add_file.new.self = sym (rw c.as_bytes-2.ensures.value at c.in_ok-file.ensures.files) in
    subst (λ (k : List SourceFile). Goes c.read_source.new.text old c.add_file.new.self kept k) (sym c.in_ok-push.ensures.items)
    (subst (λ (d : Document). Goes c.read_source.new.text old d kept (kept ++ source ∷ [])) draft_is (opens_goes text bytes old kept name source c.requires.there file c.read_source.new.text after_is))

pub returns-clause-file : goal.returns-clause-file
returns-clause-file g c =
    let old = c.args.draft.now in
    let name = c.args.name.now in
    let draft_is : c.add_file.new.self ≡ record old { files = old.files ++ name ∷ [] } = rw c.as_bytes-2.ensures.value at c.in_ok-file.ensures.files in
    ap (λ (d : Document). slice_get d.files c.in_ok-file.file) draft_is ∙ slice_get-last old.files name c.in_ok-file.file c.in_ok-file.ensures.last

pub returns-clause-runs : goal.returns-clause-runs
returns-clause-runs g c =
    let old = c.args.draft.now in
    let name = c.args.name.now in
    let kept = c.args.kept.now.items in
    let source = c.in_ok-source.source in
    let bytes = c.in_ok-bytes.bytes.items in
    let text = c.args.text.now.bytes in
    let new : (file : ℕ) → slice_get old.files file ≢ Some name = rw c.as_bytes.ensures.value at c.in_default.ensures.none in
    let after_is : c.read_source.new.text.bytes ≡ text ++ bytes = rw c.deref.ensures.value at c.in_ok-source.ensures.text in
    let file : IsSourceFile (text ++ bytes) bytes (length old.files) source = rw (c.in_ok-source.ensures.text, c.deref.ensures.value, c.in_ok-file.ensures.last) at c.in_ok-source.ensures.source in
    let draft_is : record old { files = old.files ++ name ∷ [] } ≡ c.add_file.new.self = sym (rw c.as_bytes-2.ensures.value at c.in_ok-file.ensures.files) in
    let fetched = c.in_ok-bytes.ensures.fetched in
    let held : slice_get c.add_file.new.self.files (length old.files) ≡ Some name = ap (λ (d : Document). slice_get d.files (length old.files)) (sym draft_is) ∙ slice_get-last old.files name (length old.files) refl in
    by_found name fetched.found new fetched.told_is (λ files others agree. agree (length old.files) name held) (λ files found sources are room before was.
    let runs = open_new text bytes old kept name source c.requires.there file sources room before c.args.text.now c.read_source.new.text refl after_is c.in_ok-source.ensures.most (rw c.deref.ensures.value at c.in_ok-source.ensures.fits) c.in_ok-bytes.ensures.within
    (subst (λ (o : Option (List ℕ)). IsSource o (sources name)) (found ∙ fetched.fetches) (are name)) new was in (
      runs.0,
      subst (λ (k : List SourceFile). IsAt sources room (before ++ Opens name ∷ []) c.read_source.new.text c.add_file.new.self k) (sym c.in_ok-push.ensures.items)
          (subst (λ (d : Document). IsAt sources room (before ++ Opens name ∷ []) c.read_source.new.text d (kept ++ source ∷ [])) draft_is runs.1),
    ))
