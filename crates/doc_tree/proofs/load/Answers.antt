use Rattle.std.proofs.Common.{[], ap, refl, ◌≡◌}
use Rattle.std.proofs.lemmas.Option.{slice_get_within}
use Rattle.std.proofs.lemmas.Result.{err_from_is_err_and}
use Rattle.doc_tree.specs.declared.Document.{Document}
use Rattle.doc_tree.specs.Walk.{walk}
use Rattle.doc_tree.proofs.LoadLemmas.{answered, root_done, root_fails, root_stops, start_at}
use Rattle.doc_tree.proofs.ReadsLemmas.{agree_before, by_both, by_names, by_same, by_then, read_by}
use Rattle.doc_tree.proofs.load.Goals as goal

pub returns-in_err-file-clause-document : goal.returns-in_err-file-clause-document
returns-in_err-file-clause-document g c =
    let p = err_from_is_err_and c.from_residual.result c.from_residual.ensures.1 in
    let none : c.new-draft.result.files ≡ [] = ap (λ (d : Document). d.files) c.new-draft.ensures in
    rw (p.1, p.2) (read_by (λ files. refl) (by_then (λ files others same. same) (by_names none c.in_err-file.ensures.runs) (λ files opens sources are room left.
    root_stops sources room c.args.root.now c.in_err-file.field-0.0 (opens sources are room [] (start_at sources room c.args.text.now c.new-draft.result c.new-kept.result.items left c.new-draft.ensures)))))

pub walk_file-requires-clause-file : goal.walk_file-requires-clause-file
walk_file-requires-clause-file g c = slice_get_within c.open_file.new.draft.files c.in_ok-file.file c.args.root.now c.in_ok-file.ensures.file

pub returns-in_err-walk_file-clause-document : goal.returns-in_err-walk_file-clause-document
returns-in_err-walk_file-clause-document g c =
    let p = err_from_is_err_and c.from_residual-in_err-walk_file.result c.from_residual-in_err-walk_file.ensures.1 in
    let none : c.new-draft.result.files ≡ [] = ap (λ (d : Document). d.files) c.new-draft.ensures in
    rw (p.1, p.2) (read_by (λ files. refl) (by_both c.in_ok-file.ensures.kept (c.open_file.new.draft.files, refl) (by_same c.open_file.new.draft.files)
    (by_names none c.in_ok-file.ensures.runs) c.in_err-walk_file.ensures.runs (λ files opens walks sources are room left.
    let o = opens sources are room [] (start_at sources room c.args.text.now c.new-draft.result c.new-kept.result.items left c.new-draft.ensures) in
    root_fails sources room c.args.root.now c.open_file.new.draft c.walk_file.new.draft c.walk_file.new.text c.walk_file.new.kept.items c.in_ok-file.file c.in_err-walk_file.field-0.0 o.0 c.in_ok-file.ensures.file (walks sources are room _ o.1))))

pub returns-clause-document : goal.returns-clause-document
returns-clause-document g c =
    let none : c.new-draft.result.files ≡ [] = ap (λ (d : Document). d.files) c.new-draft.ensures in
    read_by (λ files file name here. refl) (by_both c.in_ok-file.ensures.kept (c.open_file.new.draft.files, refl)
    (λ files others. agree_before c.open_file.new.draft.files c.walk_file.new.draft.files files others c.in_ok-walk_file.ensures.goes.grows.files)
    (by_names none c.in_ok-file.ensures.runs) c.in_ok-walk_file.ensures.runs (λ files opens walks sources are room left.
    let o = opens sources are room [] (start_at sources room c.args.text.now c.new-draft.result c.new-kept.result.items left c.new-draft.ensures) in
    let all = root_done sources room c.args.root.now c.open_file.new.draft c.walk_file.new.draft c.walk_file.new.text c.walk_file.new.kept.items c.in_ok-file.file o.0 c.in_ok-file.ensures.file (walks sources are room _ o.1) in
    answered sources room (walk sources c.args.root.now) c.walk_file.new.text.bytes c.walk_file.new.draft c.finish.result all.0 (all.1).lines_are (all.1).opened_are c.finish.ensures.document c.finish.ensures.fault))
