use Rattle.std.proofs.Common.{◌≡◌, ◌∙◌, ◌||◌, [], ap, sym, List, ℕ, take, get_or}
use Rattle.std.specs.Str.{bytes_eq}
use Rattle.std.proofs.lemmas.List.{get_or_read}
use Rattle.std.proofs.lemmas.List.Folds.{list_any_more}
use Rattle.doc_tree.specs.Flat.{is_among}
use Rattle.doc_build.proofs.TableLemmas.{is_among-with_name}
use Rattle.doc_build.proofs.keeping.table_of.Goals as goal

pub loop-name-preserved : goal.loop-name-preserved
loop-name-preserved c = λ name.
    let names = c.args.names.now in
    let index = c.loop-name.name-index in
    let within = c.loop-name-test.true in
    let added = c.as_slice.result.now in
    let item : added ≡ get_or names index [] = c.as_slice.ensures ∙ get_or_read names index c.name-item.result within c.name-item.is [] in
    ap (λ (table : List (List ℕ)). is_among table name) c.in_ok-intern.ensures.table
    ∙ (is_among-with_name added c.loop-name.table name
    ∙ (ap (λ b. b || bytes_eq name added) (c.loop-name.invariant name)
    ∙ (ap (λ (n : List ℕ). is_among (take index names) name || bytes_eq name n) item
    ∙ sym (list_any_more (bytes_eq name) names index [] within))))
