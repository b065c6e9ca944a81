use Rattle.std.proofs.Common.{◌≡◌, ◌∙◌, [], get_or, sym, ap, Err}
use Rattle.std.proofs.lemmas.List.{get_or_read}
use Rattle.std.proofs.lemmas.Result.{err_from_is_err_and}
use Rattle.vkb_formula.specs.Names.{most_names}
use Rattle.vkb_formula.specs.declared.name_table.NameFault.TheVariants.{Full}
use Rattle.doc_tree.proofs.NamesLemmas.{intern_each, intern_few, intern_full, intern_ids, intern_table}
use Rattle.doc_tree.proofs.draft.intern_all.Goals as goal

pub returns-in_err-id-clause-full : goal.returns-in_err-id-clause-full
returns-in_err-id-clause-full c =
    let names = c.args.names.now in
    let i = c.loop-name.name-index in
    let here : get_or names i [] ≡ c.as_slice.result.now = sym (c.as_slice.ensures ∙ get_or_read names i c.name-item.result c.loop-name-test.true c.name-item.is []) in
    let p = err_from_is_err_and c.from_residual.result c.from_residual.ensures.1 in
    rw (p.1, p.2) (λ full.
    let same : c.in_err-id.field-0.0 ≡ Full = cc full in
    let why = c.in_err-id.ensures.full.0 (ap Err same) in
    intern_full names c.args.table.now c.loop-name.table i c.as_slice.result.now c.loop-name-test.true here c.loop-name.invariant.table most_names why.0 why.1)

pub loop-name-preserved : goal.loop-name-preserved
loop-name-preserved c =
    let names = c.args.names.now in
    let i = c.loop-name.name-index in
    let here : get_or names i [] ≡ c.as_slice.result.now = sym (c.as_slice.ensures ∙ get_or_read names i c.name-item.result c.loop-name-test.true c.name-item.is []) in
    let was = c.loop-name.invariant in
    let put = c.in_ok-id.ensures in
    record {
      table = intern_table names c.args.table.now c.loop-name.table i c.as_slice.result.now c.loop-name-test.true here was.table c.intern.new.self put.table;
      ids = rw c.in_ok-put_last.ensures.ids (intern_ids names c.args.table.now c.loop-name.table i c.as_slice.result.now c.loop-name-test.true here was.table c.intern.new.self c.loop-name.ids.items c.in_ok-id.id put.table was.ids was.each put.held);
      few = λ start. intern_few c.loop-name.table c.intern.new.self c.as_slice.result.now most_names put.table (λ full. absurd (let wrong = put.full.1 full in cc)) (was.few start);
      each = rw c.in_ok-put_last.ensures.ids (intern_each names c.args.table.now c.loop-name.table i c.as_slice.result.now c.loop-name-test.true here was.table c.intern.new.self c.loop-name.ids.items c.in_ok-id.id put.table was.each put.held);
    }
