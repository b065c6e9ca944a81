use Rattle.std.proofs.Common.{◌∙◌, ap}
use Rattle.std.specs.List.{AllZip}
use Rattle.std.proofs.lemmas.Result.{err_from_is_err_and}
use Rattle.doc_tree.specs.Opening.{IsSure}
use Rattle.doc_tree.proofs.SourceLemmas.{bytes_of, file_bytes, is_source, kinds_few, kinds_told, pairs_told}
use Rattle.doc_tree.proofs.source.read_source.Goals as goal

pub returns-in_err-kinds-clause-fault : goal.returns-in_err-kinds-clause-fault
returns-in_err-kinds-clause-fault c =
    let after = c.put.new.text.bytes in
    let bytes_are = ap (bytes_of after) c.deref.ensures.value ∙ file_bytes c.args.text.now.bytes c.args.bytes.now after c.args.file c.in_ok-whole.whole c.in_ok-lines.lines.items c.in_ok-whole.ensures.text c.in_ok-whole.ensures.span c.in_ok-lines.ensures in
    let p = err_from_is_err_and c.from_residual-in_err-kinds.result c.from_residual-in_err-kinds.ensures.1 in
    rw (p.1, p.2) (kinds_told c.args.text.now c.args.name.now c.args.bytes.now (bytes_of after c.deref.result.now) c.in_err-kinds.field-0.0 bytes_are c.in_ok-whole.ensures.fits c.in_err-kinds.ensures.fault)

pub read_pairs-requires : goal.read_pairs-requires
read_pairs-requires c =
    let sure : AllZip IsSure (bytes_of c.put.new.text.bytes c.in_ok-lines.lines.items) c.in_ok-kinds.kinds.items = rw c.deref.ensures.value at c.in_ok-kinds.ensures.kinds in
    rw c.deref-2.ensures.value (kinds_few c.args.text.now.bytes c.args.bytes.now c.put.new.text.bytes c.args.file c.in_ok-whole.whole c.in_ok-lines.lines.items c.in_ok-kinds.kinds.items c.in_ok-whole.ensures.text c.in_ok-whole.ensures.span c.in_ok-lines.ensures sure c.requires)

pub returns-in_err-pairs-clause-fault : goal.returns-in_err-pairs-clause-fault
returns-in_err-pairs-clause-fault c =
    let sure : AllZip IsSure (bytes_of c.put.new.text.bytes c.in_ok-lines.lines.items) c.in_ok-kinds.kinds.items = rw c.deref.ensures.value at c.in_ok-kinds.ensures.kinds in
    let p = err_from_is_err_and c.from_residual-in_err-pairs.result c.from_residual-in_err-pairs.ensures.1 in
    rw (p.1, p.2) (pairs_told c.args.text.now.bytes c.args.bytes.now c.put.new.text.bytes c.args.file c.in_ok-whole.whole c.in_ok-lines.lines.items c.in_ok-kinds.kinds.items c.in_ok-whole.ensures.text c.in_ok-whole.ensures.span c.in_ok-lines.ensures sure
    c.args.text.now c.args.name.now c.in_err-pairs.field-0.0 c.in_ok-whole.ensures.fits (rw c.deref-2.ensures.value at c.in_err-pairs.ensures.fault))

pub returns-clause-source : goal.returns-clause-source
returns-clause-source c =
    let sure : AllZip IsSure (bytes_of c.put.new.text.bytes c.in_ok-lines.lines.items) c.in_ok-kinds.kinds.items = rw c.deref.ensures.value at c.in_ok-kinds.ensures.kinds in
    rw (c.from_vec.ensures, c.from_vec-2.ensures) (is_source c.args.text.now.bytes c.args.bytes.now c.put.new.text.bytes c.args.file c.in_ok-whole.whole c.in_ok-lines.lines.items c.in_ok-kinds.kinds.items c.in_ok-whole.ensures.text c.in_ok-whole.ensures.span c.in_ok-lines.ensures sure
    c.in_ok-pairs.pairs.items (rw c.deref-2.ensures.value at c.in_ok-pairs.ensures.pairs))
