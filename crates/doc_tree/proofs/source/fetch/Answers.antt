use Rattle.std.proofs.Common.{◌∙◌}
use Rattle.std.proofs.lemmas.Result.{err_from_is_err_and}
use Rattle.doc_tree.proofs.ReadsLemmas.{fetched_failed, fetched_long, fetched_memory}
use Rattle.doc_tree.proofs.source.fetch.Goals as goal

pub returns-in_err-from_slice-in-Err-TooLong-clause-fetched : goal.returns-in_err-from_slice-in-Err-TooLong-clause-fetched
returns-in_err-from_slice-in-Err-TooLong-clause-fetched g c =
    let p = err_from_is_err_and c.from_residual-in_err-from_slice-in-Err-TooLong.result c.from_residual-in_err-from_slice-in-Err-TooLong.ensures.1 in
    rw (p.1, p.2) (fetched_memory (g.S.Shelf.holds c.args.shelf.now) c.args.name.now)

pub returns-in_ok-from_slice-in-Err-TooLong-clause-fetched : goal.returns-in_ok-from_slice-in-Err-TooLong-clause-fetched
returns-in_ok-from_slice-in-Err-TooLong-clause-fetched g c =
    fetched_long (g.S.Shelf.holds c.args.shelf.now) c.args.name.now c.in_ok-from_slice-in-Err-TooLong.field-0 (rw c.in-Err-TooLong.field-0-is at c.in-Err-TooLong.ensures.read) (c.in_ok-from_slice-in-Err-TooLong.ensures ∙ c.as_bytes-in-Err-TooLong.ensures.value)

pub returns-in-Err-Failed-clause-fetched : goal.returns-in-Err-Failed-clause-fetched
returns-in-Err-Failed-clause-fetched g c = fetched_failed (g.S.Shelf.holds c.args.shelf.now) c.args.name.now

pub returns-in-Err-Memory-clause-fetched : goal.returns-in-Err-Memory-clause-fetched
returns-in-Err-Memory-clause-fetched g c = fetched_memory (g.S.Shelf.holds c.args.shelf.now) c.args.name.now
