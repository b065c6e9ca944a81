use Rattle.std.proofs.lemmas.Result.{err_from_is_err_and}
use Rattle.reg_rows.proofs.accept.Goals as goal

pub returns-in_err-values : goal.returns-in_err-values
returns-in_err-values c =
    let p = err_from_is_err_and c.from_residual-in_err-values.result c.from_residual-in_err-values.ensures.1 in
    rw (p.1, p.2) tt
