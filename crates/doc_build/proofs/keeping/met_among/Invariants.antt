use Rattle.std.proofs.Common.{◌≡◌, [], take}
use Rattle.doc_build.specs.Keeping.{meets_by, met_from}
use Rattle.doc_build.specs.Names.{is_on}
use Rattle.doc_build.proofs.keeping.met_among.Given as goal

-- the conditions so far are told of
abbrev pub invariant-loop-cond : goal.invariant-loop-cond
invariant-loop-cond l = l.made.items ≡ met_from (meets_by (is_on l.set)) [] (take l.cond-index l.conds)
