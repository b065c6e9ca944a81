use Rattle.std.proofs.Common.{List, ℕ, MatchResult, subst}
use Rattle.doc_cond.specs.Lines.{IsSpellingFault, Spells, bare}
use Rattle.doc_cond.proofs.Ascii.{ok_ascii}
use Rattle.doc_cond.proofs.Uniqueness.{read_as}
use Rattle.doc_cond.proofs.kind_of.Goals as goal

pub returns-clause-only : goal.returns-clause-only
returns-clause-only c = λ kind h.
    read_as kind (bare c.args.text.now) c.spelled.result h
    (subst (λ (line : List ℕ). MatchResult c.spelled.result (λ found. Spells found line) (IsSpellingFault line)) c.bare.ensures c.spelled.ensures)

pub returns-clause-ascii : goal.returns-clause-ascii
returns-clause-ascii c = ok_ascii (IsSpellingFault c.bare.result.now) c.bare.result.now c.spelled.result c.spelled.ensures
