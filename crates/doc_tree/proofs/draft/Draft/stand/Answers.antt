use Rattle.doc_tree.proofs.DraftLemmas.{stands-begin, stands-close, stands-one_line}
use Rattle.doc_tree.proofs.draft.Draft.stand.Goals as goal

pub returns-in_ok-cond-in-Begin-clause-stands : goal.returns-in_ok-cond-in-Begin-clause-stands
returns-in_ok-cond-in-Begin-clause-stands c =
    rw c.in-Begin.is (rw c.as_slice.ensures at (stands-begin c.args.self.now c.put_cond.new.self c.in-Begin.negated c.in-Begin.any c.as_slice.result.now c.args.within c.in_ok-cond-in-Begin.cond c.requires.conds c.requires.within c.in_ok-cond-in-Begin.ensures.puts))

pub returns-in_ok-cond-in-OneLine-clause-stands : goal.returns-in_ok-cond-in-OneLine-clause-stands
returns-in_ok-cond-in-OneLine-clause-stands c =
    rw c.in-OneLine.is (rw c.as_slice-in-OneLine.ensures at (stands-one_line c.args.self.now c.put_cond-in-OneLine.new.self c.in-OneLine.negated c.in-OneLine.any c.as_slice-in-OneLine.result.now c.args.within c.in_ok-cond-in-OneLine.cond c.requires.conds c.requires.within c.in_ok-cond-in-OneLine.ensures.puts c.in-OneLine.from c.in-OneLine.to))

pub returns-in-Close-clause-stands : goal.returns-in-Close-clause-stands
returns-in-Close-clause-stands c =
    rw (c.in-Close.is, c.outer-outer.ensures) (stands-close c.args.self.now c.in-Close.any c.in-Close.names c.args.within c.requires.conds c.requires.within)
