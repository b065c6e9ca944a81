use Rattle.doc_cond.proofs.Cuts.{no_bracket_opener, no_names_opener, open_opener}
use Rattle.doc_cond.proofs.Families.{opening_begins}
use Rattle.doc_cond.proofs.lines.opener.Goals as goal

pub returns-in_default : goal.returns-in_default
returns-in_default c = record {
  begun = opening_begins c.args.negated c.args.rest.now;
  unspelled = no_bracket_opener c.args.negated c.args.rest.now c.in_default.ensures.none;
}

pub returns-in_default-before_last : goal.returns-in_default-before_last
returns-in_default-before_last c =
    let found = c.in-Some.ensures.found in
    record {
      begun = opening_begins c.args.negated c.args.rest.now;
      unspelled = open_opener c.args.negated c.args.rest.now c.in-Some.text.now c.in-Some.tail.now found.0 found.1 c.in_default-before_last.ensures.none;
    }

pub returns-in_default-2 : goal.returns-in_default-2
returns-in_default-2 c =
    let found = c.in-Some.ensures.found in
    let none = rw c.in_default-2.is at c.in_ok-condition.ensures in
    record {
      begun = opening_begins c.args.negated c.args.rest.now;
      unspelled = no_names_opener c.args.negated c.args.rest.now c.in-Some.text.now c.in-Some.tail.now found.0 found.1 none;
    }
