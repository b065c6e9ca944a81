use Rattle.std.proofs.Common.{sym, subst}
use Rattle.doc_cond.specs.declared.LineKind.TheVariants.{Begin, OneLine, Close, Chapter, Api, Validity, Refpage}
use Rattle.doc_cond.specs.Lines.{IsApi, IsChapter, IsValidity, Spells}
use Rattle.doc_cond.proofs.Ends.{bare_begin, bare_close, bare_ends, bare_include, bare_one_line, bare_refpage}
use Rattle.doc_cond.proofs.made_lines.Goals as goal

pub returns : goal.returns
returns c = record {
  ends = bare_ends;
  begin = λ negated any names line h. subst (Spells (Begin negated any names)) (sym (bare_begin negated any names line h)) h;
  one_line = λ negated any names from to line h. subst (Spells (OneLine negated any names from to)) (sym (bare_one_line negated any names from to line h)) h;
  close = λ any names line h. subst (Spells (Close any names)) (sym (bare_close any names line h)) h;
  chapter = λ file line h. subst (Spells (Chapter file)) (sym (bare_include (IsChapter file) line h)) h;
  api = λ name line h. subst (Spells (Api name)) (sym (bare_include (IsApi name) line h)) h;
  validity = λ name line h. subst (Spells (Validity name)) (sym (bare_include (IsValidity name) line h)) h;
  refpage = λ name line h. subst (Spells (Refpage name)) (sym (bare_refpage name line h)) h;
}
