use Rattle.std.proofs.Common.{rules, ◌≡◌, ◌∙◌, ◌++◌, ◌∷◌, [], sym, ap}
use Rattle.std.proofs.lemmas.List.{append_assoc}
use Rattle.std.specs.List.{list_all}
use Rattle.doc_cond.specs.Lines.{is_run, is_name_byte}
use Rattle.doc_cond.proofs.Pieces.{pieces, pieces_cut, pieces_whole, fails_at, passes_push}
use Rattle.doc_cond.proofs.names.parts.Goals as goal

pub returns-then-not-is_name : goal.returns-then-not-is_name
returns-then-not-is_name c =
    let found = c.in-Some.ensures.found in
    let cut : pieces c.args.separator c.loop-name.rest.now ≡ c.in-Some.name.now ∷ pieces c.args.separator c.in-Some.more.now = ap (pieces c.args.separator) found.0 ∙ pieces_cut c.args.separator c.in-Some.name.now c.in-Some.more.now found.1 in
    fails_at (is_run is_name_byte) c.loop-name.names.items c.in-Some.name.now (pieces c.args.separator c.in-Some.more.now) _
    (ap (λ more. c.loop-name.names.items ++ more) (sym cut) ∙ c.loop-name.invariant.whole)
    (sym c.is_name.ensures ∙ c.if-not-is_name.true)

pub loop-name-preserved : goal.loop-name-preserved
loop-name-preserved c =
    let found = c.in-Some.ensures.found in
    let cut : pieces c.args.separator c.loop-name.rest.now ≡ c.in-Some.name.now ∷ pieces c.args.separator c.in-Some.more.now = ap (pieces c.args.separator) found.0 ∙ pieces_cut c.args.separator c.in-Some.name.now c.in-Some.more.now found.1 in
    let pushed : c.push.new.self.items ≡ c.loop-name.names.items ++ c.in-Some.name.now ∷ [] = search rules in
    record {
      whole = ap (λ front. front ++ pieces c.args.separator c.in-Some.more.now) pushed ∙ (append_assoc c.loop-name.names.items (c.in-Some.name.now ∷ []) _ ∙ (ap (λ more. c.loop-name.names.items ++ more) (sym cut) ∙ c.loop-name.invariant.whole));
      each = ap (list_all (is_run is_name_byte)) pushed ∙ passes_push (is_run is_name_byte) c.loop-name.names.items c.in-Some.name.now c.loop-name.invariant.each (sym c.is_name.ensures ∙ c.if-not-is_name.false);
    }

pub returns-then-not-is_name-2 : goal.returns-then-not-is_name-2
returns-then-not-is_name-2 c =
    let cut : pieces c.args.separator c.loop-name.rest.now ≡ c.loop-name.rest.now ∷ [] = pieces_whole c.args.separator c.loop-name.rest.now c.in_default.ensures.none in
    fails_at (is_run is_name_byte) c.loop-name.names.items c.loop-name.rest.now [] _
    (ap (λ more. c.loop-name.names.items ++ more) (sym cut) ∙ c.loop-name.invariant.whole)
    (sym c.is_name-2.ensures ∙ c.if-not-is_name-2.true)

pub returns : goal.returns
returns c =
    let cut : pieces c.args.separator c.loop-name.rest.now ≡ c.loop-name.rest.now ∷ [] = pieces_whole c.args.separator c.loop-name.rest.now c.in_default.ensures.none in
    let pushed : c.push-2.new.self.items ≡ c.loop-name.names.items ++ c.loop-name.rest.now ∷ [] = search rules in
    let whole : c.push-2.new.self.items ≡ pieces c.args.separator c.args.text.now = pushed ∙ (ap (λ more. c.loop-name.names.items ++ more) (sym cut) ∙ c.loop-name.invariant.whole) in
    (whole, ap (list_all (is_run is_name_byte)) (sym whole ∙ pushed) ∙ passes_push (is_run is_name_byte) c.loop-name.names.items c.loop-name.rest.now c.loop-name.invariant.each (sym c.is_name-2.ensures ∙ c.if-not-is_name-2.false))
