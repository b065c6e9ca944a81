use Rattle.std.proofs.Common.{◌≡◌, ◌∙◌, sym, ap, ◌-◌, List, length, drop, take, get_or, Option, None, true, false, arith}
use Rattle.doc_tree.specs.declared.CondId.{CondId}
use Rattle.lift_nodes.specs.Cases.{nodes_under, page_from, page_of}
use Rattle.lift_nodes.specs.Nodes.{is_true}
use Rattle.lift_survey.specs.Keeping.{all_met}
use Rattle.lift_survey.proofs.GrowthLemmas.{Grows-by}
use Rattle.lift_survey.proofs.IdLemmas.{told-by}
use Rattle.lift_survey.proofs.PageLemmas.{page-hidden, rest-taken}
use Rattle.lift_survey.proofs.ids.id_cases.Goals as goal

pub returns-in_ok-told-in-Some-clause-grows : goal.returns-in_ok-told-in-Some-clause-grows
returns-in_ok-told-in-Some-clause-grows c =
    Grows-by c.args.pool.now c.put_ids.new.pool c.nodes_keep_their_meaning.ensures.formulas c.in_ok-told-in-Some.ensures.before c.in_ok-told-in-Some.ensures.reach

pub returns-in_ok-told-in-None-clause-grows : goal.returns-in_ok-told-in-None-clause-grows
returns-in_ok-told-in-None-clause-grows c =
    Grows-by c.args.pool.now c.put_ids-in-None.new.pool c.nodes_keep_their_meaning.ensures.formulas c.in_ok-told-in-None.ensures.before c.in_ok-told-in-None.ensures.reach

pub returns-in_ok-told-in-Some-clause-told : goal.returns-in_ok-told-in-Some-clause-told
returns-in_ok-told-in-Some-clause-told c =
    let pool = c.args.pool.now in
    let pages = c.args.pages.now in
    let conds = c.args.conds.now in
    let all = c.as_slice-sources.result.now in
    let place = c.in-Some.place in
    let sources = take (length all - place) (drop place all) in
    let same : all ≡ pages.sources.items = c.as_slice-sources.ensures.value in
    let withins : c.as_slice.result.now ≡ pages.withins.items = c.as_slice.ensures.value in
    let rest : sources ≡ drop place pages.sources.items = rest-taken place all ∙ ap (drop place) same in
    told-by pool c.put_ids.new.pool conds c.args.spot.within pages c.args.written.now (nodes_under c.args.constants true sources) _ _ true sources c.in_ok-told-in-Some.told.items
    c.in_ok-told-in-Some.ensures.different c.in_ok-told-in-Some.ensures.among c.in_ok-told-in-Some.ensures.nodes
    (λ set table names kept met.
    ap (page_of (is_true pool set) true) rest
    ∙ sym (page-hidden (is_true pool set) (all_met table names conds) None pages.sources.items pages.withins.items place kept (omega (arith, c.in-Some.ensures.within, ap (λ (ws : List (Option CondId)). length ws) withins, c.requires.count))
    (ap (λ (ws : List (Option CondId)). all_met table names conds (get_or ws place None)) (sym withins) ∙ c.in-Some.ensures.covers table names met)))

pub returns-in_ok-told-in-None-clause-told : goal.returns-in_ok-told-in-None-clause-told
returns-in_ok-told-in-None-clause-told c =
    let pool = c.args.pool.now in
    let pages = c.args.pages.now in
    let conds = c.args.conds.now in
    let sources = c.as_slice-sources.result.now in
    told-by pool c.put_ids-in-None.new.pool conds c.args.spot.within pages c.args.written.now (nodes_under c.args.constants false sources) _ _ false sources c.in_ok-told-in-None.told.items
    c.in_ok-told-in-None.ensures.different c.in_ok-told-in-None.ensures.among c.in_ok-told-in-None.ensures.nodes
    (λ set table names kept met. ap (page_from (is_true pool set) None) c.as_slice-sources.ensures.value)
