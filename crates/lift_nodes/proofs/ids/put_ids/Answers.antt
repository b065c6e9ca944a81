use Rattle.std.proofs.Common.{◌≡◌, ◌∙◌, ◌∷◌, ◌<◌, ℕ, Bool, List, Some, All, ap, length, map, subst, sym}
use Rattle.std.specs.Bool.{OnTrue}
use Rattle.std.proofs.lemmas.List.Elements.{All-map}
use Rattle.doc_build.specs.Ids.{filled}
use Rattle.doc_tree.specs.Names.{each_once}
use Rattle.lift_nodes.specs.declared.IdCase.{IdCase}
use Rattle.lift_nodes.specs.declared.Source.{Source}
use Rattle.lift_nodes.specs.declared.ids.Giver.{Giver}
use Rattle.lift_nodes.specs.Cases.{later_sources, start_page}
use Rattle.lift_nodes.specs.Giving.{HaveNodes, giver_of}
use Rattle.lift_nodes.proofs.CaseLemmas.{cases-among, cases-different, cases-ids, cases-nodes, cases-one, cases-reach, cases-size, have-from, have-plain, later-held}
use Rattle.lift_nodes.proofs.GrownLemmas.{extends-itself}
use Rattle.lift_nodes.proofs.ids.put_ids.Goals as goal

-- what is written without `{refpage}`
pub returns-then-plain : goal.returns-then-plain
returns-then-plain c =
    let written = c.args.written.now in
    let p0 = c.args.pool.now in
    let stays : (page : List ℕ) → filled (Some page) written ≡ written =
    subst (λ (b : Bool). OnTrue b ((page : List ℕ) → filled (Some page) written ≡ written)) c.if-plain.true c.in_ok-plain.ensures in
    let start = filled (start_page c.args.covered c.args.sources.now) written in
    let givers = map (giver_of written) (later_sources c.args.covered c.args.sources.now) in
    let cases = c.in_ok-only.only.items in
    let have = subst (λ (cs : List IdCase). HaveNodes p0 p0 c.args.constants start givers (each_once (start ∷ map (λ giver. giver.id) givers)) cs) (sym c.in_ok-only.ensures)
    (have-plain p0 c.args.constants c.requires.constants written c.args.covered c.args.sources.now stays) in
    record {
      before = extends-itself p0;
      reach = cases-reach p0 p0 c.args.constants written c.args.covered c.args.sources.now cases have;
      size = cases-size p0 p0 c.args.constants written c.args.covered c.args.sources.now cases have;
      ids = cases-ids p0 p0 c.args.constants written c.args.covered c.args.sources.now cases have;
      different = cases-different p0 p0 c.args.constants written c.args.covered c.args.sources.now cases have;
      among = cases-among p0 p0 c.args.constants written c.args.covered c.args.sources.now cases have;
      one = cases-one p0 p0 c.args.constants written c.args.covered c.args.sources.now cases have;
      nodes = cases-nodes p0 p0 c.args.constants written c.args.covered c.args.sources.now cases have;
    }

pub put_cases-requires-clause-lines : goal.put_cases-requires-clause-lines
put_cases-requires-clause-lines c =
    let held = length c.args.pool.now in
    let later = later_sources c.args.covered c.args.sources.now in
    let are : map (giver_of c.args.written.now) later ≡ c.as_slice-2.result.now =
    ap (map (giver_of c.args.written.now)) (sym c.behind_start-later.ensures) ∙ (sym {A = List Giver} c.in_ok-givers.ensures ∙ sym c.as_slice-2.ensures.value) in
    subst (λ (gs : List Giver). All (λ giver. giver.line.0 < held) gs) are
    (All-map (λ (g : Giver). g.line.0 < held) (giver_of c.args.written.now) later (later-held (λ (s : Source). s.line.0 < held) c.args.covered c.args.sources.now c.requires.lines))

pub returns : goal.returns
returns c =
    let written = c.args.written.now in
    let start : c.as_slice.result.now ≡ filled (start_page c.args.covered c.args.sources.now) written =
    c.as_slice.ensures.value ∙ (c.in_ok-start.ensures ∙ ap (λ page. filled page written) c.page_before.ensures) in
    let givers : c.as_slice-2.result.now ≡ map (giver_of written) (later_sources c.args.covered c.args.sources.now) =
    c.as_slice-2.ensures.value ∙ (c.in_ok-givers.ensures ∙ ap (map (giver_of written)) c.behind_start-later.ensures) in
    let have = have-from c.args.pool.now c.put_cases.new.pool c.args.constants c.in_ok-cases.cases.items c.as_slice.result.now _ c.as_slice-2.result.now _ start givers c.in_ok-cases.ensures.nodes in
    let p0 = c.args.pool.now in
    let new = c.put_cases.new.pool in
    let cases = c.in_ok-cases.cases.items in
    record {
      before = c.in_ok-cases.ensures.before;
      reach = cases-reach p0 new c.args.constants written c.args.covered c.args.sources.now cases have;
      size = cases-size p0 new c.args.constants written c.args.covered c.args.sources.now cases have;
      ids = cases-ids p0 new c.args.constants written c.args.covered c.args.sources.now cases have;
      different = cases-different p0 new c.args.constants written c.args.covered c.args.sources.now cases have;
      among = cases-among p0 new c.args.constants written c.args.covered c.args.sources.now cases have;
      one = cases-one p0 new c.args.constants written c.args.covered c.args.sources.now cases have;
      nodes = cases-nodes p0 new c.args.constants written c.args.covered c.args.sources.now cases have;
    }
