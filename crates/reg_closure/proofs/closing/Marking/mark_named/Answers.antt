use Rattle.std.proofs.Common.{◌≡◌, take, Contains, sym, subst, ◌∙◌, arith}
use Rattle.std.proofs.lemmas.List.{take_all}
use Rattle.reg_registry.specs.Naming.{Names}
use Rattle.reg_registry.specs.Rows.{id_at}
use Rattle.reg_closure.proofs.PlacedLemmas.{names-in, in-names}
use Rattle.reg_closure.proofs.MarkLemmas.{marks-as, listed-more}
use Rattle.reg_closure.proofs.closing.Marking.mark_named.Goals as goal

pub loop-id-preserved : goal.loop-id-preserved
loop-id-preserved c =
    listed-more c.as_slice-id-items.result.now c.loop-id.id-index (record { 0 = 0 }) c.loop-id-test.true c.args.self.now c.loop-id.self c.mark.new.self c.loop-id.invariant c.in_ok-mark.ensures

pub returns : goal.returns
returns c =
    let ids = c.as_slice-id-items.result.now in
    let all : take c.loop-id.id-index ids ≡ c.row.result.now.named = take_all c.loop-id.id-index ids (omega arith) ∙ c.as_slice-id-items.ensures in
    marks-as (λ place. Contains (take c.loop-id.id-index ids) (id_at place)) (Names c.args.r.now.rows c.args.name) c.args.self.now c.loop-id.self c.loop-id.invariant
    (λ place n. subst (λ xs. Contains xs (id_at place)) (sym all) (names-in c.args.r.now.rows c.args.name c.row.result.now c.row.ensures.row place n))
    (λ place k. in-names c.args.r.now.rows c.args.name c.row.result.now c.row.ensures.row place (subst (λ xs. Contains xs (id_at place)) all k))
