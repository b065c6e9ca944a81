use Rattle.std.proofs.Common.{◌≡◌, ◌<◌, ℕ, All, length, get_or, take, sym, ap, subst, ◌∙◌, arith}
use Rattle.std.proofs.lemmas.List.{take_all}
use Rattle.std.proofs.lemmas.List.Elements.{All-contains, All-more, All-weaker}
use Rattle.std.proofs.lemmas.Option.{same_Some, slice_get-get_or}
use Rattle.vkb_formula.specs.declared.name_table.NameId.{NameId}
use Rattle.reg_registry.specs.declared.circles.way.Met.{Met}
use Rattle.reg_registry.specs.Naming.{Names}
use Rattle.reg_registry.specs.Rows.{id_at}
use Rattle.reg_registry.specs.Ways.{IsSeen}
use Rattle.reg_registry.proofs.WalkEnterLemmas.{names-in}
use Rattle.reg_registry.proofs.WayLemmas.{more-more}
use Rattle.reg_registry.proofs.circles.way.Search.look_at.Goals as goal

pub loop-id-preserved : goal.loop-id-preserved
loop-id-preserved c = record {
  search = c.in_ok-meet.ensures.search;
  more = more-more _ c.loop-id.self _ c.loop-id.invariant.more c.in_ok-meet.ensures.more;
  seen =
      All-more (λ (id : NameId). IsSeen c.meet.new.self.seen id.0) c.as_slice-id-items.result.now c.loop-id.id-index _ (omega arith)
      (All-weaker (λ (id : NameId). IsSeen c.loop-id.self.seen id.0) (λ (id : NameId). IsSeen c.meet.new.self.seen id.0) (λ id s. c.in_ok-meet.ensures.more.seen id.0 s)
      (take c.loop-id.id-index c.as_slice-id-items.result.now) c.loop-id.invariant.seen)
      c.in_ok-meet.ensures.seen;
}

pub returns-clause-met : goal.returns-clause-met
returns-clause-met c entry here other names =
    let same : entry ≡ c.name-name.ensures.0 = same_Some entry c.name-name.ensures.0 (sym here ∙ c.name-name.ensures.1) in
    let name : entry.name ≡ c.name-name.result = ap (λ (x : Met). x.name) same ∙ c.name-name.ensures.2 in
    let within : c.name-name.result < length c.args.rows.now = omega (arith, c.requires.search.within c.args.place entry here, name) in
    let known = names-in c.args.rows.now c.name-name.result (get_or c.args.rows.now c.name-name.result c.index-rows-name.result)
    (slice_get-get_or c.args.rows.now c.name-name.result c.index-rows-name.result within) other (subst (λ (x : ℕ). Names c.args.rows.now x other) name names) in
    let all : All (λ (id : NameId). IsSeen c.loop-id.self.seen id.0) c.as_slice-id-items.result.now =
    subst (All (λ (id : NameId). IsSeen c.loop-id.self.seen id.0)) (take_all c.loop-id.id-index c.as_slice-id-items.result.now (omega arith)) c.loop-id.invariant.seen in
    All-contains (λ (id : NameId). IsSeen c.loop-id.self.seen id.0) (get_or c.args.rows.now c.name-name.result c.index-rows-name.result).named (id_at other)
    (subst (All (λ (id : NameId). IsSeen c.loop-id.self.seen id.0)) c.as_slice-id-items.ensures all) known
