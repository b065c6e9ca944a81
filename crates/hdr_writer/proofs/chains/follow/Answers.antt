use Rattle.std.proofs.Common.{◌≡◌, ◌<◌, Option, IfSome, length, refl, subst, arith, ap, ℕ}
use Rattle.vkb_formula.specs.declared.name_table.NameId.{NameId}
use Rattle.hdr_writer.proofs.ChainLemmas.{IsBehind, behind-more, behind-none, end-cut, end-there}
use Rattle.hdr_writer.proofs.chains.follow.Goals as goal

pub loop-steps-init : goal.loop-steps-init
loop-steps-init c = record {
  behind = behind-none c.args.r.now.rows c.args.id.0 (omega (arith, c.is_sound.ensures.rows_count, c.requires));
  held = c.requires;
}

pub loop-steps-preserved : goal.loop-steps-preserved
loop-steps-preserved c =
    let rows = c.args.r.now.rows in
    let F : Option NameId → Type 0 = λ o. IfSome o (λ id. id.0 < length c.args.r.now.names) in
    let within : c.in-Some.other.0 < length c.args.r.now.names = subst F c.in-Some.is c.row.ensures.sound.alias in
    record {
      behind = behind-more rows c.args.id.0 c.loop-steps.place.0 c.loop-steps.steps c.row.result.now c.in-Some.other c.loop-steps.invariant.behind c.row.ensures.row
          c.in-Some.is (omega (arith, within, c.is_sound.ensures.rows_count));
      held = within;
    }

pub returns-in-None-clause-end : goal.returns-in-None-clause-end
returns-in-None-clause-end c =
    end-there c.args.r.now.rows c.args.id.0 c.loop-steps.place.0 c.loop-steps.steps c.row.result.now _ c.loop-steps.invariant.behind c.row.ensures.row
    c.in-None.is (omega (arith, c.loop-steps-test.true, c.len-count.ensures.count, ap length c.names.ensures, c.is_sound.ensures.rows_count)) refl refl

pub returns-clause-end : goal.returns-clause-end
returns-clause-end c =
    let all : c.loop-steps.steps ≡ c.len-count.result = omega (arith, c.loop-steps-test.false, c.loop-steps.auto.steps-end) in
    let P : ℕ → Type 0 = IsBehind c.args.r.now.rows c.args.id.0 c.loop-steps.place.0 in
    end-cut c.args.r.now.rows c.args.id.0 c.loop-steps.place.0 _ (subst P all c.loop-steps.invariant.behind) refl
    (omega (arith, c.len-count.ensures.count, ap length c.names.ensures, c.is_sound.ensures.rows_count))
