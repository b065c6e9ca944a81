use Rattle.std.proofs.Common.{◌≡◌, ◌∙◌, ◌<◌, ℕ, ap, sym, subst, Bool, List, [], get_or, refl}
use Rattle.std.specs.Prelude.{count_by, position}
use Rattle.std.proofs.lemmas.List.{get_or-map}
use Rattle.vkb_formula.specs.Pools.{pool_values}
use Rattle.lift_survey.specs.declared.Case.{Case}
use Rattle.lift_ask.specs.Telling.{is_on, is_wrong_in}
use Rattle.lift_ask.proofs.FoundLemmas.{position-found, position-none}
use Rattle.lift_ask.proofs.breaking.broken_at.Goals as goal

abbrev none : Case
none = record { id = record { 0 = 0 }; node = record { 0 = 0 } }

pub unreachable-requires : goal.unreachable-requires
unreachable-requires c =
    let values : c.as_slice-2.result.now ≡ pool_values c.args.met.set c.args.pool.now =
    c.as_slice-2.ensures.value ∙ c.in_ok-values.ensures.values ∙ ap (λ (set : List Bool). pool_values set c.args.pool.now) c.as_slice.ensures in
    position-none (is_wrong_in (pool_values c.args.met.set c.args.pool.now) c.args.wrong.now) c.args.cases.now
    (ap (λ (vs : List Bool). position (is_wrong_in vs c.args.wrong.now) c.args.cases.now) (sym values) ∙ sym c.wrong_place.ensures ∙ c.in_default.is) c.requires.broken

pub returns : goal.returns
returns c =
    let values : c.as_slice-2.result.now ≡ pool_values c.args.met.set c.args.pool.now =
    c.as_slice-2.ensures.value ∙ c.in_ok-values.ensures.values ∙ ap (λ (set : List Bool). pool_values set c.args.pool.now) c.as_slice.ensures in
    let values_3 : c.as_slice-3.result.now ≡ pool_values c.args.met.set c.args.pool.now =
    c.as_slice-3.ensures.value ∙ c.in_ok-values.ensures.values ∙ ap (λ (set : List Bool). pool_values set c.args.pool.now) c.as_slice.ensures in
    let found =
    position-found (is_wrong_in (pool_values c.args.met.set c.args.pool.now) c.args.wrong.now) c.args.cases.now c.in-Some.place none
    (ap (λ (vs : List Bool). position (is_wrong_in vs c.args.wrong.now) c.args.cases.now) (sym values) ∙ sym c.wrong_place.ensures ∙ c.in-Some.is) in
    let case : Case = get_or c.args.cases.now c.in-Some.place none in
    let below = subst (λ (n : ℕ). case.id.0 < n) c.requires.count (c.requires.ids c.in-Some.place none found.0) in
    record {
      link = refl;
      set = refl;
      case = case;
      is_case = found.1;
      id_is = refl;
      wrong_is = found.2;
      counted =
          c.count_true-count.ensures
          ∙ ap (λ (vs : List Bool). count_by (is_on vs) c.as_slice-4.result.now) values_3
          ∙ ap (count_by (is_on (pool_values c.args.met.set c.args.pool.now)))
          (c.as_slice-4.ensures.value ∙ ap (λ list. list.items) c.index-table-id.is ∙ sym (get_or-map (λ list. list.items) c.args.table.now case.id.0 _ [] below));
    }
