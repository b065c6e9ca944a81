use Rattle.std.proofs.Common.{sym, refl, List, subst}
use Rattle.std.specs.List.{AllZip}
use Rattle.lift_nodes.specs.declared.IdCase.{IdCase}
use Rattle.lift_survey.specs.declared.Case.{Case}
use Rattle.lift_survey.specs.Keeping.{AreCases, IsCaseOf}
use Rattle.lift_survey.proofs.GrowthLemmas.{Grows-then, constants-grown}
use Rattle.lift_survey.proofs.IdLemmas.{cases-by, cases-one}
use Rattle.lift_survey.proofs.ids.put_cases.Goals as goal

pub returns-then-not-may_name_page-clause-cases : goal.returns-then-not-may_name_page-clause-cases
returns-then-not-may_name_page-clause-cases c =
    let pool = c.args.pool.now in
    let ids = c.one_case.new.ids in
    let spot = c.args.spot in
    let found = c.in_ok-cases.ensures.case in
    subst (λ (cases : List Case). AreCases pool pool ids c.args.conds.now spot c.args.pages.now c.args.written.now cases) (sym found.1)
    (cases-one pool ids c.args.conds.now spot c.args.pages.now c.args.written.now (record { id = record { 0 = found.0 }; node = spot.standing }) refl c.requires.standing found.2
    (c.may_name_page.ensures c.if-not-may_name_page.true))

pub standing_cases-requires-clause-constants : goal.standing_cases-requires-clause-constants
standing_cases-requires-clause-constants c = constants-grown c.args.pool.now c.id_cases.new.pool c.args.constants c.in_ok-told.ensures.grows c.requires.constants_are

pub returns-clause-grows : goal.returns-clause-grows
returns-clause-grows c = Grows-then c.args.pool.now c.id_cases.new.pool c.standing_cases.new.pool c.in_ok-told.ensures.grows c.in_ok-cases-2.ensures.grows

pub returns-clause-cases : goal.returns-clause-cases
returns-clause-cases c =
    let pool = c.args.pool.now in
    let mid = c.id_cases.new.pool in
    let new = c.standing_cases.new.pool in
    let ids = c.standing_cases.new.ids in
    let spot = c.args.spot in
    cases-by pool mid new ids c.args.conds.now spot c.args.pages.now c.args.written.now c.in_ok-told.told.items c.in_ok-cases-2.cases c.in_ok-told.ensures.grows c.requires.standing c.in_ok-told.ensures.told
    (subst (λ (told : List IdCase). AllZip (IsCaseOf mid new ids spot.standing) told c.in_ok-cases-2.cases) c.as_slice.ensures.value c.in_ok-cases-2.ensures.cases)
