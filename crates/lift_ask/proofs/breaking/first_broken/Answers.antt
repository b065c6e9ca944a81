use Rattle.std.proofs.Common.{◌≡◌, ◌∙◌, ◌<◌, ap, sym, subst, All, List, Some, length, map, slice_get, arith}
use Rattle.std.specs.List.{list_any}
use Rattle.std.proofs.lemmas.List.{length-map}
use Rattle.std.proofs.lemmas.Option.{slice_get-get_or}
use Rattle.vkb_formula.specs.declared.pool.NodeId.{NodeId}
use Rattle.lift_survey.specs.declared.Case.{Case}
use Rattle.lift_survey.specs.Survey.{AreHeld}
use Rattle.sat_ask.specs.Meeting.{AreNeverMet, IsFirstMet, IsFirstOf}
use Rattle.lift_ask.specs.Questions.{AreQuestions, AreWrong, is_wrong_by}
use Rattle.lift_ask.specs.Telling.{IsToldOf}
use Rattle.lift_ask.proofs.FoundLemmas.{All-there, held-more, lists-more, met-broken, met-within, none-broken, table-held, told-is-first, wrong-count}
use Rattle.lift_ask.proofs.breaking.first_broken.Goals as goal

pub nodes_by_id-requires : goal.nodes_by_id-requires
nodes_by_id-requires c = λ k d below. (c.requires.anchors k d below).id

pub put_wrong-requires : goal.put_wrong-requires
put_wrong-requires c =
    subst (λ table. All (λ list. All (λ node. node.0 < length c.args.pool.now) list.items) table) (sym c.as_slice.ensures.value)
    (table-held (λ list. list.items) (length c.args.pool.now) c.args.ids c.args.anchors.now c.in_ok-table.table.items c.in_ok-table.ensures c.requires.anchors)

pub put_questions-requires-clause-links : goal.put_questions-requires-clause-links
put_questions-requires-clause-links c =
    let pool = c.args.pool.now in
    let mid = c.put_wrong.new.pool in
    let lists = map (λ list. list.items) c.in_ok-table.table.items in
    let wrong = c.in_ok-wrong.wrong.items in
    let are_wrong : AreWrong pool mid lists wrong = subst (λ table. AreWrong pool mid (map (λ list. list.items) table) wrong) c.as_slice.ensures.value c.in_ok-wrong.ensures.wrong in
    let same : c.args.ids ≡ length c.as_slice-2.result.now =
    sym (wrong-count pool mid lists wrong are_wrong ∙ c.in_ok-table.ensures.count) ∙ ap (λ (ws : List NodeId). length ws) (sym c.as_slice-2.ensures.value) in
    λ k d below. held-more (length pool) (length mid) c.args.ids (length c.as_slice-2.result.now) _ are_wrong.grows.count same (c.requires.links k d below)

pub returns-in-None-clause-first : goal.returns-in-None-clause-first
returns-in-None-clause-first c =
    let pool = c.args.pool.now in
    let mid = c.put_wrong.new.pool in
    let new = c.put_questions.new.pool in
    let lists = map (λ list. list.items) c.in_ok-table.table.items in
    let wrong = c.in_ok-wrong.wrong.items in
    let questions = c.in_ok-questions.questions.items in
    let are_wrong : AreWrong pool mid lists wrong = subst (λ table. AreWrong pool mid (map (λ list. list.items) table) wrong) c.as_slice.ensures.value c.in_ok-wrong.ensures.wrong in
    let asked : AreQuestions mid new wrong c.args.links.now questions = subst (λ (ws : List NodeId). AreQuestions mid new ws c.args.links.now questions) c.as_slice-2.ensures.value c.in_ok-questions.ensures.questions in
    none-broken c.args.ids pool mid new c.args.anchors.now c.args.links.now lists wrong questions c.in_ok-table.ensures are_wrong asked c.requires.links c.requires.anchors c.args.rule c.args.vars c.requires.rule
    (subst (λ (qs : List NodeId). AreNeverMet new c.args.rule.0 qs c.args.vars) c.as_slice-3.ensures.value (subst (IsFirstOf new c.args.rule.0 c.as_slice-3.result.now c.args.vars) c.in-None.is c.in_ok-found.ensures))

pub offset_bounds-links-met : goal.offset_bounds-links-met
offset_bounds-links-met c =
    let pool = c.args.pool.now in
    let mid = c.put_wrong.new.pool in
    let new = c.put_questions.new.pool in
    let lists = map (λ list. list.items) c.in_ok-table.table.items in
    let wrong = c.in_ok-wrong.wrong.items in
    let questions = c.in_ok-questions.questions.items in
    let are_wrong : AreWrong pool mid lists wrong = subst (λ table. AreWrong pool mid (map (λ list. list.items) table) wrong) c.as_slice.ensures.value c.in_ok-wrong.ensures.wrong in
    let asked : AreQuestions mid new wrong c.args.links.now questions = subst (λ (ws : List NodeId). AreQuestions mid new ws c.args.links.now questions) c.as_slice-2.ensures.value c.in_ok-questions.ensures.questions in
    let met : IsFirstMet new c.args.rule.0 questions c.args.vars c.in-Some.met =
    subst (λ (qs : List NodeId). IsFirstMet new c.args.rule.0 qs c.args.vars c.in-Some.met) c.as_slice-3.ensures.value (subst (IsFirstOf new c.args.rule.0 c.as_slice-3.result.now c.args.vars) c.in-Some.is c.in_ok-found.ensures) in
    let within : c.in-Some.met.question < length c.args.links.now = met-within c.args.ids pool mid new c.args.anchors.now c.args.links.now lists wrong questions c.in_ok-table.ensures are_wrong asked c.requires.links c.requires.anchors c.args.rule c.args.vars c.requires.rule c.in-Some.met met in
    omega (arith, within)

pub bounds-links-met : goal.bounds-links-met
bounds-links-met c =
    let pool = c.args.pool.now in
    let mid = c.put_wrong.new.pool in
    let new = c.put_questions.new.pool in
    let lists = map (λ list. list.items) c.in_ok-table.table.items in
    let wrong = c.in_ok-wrong.wrong.items in
    let questions = c.in_ok-questions.questions.items in
    let are_wrong : AreWrong pool mid lists wrong = subst (λ table. AreWrong pool mid (map (λ list. list.items) table) wrong) c.as_slice.ensures.value c.in_ok-wrong.ensures.wrong in
    let asked : AreQuestions mid new wrong c.args.links.now questions = subst (λ (ws : List NodeId). AreQuestions mid new ws c.args.links.now questions) c.as_slice-2.ensures.value c.in_ok-questions.ensures.questions in
    let met : IsFirstMet new c.args.rule.0 questions c.args.vars c.in-Some.met =
    subst (λ (qs : List NodeId). IsFirstMet new c.args.rule.0 qs c.args.vars c.in-Some.met) c.as_slice-3.ensures.value (subst (IsFirstOf new c.args.rule.0 c.as_slice-3.result.now c.args.vars) c.in-Some.is c.in_ok-found.ensures) in
    let within : c.in-Some.met.question < length c.args.links.now = met-within c.args.ids pool mid new c.args.anchors.now c.args.links.now lists wrong questions c.in_ok-table.ensures are_wrong asked c.requires.links c.requires.anchors c.args.rule c.args.vars c.requires.rule c.in-Some.met met in
    within

pub broken_at-requires-clause-count : goal.broken_at-requires-clause-count
broken_at-requires-clause-count c =
    let pool = c.args.pool.now in
    let mid = c.put_wrong.new.pool in
    let new = c.put_questions.new.pool in
    let lists = map (λ list. list.items) c.in_ok-table.table.items in
    let wrong = c.in_ok-wrong.wrong.items in
    let questions = c.in_ok-questions.questions.items in
    let are_wrong : AreWrong pool mid lists wrong = subst (λ table. AreWrong pool mid (map (λ list. list.items) table) wrong) c.as_slice.ensures.value c.in_ok-wrong.ensures.wrong in
    let asked : AreQuestions mid new wrong c.args.links.now questions = subst (λ (ws : List NodeId). AreQuestions mid new ws c.args.links.now questions) c.as_slice-2.ensures.value c.in_ok-questions.ensures.questions in
    ap (λ (ws : List NodeId). length ws) c.as_slice-in-Some.ensures.value ∙ wrong-count pool mid lists wrong are_wrong ∙ length-map c.in_ok-table.table.items (λ list. list.items) ∙ ap (λ table. length table) (sym c.as_slice-in-Some-2.ensures.value)

pub broken_at-requires-clause-lists : goal.broken_at-requires-clause-lists
broken_at-requires-clause-lists c =
    let pool = c.args.pool.now in
    let mid = c.put_wrong.new.pool in
    let new = c.put_questions.new.pool in
    let lists = map (λ list. list.items) c.in_ok-table.table.items in
    let wrong = c.in_ok-wrong.wrong.items in
    let questions = c.in_ok-questions.questions.items in
    let are_wrong : AreWrong pool mid lists wrong = subst (λ table. AreWrong pool mid (map (λ list. list.items) table) wrong) c.as_slice.ensures.value c.in_ok-wrong.ensures.wrong in
    let asked : AreQuestions mid new wrong c.args.links.now questions = subst (λ (ws : List NodeId). AreQuestions mid new ws c.args.links.now questions) c.as_slice-2.ensures.value c.in_ok-questions.ensures.questions in
    subst (λ table. All (λ list. All (λ node. node.0 < length new) list.items) table) (sym c.as_slice-in-Some-2.ensures.value)
    (lists-more (λ list. list.items) (length pool) (length new) c.in_ok-table.table.items (omega (arith, are_wrong.grows.count, asked.grows.count))
    (table-held (λ list. list.items) (length pool) c.args.ids c.args.anchors.now c.in_ok-table.table.items c.in_ok-table.ensures c.requires.anchors))

pub broken_at-requires-clause-nodes : goal.broken_at-requires-clause-nodes
broken_at-requires-clause-nodes c =
    let pool = c.args.pool.now in
    let mid = c.put_wrong.new.pool in
    let new = c.put_questions.new.pool in
    let lists = map (λ list. list.items) c.in_ok-table.table.items in
    let wrong = c.in_ok-wrong.wrong.items in
    let questions = c.in_ok-questions.questions.items in
    let are_wrong : AreWrong pool mid lists wrong = subst (λ table. AreWrong pool mid (map (λ list. list.items) table) wrong) c.as_slice.ensures.value c.in_ok-wrong.ensures.wrong in
    let asked : AreQuestions mid new wrong c.args.links.now questions = subst (λ (ws : List NodeId). AreQuestions mid new ws c.args.links.now questions) c.as_slice-2.ensures.value c.in_ok-questions.ensures.questions in
    let met : IsFirstMet new c.args.rule.0 questions c.args.vars c.in-Some.met =
    subst (λ (qs : List NodeId). IsFirstMet new c.args.rule.0 qs c.args.vars c.in-Some.met) c.as_slice-3.ensures.value (subst (IsFirstOf new c.args.rule.0 c.as_slice-3.result.now c.args.vars) c.in-Some.is c.in_ok-found.ensures) in
    let within : c.in-Some.met.question < length c.args.links.now = met-within c.args.ids pool mid new c.args.anchors.now c.args.links.now lists wrong questions c.in_ok-table.ensures are_wrong asked c.requires.links c.requires.anchors c.args.rule c.args.vars c.requires.rule c.in-Some.met met in
    let link = c.index-links-met.result in
    let here : slice_get c.args.links.now c.in-Some.met.question ≡ Some link = slice_get-get_or c.args.links.now c.in-Some.met.question _ within ∙ ap Some (sym c.index-links-met.is) in
    let there : AreHeld (length pool) c.args.ids link = All-there (AreHeld (length pool) c.args.ids) c.args.links.now c.in-Some.met.question link c.requires.links here in
    subst (All (λ (case : Case). case.node.0 < length new)) (sym c.as_slice-in-Some-3.ensures)
    (held-more (length pool) (length new) c.args.ids c.args.ids link (omega (arith, are_wrong.grows.count, asked.grows.count)) (λ i. c.args.ids) there).node

pub broken_at-requires-clause-ids : goal.broken_at-requires-clause-ids
broken_at-requires-clause-ids c =
    let pool = c.args.pool.now in
    let mid = c.put_wrong.new.pool in
    let new = c.put_questions.new.pool in
    let lists = map (λ list. list.items) c.in_ok-table.table.items in
    let wrong = c.in_ok-wrong.wrong.items in
    let questions = c.in_ok-questions.questions.items in
    let are_wrong : AreWrong pool mid lists wrong = subst (λ table. AreWrong pool mid (map (λ list. list.items) table) wrong) c.as_slice.ensures.value c.in_ok-wrong.ensures.wrong in
    let asked : AreQuestions mid new wrong c.args.links.now questions = subst (λ (ws : List NodeId). AreQuestions mid new ws c.args.links.now questions) c.as_slice-2.ensures.value c.in_ok-questions.ensures.questions in
    let met : IsFirstMet new c.args.rule.0 questions c.args.vars c.in-Some.met =
    subst (λ (qs : List NodeId). IsFirstMet new c.args.rule.0 qs c.args.vars c.in-Some.met) c.as_slice-3.ensures.value (subst (IsFirstOf new c.args.rule.0 c.as_slice-3.result.now c.args.vars) c.in-Some.is c.in_ok-found.ensures) in
    let within : c.in-Some.met.question < length c.args.links.now = met-within c.args.ids pool mid new c.args.anchors.now c.args.links.now lists wrong questions c.in_ok-table.ensures are_wrong asked c.requires.links c.requires.anchors c.args.rule c.args.vars c.requires.rule c.in-Some.met met in
    let link = c.index-links-met.result in
    let here : slice_get c.args.links.now c.in-Some.met.question ≡ Some link = slice_get-get_or c.args.links.now c.in-Some.met.question _ within ∙ ap Some (sym c.index-links-met.is) in
    let there : AreHeld (length pool) c.args.ids link = All-there (AreHeld (length pool) c.args.ids) c.args.links.now c.in-Some.met.question link c.requires.links here in
    subst (λ (ws : List NodeId). All (λ (case : Case). case.id.0 < length ws) c.as_slice-in-Some-3.result.now) (sym c.as_slice-in-Some.ensures.value)
    (subst (All (λ (case : Case). case.id.0 < length wrong)) (sym c.as_slice-in-Some-3.ensures)
    (held-more (length pool) (length pool) c.args.ids (length wrong) link (omega arith) (sym (wrong-count pool mid lists wrong are_wrong ∙ c.in_ok-table.ensures.count)) there).id)

pub broken_at-requires-clause-broken : goal.broken_at-requires-clause-broken
broken_at-requires-clause-broken c =
    let pool = c.args.pool.now in
    let mid = c.put_wrong.new.pool in
    let new = c.put_questions.new.pool in
    let lists = map (λ list. list.items) c.in_ok-table.table.items in
    let wrong = c.in_ok-wrong.wrong.items in
    let questions = c.in_ok-questions.questions.items in
    let are_wrong : AreWrong pool mid lists wrong = subst (λ table. AreWrong pool mid (map (λ list. list.items) table) wrong) c.as_slice.ensures.value c.in_ok-wrong.ensures.wrong in
    let asked : AreQuestions mid new wrong c.args.links.now questions = subst (λ (ws : List NodeId). AreQuestions mid new ws c.args.links.now questions) c.as_slice-2.ensures.value c.in_ok-questions.ensures.questions in
    let met : IsFirstMet new c.args.rule.0 questions c.args.vars c.in-Some.met =
    subst (λ (qs : List NodeId). IsFirstMet new c.args.rule.0 qs c.args.vars c.in-Some.met) c.as_slice-3.ensures.value (subst (IsFirstOf new c.args.rule.0 c.as_slice-3.result.now c.args.vars) c.in-Some.is c.in_ok-found.ensures) in
    let within : c.in-Some.met.question < length c.args.links.now = met-within c.args.ids pool mid new c.args.anchors.now c.args.links.now lists wrong questions c.in_ok-table.ensures are_wrong asked c.requires.links c.requires.anchors c.args.rule c.args.vars c.requires.rule c.in-Some.met met in
    let link = c.index-links-met.result in
    let here : slice_get c.args.links.now c.in-Some.met.question ≡ Some link = slice_get-get_or c.args.links.now c.in-Some.met.question _ within ∙ ap Some (sym c.index-links-met.is) in
    let there : AreHeld (length pool) c.args.ids link = All-there (AreHeld (length pool) c.args.ids) c.args.links.now c.in-Some.met.question link c.requires.links here in
    ap (λ (ws : List NodeId). list_any (is_wrong_by new ws c.in-Some.met.set) c.as_slice-in-Some-3.result.now) c.as_slice-in-Some.ensures.value
    ∙ ap (list_any (is_wrong_by new wrong c.in-Some.met.set)) c.as_slice-in-Some-3.ensures
    ∙ met-broken c.args.ids pool mid new c.args.anchors.now c.args.links.now lists wrong questions c.in_ok-table.ensures are_wrong asked c.requires.links c.requires.anchors c.args.rule c.args.vars c.requires.rule c.in-Some.met link met here

pub returns-clause-first : goal.returns-clause-first
returns-clause-first c =
    let pool = c.args.pool.now in
    let mid = c.put_wrong.new.pool in
    let new = c.put_questions.new.pool in
    let lists = map (λ list. list.items) c.in_ok-table.table.items in
    let wrong = c.in_ok-wrong.wrong.items in
    let questions = c.in_ok-questions.questions.items in
    let are_wrong : AreWrong pool mid lists wrong = subst (λ table. AreWrong pool mid (map (λ list. list.items) table) wrong) c.as_slice.ensures.value c.in_ok-wrong.ensures.wrong in
    let asked : AreQuestions mid new wrong c.args.links.now questions = subst (λ (ws : List NodeId). AreQuestions mid new ws c.args.links.now questions) c.as_slice-2.ensures.value c.in_ok-questions.ensures.questions in
    let met : IsFirstMet new c.args.rule.0 questions c.args.vars c.in-Some.met =
    subst (λ (qs : List NodeId). IsFirstMet new c.args.rule.0 qs c.args.vars c.in-Some.met) c.as_slice-3.ensures.value (subst (IsFirstOf new c.args.rule.0 c.as_slice-3.result.now c.args.vars) c.in-Some.is c.in_ok-found.ensures) in
    let within : c.in-Some.met.question < length c.args.links.now = met-within c.args.ids pool mid new c.args.anchors.now c.args.links.now lists wrong questions c.in_ok-table.ensures are_wrong asked c.requires.links c.requires.anchors c.args.rule c.args.vars c.requires.rule c.in-Some.met met in
    let link = c.index-links-met.result in
    let here : slice_get c.args.links.now c.in-Some.met.question ≡ Some link = slice_get-get_or c.args.links.now c.in-Some.met.question _ within ∙ ap Some (sym c.index-links-met.is) in
    let there : AreHeld (length pool) c.args.ids link = All-there (AreHeld (length pool) c.args.ids) c.args.links.now c.in-Some.met.question link c.requires.links here in
    let said : IsToldOf new wrong lists link.cases c.in-Some.met c.in_ok-broken-in-Some.broken =
    subst (λ (ws : List NodeId). IsToldOf new ws lists link.cases c.in-Some.met c.in_ok-broken-in-Some.broken) c.as_slice-in-Some.ensures.value
    (subst (λ table. IsToldOf new c.as_slice-in-Some.result.now (map (λ list. list.items) table) link.cases c.in-Some.met c.in_ok-broken-in-Some.broken) c.as_slice-in-Some-2.ensures.value
    (subst (λ (cases : List Case). IsToldOf new c.as_slice-in-Some.result.now (map (λ list. list.items) c.as_slice-in-Some-2.result.now) cases c.in-Some.met c.in_ok-broken-in-Some.broken) c.as_slice-in-Some-3.ensures c.in_ok-broken-in-Some.ensures)) in
    told-is-first c.args.ids pool mid new c.args.anchors.now c.args.links.now lists wrong questions c.in_ok-table.ensures are_wrong asked c.requires.links c.requires.anchors c.args.rule c.args.vars c.requires.rule c.in-Some.met link c.in_ok-broken-in-Some.broken met here said
