use Rattle.std.proofs.Common.{◌≡◌, ◌++◌, [], ◌∷◌, Some, ap, length, refl, subst, sym, ◌∙◌}
use Rattle.sat_core.specs.declared.entry.Entry.{Entry}
use Rattle.sat_core.specs.Asking.{Leads}
use Rattle.sat_core.specs.Searching.{State, held_in}
use Rattle.sat_core.specs.Trails.{decisions_of, under}
use Rattle.sat_core.proofs.AskingLemmas.{leads-implied, leads-under}
use Rattle.sat_core.proofs.SolvingLemmas.{learned-asserting, learned-further}
use Rattle.sat_core.proofs.solving.jump_back.Goals as goal

pub learn-requires-clause-asserts : goal.learn-requires-clause-asserts
learn-requires-clause-asserts c =
    learned-asserting c.args.search.now c.undo.new.self c.undo.new.self c.args.learned c.requires.learned c.requires.decisions c.trail.ensures.trail c.undo.ensures

pub returns-clause-further : goal.returns-clause-further
returns-clause-further c =
    learned-further c.args.search.now c.undo.new.self c.learn.new.self c.args.learned c.requires.learned c.requires.decisions c.trail.ensures.trail c.undo.ensures
    c.trail.ensures.few c.in_ok-learn.ensures.ok

pub returns-clause-leads : goal.returns-clause-leads
returns-clause-leads c =
    let old = c.args.search.now.trail in
    let back = c.args.learned.back in
    let undone = c.undo.new.self in
    let learns = c.in_ok-learn.ensures.ok in
    let entry : Entry = record { lit = learns.lit; decision = decisions_of undone.trail; reason = Some (length (held_in undone)) } in
    let now : undone.trail ≡ under back old = ap (λ (t : State). t.trail) c.undo.ensures in
    λ lit leads.
    subst (Leads lit) (sym (learns.trail_is ∙ ap (λ t. t ++ entry ∷ []) now))
    (leads-implied (under back old) entry (length (held_in undone)) refl lit (leads-under back old lit leads))
