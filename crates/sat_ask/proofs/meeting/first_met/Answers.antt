use Rattle.std.proofs.Common.{◌≡◌, ◌-◌, List, map, length, take, drop, All, ap, subst, sym, ◌∙◌}
use Rattle.vkb_formula.specs.declared.pool.NodeId.{NodeId}
use Rattle.sat_cnf.specs.declared.lit.Lit.{Lit}
use Rattle.sat_cnf.specs.Clauses.{Cnf, IsWithin}
use Rattle.sat_cnf.specs.Encoding.{IsEncoding}
use Rattle.sat_ask.specs.Meeting.{roots_of}
use Rattle.sat_ask.proofs.MeetingLemmas.{all-behind, first-of}
use Rattle.sat_ask.proofs.meeting.first_met.Goals as goal

pub first_true-requires-clause-within : goal.first_true-requires-clause-within
first_true-requires-clause-within c =
    let vars : c.push.new.self.vars ≡ c.in_ok-clauses.clauses.vars = ap (λ (cnf : Cnf). cnf.vars) c.in_ok-push.ensures.ok in
    let P : List Lit → Type 0 = λ lits. All (IsWithin c.push.new.self.vars) (take (length lits - 1) (drop 1 lits)) in
    subst P (sym c.as_slice-3.ensures.value)
    (all-behind (IsWithin c.push.new.self.vars) c.in_ok-clauses.lits.items
    (subst (λ count. All (IsWithin count) c.in_ok-clauses.lits.items) (sym vars) c.in_ok-clauses.ensures.encoding.within))

pub returns-clause-first : goal.returns-clause-first
returns-clause-first c =
    let nodes = c.args.pool.now in
    let before = c.in_ok-clauses.clauses in
    let lits = c.in_ok-clauses.lits.items in
    let encoding : IsEncoding nodes (roots_of c.args.rule.0 c.args.questions.now) c.args.vars before lits =
    subst (λ (roots : List NodeId). IsEncoding nodes (map (λ (root : NodeId). root.0) roots) c.args.vars before lits)
    (c.as_slice.ensures.value ∙ c.in_ok-roots.ensures) c.in_ok-clauses.ensures.encoding in
    first-of nodes c.args.rule.0 c.args.questions.now c.args.vars before c.push.new.self lits _ _ encoding
    (ap (λ (cnf : Cnf). cnf.list) c.in_ok-push.ensures.ok) (ap (λ ls. take 1 ls) c.as_slice-2.ensures.value)
    (ap (λ (ls : List Lit). take (length ls - 1) (drop 1 ls)) c.as_slice-3.ensures.value) c.in_ok-first.first c.in_ok-first.ensures
