use Rattle.std.proofs.Common.{◌≡◌, length, arith, ap, length-append}
use Rattle.std.proofs.lemmas.List.Elements.{All-append}
use Rattle.sat_cnf.specs.Clauses.{IsWithin}
use Rattle.sat_cnf.proofs.ClauseLemmas.{AreEnds-push, cut_at-push}
use Rattle.sat_cnf.proofs.clauses.Clauses.push.Goals as goal

pub invariant_of-self-2 : goal.invariant_of-self-2
invariant_of-self-2 c =
    let end : c.len.result ≡ length c.extend_from_slice.new.self.items = omega (arith, c.len.ensures) in
    rw (c.push_reserved.ensures.items, end, c.in_ok-extend_from_slice.ensures.items, c.reserve.ensures.items) (
      AreEnds-push 0 _ _ _ c.self.invariant.0 (omega (arith, length-append c.self.inside.literals.items c.args.clause.now)),
      All-append (IsWithin c.self.inside.vars) c.self.inside.literals.items c.args.clause.now c.self.invariant.1 (rw (ap (λ v. v.vars) c.self.view_is) c.requires),
    )

pub returns-clause-ok : goal.returns-clause-ok
returns-clause-ok c =
    let end : c.len.result ≡ length c.extend_from_slice.new.self.items = omega (arith, c.len.ensures) in
    rw (c.push_reserved.ensures.items, end, c.in_ok-extend_from_slice.ensures.items, c.reserve.ensures.items, ← c.self.view_is)
    (ap (λ list. record { vars = c.self.inside.vars; list = list }) (cut_at-push 0 _ _ _ c.self.invariant.0))
