use Rattle.std.proofs.Common.{◌≡◌, ◌+◌, ◌<◌, true, length, map, All, subst, sym, arith}
use Rattle.std.proofs.lemmas.List.Elements.{All-weaker}
use Rattle.sat_cnf.specs.Lits.{negation_of}
use Rattle.sat_proof.specs.Propagation.{Refutes}
use Rattle.sat_proof.specs.Refutations.{IsConsistent, held_with, hinted}
use Rattle.sat_proof.specs.Trails.{HasSame}
use Rattle.sat_proof.proofs.JudgeLemmas.{Refutes-same, length-held}
use Rattle.sat_proof.proofs.judge.follows.Goals as goal

pub returns-then-not-deny-clause-exact : goal.returns-then-not-deny-clause-exact
returns-then-not-deny-clause-exact c = (
  λ e. absurd (cc),
  λ f. let t : c.deny.result ≡ true = c.deny.ensures.exact.1 (subst IsConsistent (sym c.as_slice-2.ensures) f.consistent) in absurd (cc),
)

pub returns-clause-exact : goal.returns-clause-exact
returns-clause-exact c =
    let held = held_with c.args.clauses.now.list c.args.earlier.now in
    let same : HasSame c.deny.new.trail.known (map negation_of c.args.step.now.clause) =
    subst (λ clause. HasSame c.deny.new.trail.known (map negation_of clause)) c.as_slice-2.ensures (c.deny.ensures.known c.if-not-deny.false) in
    let below : All (λ hint. hint < c.len.result + length c.args.earlier.now) c.as_slice.result.now = c.are_below.ensures.0 c.if-not-are_below.false in
    let known : All (λ hint. hint < length held) c.as_slice.result.now =
    All-weaker (λ hint. hint < c.len.result + length c.args.earlier.now) (λ hint. hint < length held)
    (λ hint h. omega (arith, h, c.len.ensures, length-held c.args.clauses.now.list c.args.earlier.now)) c.as_slice.result.now below in (
      λ h. record {
        consistent = subst IsConsistent c.as_slice-2.ensures (c.deny.ensures.exact.0 c.if-not-deny.false);
        known = subst (All (λ hint. hint < length held)) c.as_slice.ensures known;
        refuted = Refutes-same (map (hinted held) c.args.step.now.hints) c.deny.new.trail.known (map negation_of c.args.step.now.clause) same
            (subst (λ hints. Refutes c.deny.new.trail.known (map (hinted held) hints)) c.as_slice-3.ensures (c.refutes.ensures.exact.0 h));
      },
      λ f.
          c.refutes.ensures.exact.1
          (subst (λ hints. Refutes c.deny.new.trail.known (map (hinted held) hints)) (sym c.as_slice-3.ensures)
          (Refutes-same (map (hinted held) c.args.step.now.hints) (map negation_of c.args.step.now.clause) c.deny.new.trail.known (λ lit. ((same lit).1, (same lit).0)) f.refuted)),
    )
