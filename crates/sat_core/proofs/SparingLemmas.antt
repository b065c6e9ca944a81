-- A literal of a reason, but for that of its entry, is false.
use Rattle.std.proofs.Common.{◌≡◌, ◌<◌, ℕ, true, false, not, ◌==◌, List, length, Option, Some, slice_get, slice_index_or, All, sym, ap, subst, ◌∙◌, ◌⊎◌, ⊎_elim}
use Rattle.std.proofs.lemmas.Bool.Decides.{eqb_tells}
use Rattle.std.proofs.lemmas.List.Elements.{All-get_or}
use Rattle.std.proofs.lemmas.Option.{same_Some}
use Rattle.sat_cnf.specs.declared.lit.Lit.{Lit}
use Rattle.sat_proof.specs.Propagation.{IsFalse}
use Rattle.sat_proof.specs.Refutations.{hinted}
use Rattle.sat_core.specs.declared.entry.Entry.{Entry}
use Rattle.sat_core.specs.Trails.{IsTrail, lits_of}
use Rattle.sat_core.proofs.ConflictStepLemmas.{reason-denied}

differs : (a b : ℕ) → true ≡ not (a == b) → a ≡ b → ⊥
differs a b ne e = ⊎_elim (λ p. let no' : true ≡ false = ne ∙ ap not p.0 in cc) (λ p. p.1 e) (eqb_tells a b)

pub other-denied : (vars : ℕ) (held : List (List Lit)) (entries : List Entry) → IsTrail vars held entries → (place : ℕ) (entry : Entry) → slice_get entries place ≡ Some entry
    → (reason : ℕ) → entry.reason ≡ Some reason → (clause : List Lit) → clause ≡ hinted held reason → (index : ℕ) (none : Lit) → index < length clause
    → true ≡ not ((slice_index_or clause index none).0 == entry.lit.0) → IsFalse (lits_of entries) (slice_index_or clause index none)
other-denied vars held entries trail place entry found reason e clause is index none below ne =
    let denied = subst (All (λ lit. ◌≡◌ {A = Option Lit} (Some entry.lit) (Some lit) ⊎ IsFalse (lits_of entries) lit)) (sym is)
    (reason-denied vars held entries trail place entry found reason e) in
    ⊎_elim (λ same. absurd (differs (slice_index_or clause index none).0 entry.lit.0 ne (ap (λ l. l.0) (sym (same_Some entry.lit (slice_index_or clause index none) same)))))
    (λ f. f)
    (All-get_or (λ lit. ◌≡◌ {A = Option Lit} (Some entry.lit) (Some lit) ⊎ IsFalse (lits_of entries) lit) clause index none below denied)
