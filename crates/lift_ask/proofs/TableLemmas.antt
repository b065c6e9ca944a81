-- Nodes under the numbers of ids.
use Rattle.std.proofs.Common.{◌≡◌, ◌≢◌, ◌∙◌, refl, sym, ap, ℕ, ◌+◌, ◌<◌, ◌==◌, Bool, cond, List, [], ◌∷◌, ◌++◌, length, map, take, set, get_or, replicate, ⊎_elim, arith, append_assoc}
use Rattle.std.specs.Prelude.{filter}
use Rattle.std.proofs.lemmas.Bool.{cases_eq, eq-eqb, ne_eqb}
use Rattle.std.proofs.lemmas.List.{append-nil, get_or-replicate, get_or-set_other, get_or-set_same, length-replicate, length-set, map-append, take_more}
use Rattle.std.proofs.lemmas.List.Elements.{filter-append}
use Rattle.std.proofs.lemmas.Grind.{flat_map-append}
use Rattle.vkb_formula.specs.declared.pool.NodeId.{NodeId}
use Rattle.lift_survey.specs.declared.Case.{Case}
use Rattle.lift_survey.specs.declared.LiftedMark.{LiftedMark}
use Rattle.lift_ask.specs.Tables.{AreById, PutsCases, all_cases, nodes_with}

-- nodes of further cases stand behind
with-append : (id : ℕ) (cases more : List Case) → nodes_with id (cases ++ more) ≡ nodes_with id cases ++ nodes_with id more
with-append id cases more =
    ap (map (λ (case : Case). case.node)) (filter-append (λ (case : Case). case.id.0 == id) cases more)
    ∙ map-append (λ (case : Case). case.node) (filter (λ (case : Case). case.id.0 == id) cases) (filter (λ (case : Case). case.id.0 == id) more)

with-one : (id : ℕ) (case : Case) → case.id.0 ≡ id → nodes_with id (case ∷ []) ≡ case.node ∷ []
with-one id case is = ap (λ (b : Bool). map (λ (c : Case). c.node) (cond b (case ∷ []) [])) (eq-eqb case.id.0 id is)

with-other : (id : ℕ) (case : Case) → case.id.0 ≢ id → nodes_with id (case ∷ []) ≡ []
with-other id case isnt = ap (λ (b : Bool). map (λ (c : Case). c.node) (cond b (case ∷ []) [])) (ne_eqb case.id.0 id isnt)

pub puts-none : (old : List (List NodeId)) → PutsCases [] old old
puts-none old = record { count = refl; each = λ id within. sym (append-nil (get_or old id [])) }

pub puts-then : (first second third : List (List NodeId)) (cases more : List Case) → PutsCases cases first second → PutsCases more second third → PutsCases (cases ++ more) first third
puts-then first second third cases more before after = record {
  count = after.count ∙ before.count;
  each = λ id within.
      after.each id (omega (arith, within, before.count))
      ∙ ap (λ (ns : List NodeId). ns ++ nodes_with id more) (before.each id within)
      ∙ append_assoc (get_or first id []) (nodes_with id cases) (nodes_with id more)
      ∙ ap (λ (ns : List NodeId). get_or first id [] ++ ns) (sym (with-append id cases more));
}

-- one case was put
pub puts-one : (old new : List (List NodeId)) (case : Case) → case.id.0 < length old → new ≡ set old case.id.0 (get_or old case.id.0 [] ++ case.node ∷ []) → PutsCases (case ∷ []) old new
puts-one old new case there put =
    let list : List NodeId = get_or old case.id.0 [] ++ case.node ∷ [] in
    record {
      count = ap (λ (t : List (List NodeId)). length t) put ∙ length-set old case.id.0 list;
      each = λ id within. ⊎_elim
          (λ (here : case.id.0 ≡ id).
          ap (λ (t : List (List NodeId)). get_or t id []) put
          ∙ ap (λ (n : ℕ). get_or (set old case.id.0 list) n []) (sym here)
          ∙ get_or-set_same old case.id.0 list [] there
          ∙ ap (λ (n : ℕ). get_or old n [] ++ case.node ∷ []) here
          ∙ ap (λ (ns : List NodeId). get_or old id [] ++ ns) (sym (with-one id case here)))
          (λ (apart : case.id.0 ≡ id → ⊥).
          ap (λ (t : List (List NodeId)). get_or t id []) put
          ∙ get_or-set_other old case.id.0 id list [] (λ e. apart (sym e))
          ∙ sym (append-nil (get_or old id []))
          ∙ ap (λ (ns : List NodeId). get_or old id [] ++ ns) (sym (with-other id case apart)))
          (cases_eq case.id.0 id);
    }

pub puts-more : (cases : List Case) (k : ℕ) (case : Case) (first old new : List (List NodeId)) → k < length cases → case ≡ get_or cases k case → case.id.0 < length first
    → PutsCases (take k cases) first old → new ≡ set old case.id.0 (get_or old case.id.0 [] ++ case.node ∷ []) → PutsCases (take (k + 1) cases) first new
puts-more cases k case first old new below is there before put =
    let taken : take (k + 1) cases ≡ take k cases ++ case ∷ [] = take_more cases k case below ∙ ap (λ (c : Case). take k cases ++ c ∷ []) (sym is) in
    let all = puts-then first old new (take k cases) (case ∷ []) before (puts-one old new case (omega (arith, there, before.count)) put) in
    record {
      count = all.count;
      each = λ id within. all.each id within ∙ ap (λ (cs : List Case). get_or first id [] ++ nodes_with id cs) (sym taken);
    }

-- one anchor's cases were put
pub puts-mark : (marks : List LiftedMark) (k : ℕ) (mark : LiftedMark) (first old new : List (List NodeId)) → k < length marks → mark ≡ get_or marks k mark
    → PutsCases (all_cases (take k marks)) first old → PutsCases mark.cases old new → PutsCases (all_cases (take (k + 1) marks)) first new
puts-mark marks k mark first old new below is before put =
    let taken : take (k + 1) marks ≡ take k marks ++ mark ∷ [] = take_more marks k mark below ∙ ap (λ (m : LiftedMark). take k marks ++ m ∷ []) (sym is) in
    let cases : all_cases (take (k + 1) marks) ≡ all_cases (take k marks) ++ mark.cases =
    ap all_cases taken ∙ flat_map-append (λ (m : LiftedMark). m.cases) (take k marks) (mark ∷ []) ∙ ap (λ (cs : List Case). all_cases (take k marks) ++ cs) (append-nil mark.cases) in
    let all = puts-then first old new (all_cases (take k marks)) mark.cases before put in
    record {
      count = all.count;
      each = λ id within. all.each id within ∙ ap (λ (cs : List Case). get_or first id [] ++ nodes_with id cs) (sym cases);
    }

-- all were put into an empty table
pub by-id : (ids : ℕ) (anchors : List LiftedMark) (first table : List (List NodeId)) → first ≡ replicate ids [] → PutsCases (all_cases anchors) first table → AreById ids anchors table
by-id ids anchors first table empty puts =
    let count : length first ≡ ids = ap (λ (t : List (List NodeId)). length t) empty ∙ length-replicate ids [] in
    record {
      count = puts.count ∙ count;
      each = λ id within.
          puts.each id (omega (arith, within, count))
          ∙ ap (λ (ns : List NodeId). ns ++ nodes_with id (all_cases anchors)) (ap (λ (t : List (List NodeId)). get_or t id []) empty ∙ get_or-replicate ids id [] [] within);
    }
