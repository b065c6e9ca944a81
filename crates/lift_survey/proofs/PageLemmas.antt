-- The page that the last of some lines sets.
use Rattle.std.proofs.Common.{◌≡◌, ◌∙◌, sym, ap, ℕ, zero, suc, ◌-◌, ◌<◌, Bool, true, cond, List, [], ◌∷◌, length, drop, take, get_or, Option, Some, None, arith}
use Rattle.std.specs.List.{AllZip}
use Rattle.std.proofs.Math.Seq.{take-length}
use Rattle.std.proofs.lemmas.List.{length-drop}
use Rattle.vkb_formula.specs.declared.pool.NodeId.{NodeId}
use Rattle.doc_tree.specs.declared.CondId.{CondId}
use Rattle.lift_nodes.specs.declared.Source.{Source}
use Rattle.lift_nodes.specs.Cases.{page_from, page_of}

-- ---- a line that is kept hides those before it

pub page-hidden : (told : NodeId → Bool) (met : Option CondId → Bool) (page : Option (List ℕ)) (sources : List Source) (withins : List (Option CondId)) (place : ℕ)
    → AllZip (λ source within. told source.line ≡ met within) sources withins → place < length sources → met (get_or withins place None) ≡ true → page_from told page sources ≡ page_of told true (drop place sources)
page-hidden told met page [] withins place kept below is = absurd (omega arith)
page-hidden told met page (source ∷ sources) [] place kept below is = absurd kept
page-hidden told met page (source ∷ sources) (within ∷ withins) zero kept below is = ap (λ b. page_from told (cond b (Some source.page) page) sources) (kept.0 ∙ is)
page-hidden told met page (source ∷ sources) (within ∷ withins) (suc place) kept below is = page-hidden told met (cond (told source.line) (Some source.page) page) sources withins place kept.1 (omega arith) is

-- ---- from a source on

pub rest-taken : {X : Type 0} (place : ℕ) (xs : List X) → take (length xs - place) (drop place xs) ≡ drop place xs
rest-taken place xs = ap (λ n. take n (drop place xs)) (sym (length-drop place xs)) ∙ take-length (drop place xs)
