-- What the nodes of single rules say.
use Rattle.std.proofs.Common.{◌≡◌, ◌⊎◌, ℕ, zero, suc, ◌+◌, ◌<◌, ⊎_elim, Bool, true, false, not, ◌||◌, cond, List, [], ◌∷◌, length, get_or, Option, Some, None, slice_get, sym, ap, subst, ◌∙◌, arith}
use Rattle.std.specs.Prelude.{IfOk, Result, Ok, Err}
use Rattle.std.specs.Option.{MatchOption, is_some, option_map_or}
use Rattle.std.proofs.lemmas.Bool.{false_from_ne_true}
use Rattle.std.proofs.lemmas.Option.{get_or_from_slice_get, none-some, same_Some, slice_get_within}
use Rattle.vkb_formula.specs.Expressions.{IsSized}
use Rattle.vkb_formula.specs.Formulas.{clauses_of, value_of}
use Rattle.vkb_formula.specs.Pools.{node_clauses, pool_values, sum_reached}
use Rattle.vkb_formula.specs.declared.formula.Formula.TheVariants as formula
use Rattle.vkb_formula.specs.declared.name_table.NameId.{NameId}
use Rattle.vkb_formula.specs.declared.pool.NodeId.{NodeId}
use Rattle.vkb_formula.specs.declared.pool.PoolNode.{PoolNode}
use Rattle.reg_registry.specs.Depends.{IsDepends, words_of}
use Rattle.reg_registry.specs.Naming.{AreSound}
use Rattle.reg_registry.specs.Rows.{Rows}
use Rattle.reg_registry.specs.declared.registry.OptionRow.{OptionRow}
use Rattle.reg_closure.specs.Closure.{IsIn, IsInClosure}
use Rattle.reg_closure.specs.Presence.{KeepBounds, SayPresence, name_weight}
use Rattle.reg_permit.specs.Nodes.{AsksNext, IsFree, IsNextLower, IsNodeOf, IsRule, KeepsNext, NoneIsLower, SaysRule, asks_formula, asks_node, feature_says}
use Rattle.reg_permit.specs.Size.{asked_words}
use Rattle.reg_permit.proofs.LawLemmas.{always-holds}
use Rattle.reg_permit.proofs.NextLemmas.{same-next}
use Rattle.reg_permit.proofs.RuleLemmas.{in-or-not, of-option}

in-from : (set : List Bool) (place : ℕ) → get_or set place false ≡ true → IsIn set place
in-from [] place e = absurd (cc (e))
in-from (b ∷ bs) zero e = ap (λ (x : Bool). Some x) e
in-from (b ∷ bs) (suc place) e = in-from bs place e

read-in : (set : List Bool) (place : ℕ) → IsIn set place → get_or set place false ≡ true
read-in set place e = get_or_from_slice_get set place true false e

read-out : (set : List Bool) (place : ℕ) → (IsIn set place → ⊥) → get_or set place false ≡ false
read-out set place n = false_from_ne_true (get_or set place false) (λ e. n (in-from set place e))

-- where it is chosen, the other holds
either-holds : (set : List Bool) (place : ℕ) (holds : Bool) → (not (get_or set place false) || holds) ≡ true → IsIn set place → holds ≡ true
either-holds set place holds e here = let t : get_or set place false ≡ true = read-in set place here in ap (λ (b : Bool). not b || holds) (sym t) ∙ e

holds-either : (set : List Bool) (place : ℕ) (holds : Bool) → IsIn set place ⊎ (IsIn set place → ⊥) → (IsIn set place → holds ≡ true) → (not (get_or set place false) || holds) ≡ true
holds-either set place holds known h =
    ⊎_elim
    (λ (a : IsIn set place). ap (λ (b : Bool). not b || holds) (read-in set place a) ∙ h a)
    (λ (a : IsIn set place → ⊥). ap (λ (b : Bool). not b || holds) (read-out set place a))
    known

module _ (r : Rows) (sound : AreSound r) (nodes : List PoolNode) (place : ℕ) (o : OptionRow) (at : slice_get r.option_rows place ≡ Some o) (id : NodeId) where
  within : (chosen : List Bool) → length chosen ≡ length r.options → place < length chosen
  within chosen c = omega (arith, c, sound.options_count, slice_get_within r.option_rows place o at)

  -- a feature
  module _ (version : ℕ × ℕ) (is : o.version ≡ Some version) where
    by-next : (chosen : List Bool) → AsksNext r.option_rows chosen place version → KeepsNext r chosen place o
    by-next chosen a = record {
      feature = λ v e. subst (AsksNext r.option_rows chosen place) (same_Some version v (sym is ∙ e)) a;
      depends = λ none. absurd (none-some version (sym none ∙ is));
      bit = λ none. absurd (none-some version (sym none ∙ is));
    }

    pub feature-rule-node : (lower : Option ℕ) → MatchOption lower (NoneIsLower r.option_rows version) (IsNextLower r.option_rows version)
        → IsNodeOf nodes id (feature_says place lower) 3 → SaysRule r nodes place o id
    feature-rule-node None none n = record {
      held = n.held;
      only = λ chosen c t. by-next chosen (record {
        lowest = λ _. in-from chosen place (sym (n.value chosen) ∙ t);
        next = λ lower m. absurd (none lower m.0 m.1 m.2);
      });
      all = λ chosen c k. n.value chosen ∙ read-in chosen place ((k.feature version is).lowest none);
      size = λ origins e. omega (arith, n.size);
    }
    feature-rule-node (Some lower) next n = record {
      held = n.held;
      only = λ chosen c t. by-next chosen (record {
        lowest = λ none. absurd (none lower next.0 next.1 next.2);
        next = λ other m here.
            subst (IsIn chosen) (same-next r sound chosen version lower other next m)
            (in-from chosen lower (either-holds chosen place (get_or chosen lower false) (sym (n.value chosen) ∙ t) here));
      });
      all = λ chosen c k.
          n.value chosen ∙ holds-either chosen place (get_or chosen lower false) (in-or-not chosen place (within chosen c))
          (λ here. read-in chosen lower ((k.feature version is).next lower next here));
      size = λ origins e. omega (arith, n.size);
    }

  module _ (none : o.version ≡ None) where
    -- a bit
    pub bit-rule-node : (old : List PoolNode) (here : List NodeId) (asked : NodeId) (owner : NameId) (member : List ℕ) → o.bit ≡ Some (owner, member)
        → owner.0 < length r.names → slice_get here owner.0 ≡ Some asked → SayPresence r old here → KeepBounds r old here
        → IsNodeOf nodes id (asks_node old place asked) (3 + sum_reached node_clauses old asked.0) → SaysRule r nodes place o id
    bit-rule-node old here asked owner member is known held p b n = record {
      held = n.held;
      only = λ chosen c t. record {
        feature = λ v e. absurd (none-some v (sym none ∙ e));
        depends = λ _ free. absurd (none-some (owner, member) (sym free ∙ is));
        bit = λ _ other text e in-here.
            subst (λ (x : NameId × List ℕ). IsInClosure r chosen x.0.0) (same_Some (owner, member) (other, text) (sym is ∙ e))
            ((p.each chosen c owner.0 asked held).only (either-holds chosen place (get_or (pool_values chosen old) asked.0 false) (sym (n.value chosen) ∙ t) in-here));
      };
      all = λ chosen c k.
          n.value chosen ∙ holds-either chosen place (get_or (pool_values chosen old) asked.0 false) (in-or-not chosen place (within chosen c))
          (λ in-here. (p.each chosen c owner.0 asked held).all (k.bit none owner member is in-here));
      size = λ origins e.
          omega (
            arith,
            n.size,
            b.clauses owner.0 asked (origins owner.0) held (e owner.0 known),
            ap (λ (x : Option (NameId × List ℕ)). option_map_or (λ bit. name_weight r (origins bit.0.0)) x 0) is,
          );
    }

    -- an extension
    module _ (free : o.bit ≡ None) where
      by-depends : (chosen : List Bool) → (IsIn chosen place → value_of chosen o.depends ≡ true) → KeepsNext r chosen place o
      by-depends chosen h = record {
        feature = λ v e. absurd (none-some v (sym none ∙ e));
        depends = λ _ _ here. h here;
        bit = λ _ owner member e. absurd (none-some (owner, member) (sym free ∙ e));
      }

      words : asked_words o ≡ words_of o.depends
      words =
          ap (λ (x : Option (ℕ × ℕ)). cond (is_some x || is_some o.bit) 0 (words_of o.depends)) none
          ∙ ap (λ (x : Option (NameId × List ℕ)). cond (is_some x) 0 (words_of o.depends)) free

      sized : IsDepends o.depends → (o.depends ≡ formula.Always → ⊥) → IsSized o.depends (words_of o.depends)
      sized d some = ⊎_elim (λ (e : o.depends ≡ formula.Always). absurd (some e)) (λ (s : IsSized o.depends (words_of o.depends)). s) d

      pub extension-rule-node : IsDepends o.depends → (o.depends ≡ formula.Always → ⊥) → IsNodeOf nodes id (asks_formula (λ set. value_of set o.depends) place) (3 + clauses_of o.depends)
          → SaysRule r nodes place o id
      extension-rule-node d some n = record {
        held = n.held;
        only = λ chosen c t. by-depends chosen (λ here. either-holds chosen place (value_of chosen o.depends) (sym (n.value chosen) ∙ t) here);
        all = λ chosen c k.
            n.value chosen ∙ holds-either chosen place (value_of chosen o.depends) (in-or-not chosen place (within chosen c)) (λ here. k.depends none free here);
        size = λ origins e. omega (arith, n.size, (sized d some).clauses, words);
      }

      pub extension-free : o.depends ≡ formula.Always → IsFree r place o
      extension-free e chosen c = by-depends chosen (λ _. ap (value_of chosen) e ∙ always-holds chosen)

-- what putting the rule of an extension leaves
pub extension-result : {E : Type 0} (r : Rows) → AreSound r → (nodes : List PoolNode) (place : ℕ) (o : OptionRow) → slice_get r.option_rows place ≡ Some o → o.version ≡ None → o.bit ≡ None
    → IsDepends o.depends → (result : Result (Option NodeId) E)
    → IfOk result (λ rule. MatchOption rule (o.depends ≡ formula.Always)
    (λ id. IsNodeOf nodes id (asks_formula (λ set. value_of set o.depends) place) (3 + clauses_of o.depends) × (o.depends ≡ formula.Always → ⊥)))
    → IfOk result (λ rule. (other : OptionRow) → slice_get r.option_rows place ≡ Some other → IsRule r nodes place other rule)
extension-result r sound nodes place o at none free d (Err e) h = tt
extension-result r sound nodes place o at none free d (Ok None) h =
    of-option r.option_rows (λ p. IsFree r place p) place o at (extension-free r sound nodes place o at (record { 0 = 0 }) none free h)
extension-result r sound nodes place o at none free d (Ok (Some id)) h =
    of-option r.option_rows (λ p. SaysRule r nodes place p id) place o at (extension-rule-node r sound nodes place o at id none free d h.1 h.0)
