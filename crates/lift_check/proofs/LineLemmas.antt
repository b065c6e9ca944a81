-- The node of a line is true where the line is kept.
use Rattle.std.proofs.Common.{◌≡◌, ◌∙◌, sym, ℕ, zero, suc, ◌<◌, List, [], ◌∷◌, ◌++◌, length, get_or, arith}
use Rattle.std.specs.List.{AllZip}
use Rattle.std.specs.Option.{option_or}
use Rattle.vkb_formula.specs.Names.{AreDifferent}
use Rattle.vkb_formula.specs.Pools.{pool_values}
use Rattle.vkb_formula.specs.declared.pool.NodeId.{NodeId}
use Rattle.vkb_formula.specs.declared.pool.PoolNode.{PoolNode}
use Rattle.doc_tree.specs.declared.Document.{Document}
use Rattle.doc_tree.specs.Loaded.{IsLoaded}
use Rattle.doc_build.specs.Choices.{Setting, chosen_of}
use Rattle.doc_build.specs.Keeping.{LinesAreKeptByNumber, OptionsAreSet, met_from}
use Rattle.lift_check.specs.declared.options.Setting.{Setting as NameSetting}
use Rattle.lift_check.specs.declared.options.Setting.TheVariants.{Unset}
use Rattle.lift_check.specs.Keeping.{KeepsLines}
use Rattle.lift_check.specs.Nodes.{AreNodes, HoldsOptions, has_name, meets}
use Rattle.lift_check.specs.Options.{AreSettings, IsSetting, Settings}
use Rattle.lift_check.proofs.ConditionLemmas.{node_in-below, node_in-met}
use Rattle.lift_check.proofs.NodesLemmas.{HoldsOptions-keeps}
use Rattle.lift_check.proofs.SettingLemmas.{set-as}

-- the setting of a name
setting-at : (fixed free names : List (List ℕ)) (settings : List NameSetting) → AllZip (IsSetting fixed free) names settings → (place : ℕ) → place < length names
    → IsSetting fixed free (get_or names place []) (get_or settings place Unset)
setting-at fixed free [] settings are place below = absurd (omega arith)
setting-at fixed free (n ∷ names) [] are place below = absurd are
setting-at fixed free (n ∷ names) (s ∷ settings) are zero below = are.0
setting-at fixed free (n ∷ names) (s ∷ settings) are (suc place) below = setting-at fixed free names settings are.1 place (omega arith)

-- the nodes of all conditions keep each line
pub keeps-lines : OptionsAreSet → LinesAreKeptByNumber → (setting : Setting) (text : List ℕ) (d : Document) (options : Settings) (first pool : List PoolNode) (nodes : List NodeId) → IsLoaded text d
    → AreSettings setting.always setting.options d.names options.each → options.count ≡ length setting.options → AreDifferent setting.options → HoldsOptions options.count first
    → AreNodes first pool nodes (λ choice. met_from (meets options choice) [] d.conds) → KeepsLines setting text d pool nodes
keeps-lines chosen told setting text d options first pool nodes loaded are count different holds made =
    let kept = HoldsOptions-keeps options.count first pool holds made.keeps in
    record {
      within = λ k e below. node_in-below (length pool) nodes (omega (arith, kept.count)) made.within (option_or (get_or d.lines k e).own (get_or d.lines k e).within);
      reach = omega (arith, kept.reach, count);
      kept = λ choice k e below.
          let line = get_or d.lines k e in
          let set = setting.always ++ chosen_of setting.options choice in
          node_in-met (pool_values choice pool) nodes (met_from (meets options choice) [] d.conds) (kept.always choice) (made.values choice) (option_or line.own line.within)
          ∙ told text d set (has_name options choice) loaded
          (λ place within.
          sym (set-as chosen setting.always setting.options choice (get_or d.names place []) (get_or options.each place Unset) different (setting-at setting.always setting.options d.names options.each are place within)))
          k e below;
    }
