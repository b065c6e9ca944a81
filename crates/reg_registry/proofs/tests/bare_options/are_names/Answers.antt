use Rattle.std.proofs.Common.{◌≡◌, ℕ, List, [], All, true, sym, subst, ◌∙◌, arith}
use Rattle.std.proofs.lemmas.List.{take_all}
use Rattle.std.proofs.lemmas.List.Elements.{All-more}
use Rattle.reg_registry.specs.Words.{is_name}
use Rattle.reg_registry.proofs.tests.bare_options.are_names.Goals as goal

pub loop-text-preserved : goal.loop-text-preserved
loop-text-preserved c =
    All-more (λ name. is_name name ≡ true) c.args.texts.now c.loop-text.text-index c.text-item.result (omega arith) c.loop-text.invariant
    (subst (λ name. is_name name ≡ true) (c.as_slice.ensures ∙ c.text-item.is) (sym c.is_name.ensures ∙ c.if-not-is_name.false))

pub returns : goal.returns
returns c = λ yes. subst (All (λ name. is_name name ≡ true)) (take_all c.loop-text.text-index c.args.texts.now (omega arith)) c.loop-text.invariant
