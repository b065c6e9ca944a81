use Rattle.std.proofs.Common.{ℕ, ◌+◌, sym, ap, ◌∙◌}
use Rattle.vkb_gen.specs.Draws.{state_after}
use Rattle.vkb_gen.specs.Items.{parent_by}
use Rattle.vkb_gen.specs.declared.items.Parents.TheVariants.{One, Two}
use Rattle.vkb_gen.proofs.ItemLemmas.{chosen, first_state, is_nobody, is_one, is_two, none_drawn, one_drawn, second_state, two_drawn}
use Rattle.vkb_gen.proofs.items.draw_parents.Goals as goal

pub returns-then-number-lt2-clause-parents : goal.returns-then-number-lt2-clause-parents
returns-then-number-lt2-clause-parents c = λ seed before. sym (is_nobody seed c.args.number c.if-number-lt2.true)

pub returns-then-number-lt2-clause-state : goal.returns-then-number-lt2-clause-state
returns-then-number-lt2-clause-state c = λ seed before. before ∙ ap (λ (n : ℕ). state_after seed n) (sym (none_drawn c.args.number c.if-number-lt2.true))

pub returns-then-number-ne0-clause-parents : goal.returns-then-number-ne0-clause-parents
returns-then-number-ne0-clause-parents c = λ seed before.
    let number = c.args.number in
    let first = first_state seed number c.args.draws.now.state c.below-parent.new.self.state before c.below-parent.ensures.state in
    ap (λ (n : ℕ). One n) (chosen seed number 1 c.below-parent.new.self.state c.below-parent.result first c.below-parent.ensures.value)
    ∙ sym (is_one seed number c.if-number-lt2.false c.if-number-ne0.true)

pub returns-then-number-ne0-clause-state : goal.returns-then-number-ne0-clause-state
returns-then-number-ne0-clause-state c = λ seed before.
    let number = c.args.number in
    first_state seed number c.args.draws.now.state c.below-parent.new.self.state before c.below-parent.ensures.state
    ∙ ap (λ (n : ℕ). state_after seed n) (sym (one_drawn number c.if-number-lt2.false c.if-number-ne0.true))

pub returns-clause-parents : goal.returns-clause-parents
returns-clause-parents c = λ seed before.
    let number = c.args.number in
    let first = first_state seed number c.args.draws.now.state c.below-parent.new.self.state before c.below-parent.ensures.state in
    let second = second_state seed number c.below-parent.new.self.state c.below-other.new.self.state first c.below-other.ensures.state in
    ap (λ (n : ℕ). Two n (1 + c.below-other.result)) (chosen seed number 1 c.below-parent.new.self.state c.below-parent.result first c.below-parent.ensures.value)
    ∙ ap (λ (n : ℕ). Two (parent_by seed number 1) n) (chosen seed number 2 c.below-other.new.self.state c.below-other.result second c.below-other.ensures.value)
    ∙ sym (is_two seed number c.if-number-lt2.false c.if-number-ne0.false)

pub returns-clause-state : goal.returns-clause-state
returns-clause-state c = λ seed before.
    let number = c.args.number in
    let first = first_state seed number c.args.draws.now.state c.below-parent.new.self.state before c.below-parent.ensures.state in
    second_state seed number c.below-parent.new.self.state c.below-other.new.self.state first c.below-other.ensures.state
    ∙ ap (λ (n : ℕ). state_after seed n) (sym (two_drawn number c.if-number-lt2.false c.if-number-ne0.false))
