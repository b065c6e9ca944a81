use Rattle.std.proofs.Common.{◌∙◌, ap, sym, is_some, List, ℕ}
use Rattle.vkb_formula.specs.Names.{place_of, with_name}
use Rattle.hdr_writer.proofs.ValueLemmas.{end-gone, end-plain, end-put}
use Rattle.hdr_writer.proofs.values.ends_of.Goals as goal
use Rattle.hdr_writer.proofs.values.ends_of.Goals.{in-Some+then-is_left+in_ok-intern, in-Some+else-is_left, in_default}

pub loop-value-preserved : goal.loop-value-preserved
loop-value-preserved c =
    let active = c.args.active.now in
    let values = c.args.values.now in
    let i = c.loop-value.value-index in
    let e = c.value-item.result in
    let ends : List (List ℕ) = c.loop-value.ends in
    let new : List (List ℕ) = c.match-value.ends in
    elim c.match-value.branch [
      | in-Some+then-is_left+in_ok-intern w ↦
          end-put active values i e ends new w.in-Some.end c.loop-value-test.true c.value-item.is c.loop-value.invariant w.in-Some.is
          (sym w.is_left.ensures ∙ w.if-is_left.true)
          (w.ends-is ∙ w.in_ok-intern.ensures.table ∙ ap (λ (n : List ℕ). with_name n ends) w.as_slice.ensures)
      | in-Some+else-is_left w ↦
          end-gone active values i e new c.loop-value-test.true c.value-item.is
          (λ name. ap (λ (n : List (List ℕ)). is_some (place_of name n)) w.ends-is ∙ c.loop-value.invariant name) (sym w.is_left.ensures ∙ w.if-is_left.false)
      | in_default w ↦
          end-plain active values i e new c.loop-value-test.true c.value-item.is
          (λ name. ap (λ (n : List (List ℕ)). is_some (place_of name n)) w.ends-is ∙ c.loop-value.invariant name) w.in_default.is
    ]
