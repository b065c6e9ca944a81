use Rattle.std.proofs.Common.{◌≡◌, ◌↔◌, ℕ, List, Some, Contains, length, ap, subst, sym, slice_get, ◌∙◌, arith}
use Rattle.std.proofs.lemmas.List.{length-map}
use Rattle.reg_registry.specs.declared.registry.Row.{Row}
use Rattle.reg_closure.specs.Closure.{IsIn}
use Rattle.reg_closure.proofs.OrderLemmas.{waiting-begin}
use Rattle.reg_closure.proofs.ordering.none_placed.Goals as goal

pub returns : goal.returns
returns c =
    let same : length c.args.set.now ≡ length c.args.r.now.rows = omega (arith, c.requires, c.is_sound.ensures.rows_count) in
    let size : length c.in_ok-counts.counts.items ≡ length c.args.set.now =
    ap length c.in_ok-counts.ensures ∙ length-map c.args.r.now.rows (λ (row : Row). length row.named) ∙ sym same in
    waiting-begin c.args.r.now.rows c.args.set.now same c.in_ok-counts.counts.items c.in_ok-ready.ready.keys c.in_ok-counts.ensures size
    (subst (λ (counts : List ℕ). (place : ℕ) → Contains c.in_ok-ready.ready.keys place ↔ (IsIn c.args.set.now place × (slice_get counts place ≡ Some 0))) c.as_slice.ensures.value c.in_ok-ready.ensures)
