use Rattle.std.proofs.Common.{◌≡◌, ◌∙◌, ◌++◌, ◌∷◌, [], ap, sym, List, ℕ, is_some, length, not, arith}
use Rattle.std.proofs.lemmas.List.{length_push}
use Rattle.lift_check.proofs.OptionsLemmas.{free-fixed, free-other, is_some-place_of}
use Rattle.lift_check.proofs.options.names_but.Goals.{then-is_none+in_ok-from_slice+in_ok-push, else-is_none}
use Rattle.lift_check.proofs.options.names_but.Goals as goal

pub loop-id-preserved : goal.loop-id-preserved
loop-id-preserved c =
    let fixed = c.args.fixed.now in
    let names = c.args.names.now in
    let id = c.loop-id.id in
    let name = c.name-name.result.now in
    let free = c.loop-id.free.items in
    let held = c.name-name.ensures.held in
    let found = sym (is_some-place_of name fixed) ∙ ap is_some (sym c.find.ensures.place) in
    elim c.if-is_none.branch [
      | then-is_none+in_ok-from_slice+in_ok-push w ↦
          let copy : w.in_ok-from_slice.field-0 ≡ name = w.in_ok-from_slice.ensures in
          let pushed : w.push.new.self.items ≡ free ++ w.in_ok-from_slice.field-0 ∷ [] = w.in_ok-push.ensures.items in
          let whole : c.if-is_none.free.items ≡ w.push.new.self.items = cc in
          let same : c.if-is_none.free.items ≡ free ++ name ∷ [] = whole ∙ (pushed ∙ ap (λ (n : List ℕ). free ++ n ∷ []) copy) in
          let isnt = found ∙ (c.is_none.ensures ∙ ap not w.if-is_none.true) in
          record {
            kept = same ∙ (ap (λ (ns : List (List ℕ)). ns ++ name ∷ []) c.loop-id.invariant.kept ∙ sym (free-other fixed names id name held isnt));
            few = omega (arith, ap length same, length_push free name, c.loop-id.invariant.few);
          }
      | else-is_none w ↦
          let same : c.if-is_none.free.items ≡ free = cc in
          let is = found ∙ (c.is_none.ensures ∙ ap not w.if-is_none.false) in
          record {
            kept = same ∙ (c.loop-id.invariant.kept ∙ sym (free-fixed fixed names id name held is));
            few = omega (arith, ap length same, c.loop-id.invariant.few);
          }
    ]
