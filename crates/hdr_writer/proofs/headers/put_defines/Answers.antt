use Rattle.std.proofs.Common.{◌≡◌, ◌∙◌, ◌++◌, ◌∷◌, [], List, ℕ, codes, get_or, ap, sym}
use Rattle.std.proofs.lemmas.Option.{get_or_from_slice_get}
use Rattle.hdr_writer.specs.Headers.{define_line, is_defined}
use Rattle.hdr_writer.specs.Lines.{line}
use Rattle.hdr_writer.proofs.TextLemmas.{number-kept, number-left}
use Rattle.hdr_writer.proofs.headers.put_defines.Goals as goal
use Rattle.hdr_writer.proofs.headers.put_defines.Goals.{then-is_defined+in_ok-put_line, else-is_defined}

pub loop-place-preserved : goal.loop-place-preserved
loop-place-preserved c =
    let r = c.args.r.now in
    let old = c.args.text.now.items in
    let text = c.loop-place.text.items in
    let place = c.loop-place.place in
    let P = is_defined r c.args.chosen.now in
    elim c.if-is_defined.branch [
      | then-is_defined+in_ok-put_line w ↦
          let there : List (List ℕ) = w.options-then-is_defined.result.now in
          let named : get_or r.options place [] ≡ w.name.result.now =
          ap (λ (names : List (List ℕ)). get_or names place []) (sym w.options-then-is_defined.ensures)
          ∙ get_or_from_slice_get there place w.name.result.now [] w.name.ensures.held in
          number-kept (define_line r) P old text c.if-is_defined.text.items place (sym c.is_defined.ensures ∙ w.if-is_defined.true) c.loop-place.invariant
          (ap (λ t. t.items) w.text-is ∙ w.in_ok-put_line.ensures
          ∙ ap (λ (name : List ℕ). text ++ line (codes "#define " ∷ name ∷ codes " 1" ∷ [])) (sym named))
      | else-is_defined w ↦
          ap (λ t. t.items) w.text-is ∙ number-left (define_line r) P old text place (sym c.is_defined.ensures ∙ w.if-is_defined.false) c.loop-place.invariant
    ]
