use Rattle.std.proofs.Common.{◌≡◌, ◌∙◌, ◌++◌, true, List, ℕ, Some, get_or, slice_get, ap, sym, subst}
use Rattle.std.proofs.lemmas.List.{get_or_default}
use Rattle.reg_registry.specs.Rows.{id_at}
use Rattle.hdr_writer.specs.Declarations.{declaration_with}
use Rattle.hdr_writer.specs.Ends.{AreEnds}
use Rattle.hdr_writer.specs.Headers.{is_command}
use Rattle.hdr_writer.proofs.ChainLemmas.{command-told}
use Rattle.hdr_writer.proofs.TextLemmas.{kept-more, left-more}
use Rattle.hdr_writer.proofs.headers.put_commands.Goals as goal
use Rattle.hdr_writer.proofs.headers.put_commands.Goals.{then-is_command+in_ok-put_command, else-is_command}

pub loop-id-preserved : goal.loop-id-preserved
loop-id-preserved c =
    let r = c.args.r.now in
    let order = c.args.order.now in
    let i = c.loop-id.id-index in
    let old = c.args.text.now.items in
    let text = c.loop-id.text.items in
    let id = get_or order i (id_at 0) in
    let here : id ≡ get_or order i id = get_or_default order i (id_at 0) id c.loop-id-test.true in
    elim c.if-is_command.branch [
      | then-is_command+in_ok-put_command w ↦
          let commands : is_command r id ≡ true = sym c.is_command.ensures ∙ w.if-is_command.true in
          let named : slice_get r.names id.0 ≡ Some w.name.result.now =
          ap (λ (names : List (List ℕ)). slice_get names id.0) (sym w.names.ensures) ∙ w.name.ensures.held in
          record {
            ends = subst (AreEnds r.rows) (ap (λ v. v.items) (sym w.ends-is)) w.end_from-end.ensures.known;
            text = λ active.
                kept-more (declaration_with r active) (is_command r) old text c.if-is_command.text.items order i id c.loop-id-test.true here commands (c.loop-id.invariant.text active)
                (ap (λ t. t.items) w.text-is ∙ w.in_ok-put_command.ensures
                ∙ ap (λ ys. text ++ ys)
                (sym (command-told r active id w.end_from-end.result w.row.result.now w.name.result.now w.end_from-end.ensures.end w.row.ensures.row named commands)));
          }
      | else-is_command w ↦ record {
        ends = subst (AreEnds r.rows) (ap (λ v. v.items) (sym w.ends-is)) c.loop-id.invariant.ends;
        text = λ active.
            ap (λ t. t.items) w.text-is ∙ left-more (declaration_with r active) (is_command r) old text order i id c.loop-id-test.true here
            (sym c.is_command.ensures ∙ w.if-is_command.false) (c.loop-id.invariant.text active);
      }
    ]
