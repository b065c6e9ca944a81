use Rattle.std.proofs.Common.{◌≡◌, ◌<◌, ◌∷◌, [], ◌++◌, ap, length, subst, sym, ◌∙◌, All, arith}
use Rattle.std.proofs.lemmas.List.{append-nil}
use Rattle.std.proofs.lemmas.List.Elements.{All-push}
use Rattle.reg_registry.specs.Rows.{id_at}
use Rattle.vu_implicit.proofs.TypeLemmas.{found-more}
use Rattle.vu_implicit.proofs.types.extending.Goals as goal
use Rattle.vu_implicit.proofs.types.extending.Goals.{then-extends+in_ok-push, else-extends}

pub loop-place-preserved : goal.loop-place-preserved
loop-place-preserved c =
    let ids = c.loop-place.ids.items in
    let place = c.loop-place.place in
    let more = found-more c.args.r.now.rows c.args.owner place c.row.result.now in
    elim c.if-extends.branch [
      | then-extends+in_ok-push w ↦
          let items : c.if-extends.ids.items ≡ ids ++ id_at place ∷ [] = ap (λ v. v.items) w.ids-is ∙ w.in_ok-push.ensures.items in
          record {
            found = items ∙ ap (λ l. l ++ id_at place ∷ []) c.loop-place.invariant.found ∙ sym (more _ c.row.ensures.row (sym c.extends.ensures ∙ w.if-extends.true));
            held = subst (λ l. All (λ id. id.0 < length c.args.r.now.names) l) (sym items) (All-push (λ id. id.0 < length c.args.r.now.names) ids (id_at place) c.loop-place.invariant.held (omega (arith, ap length c.names.ensures)));
          }
      | else-extends w ↦
          let items : c.if-extends.ids.items ≡ ids = ap (λ v. v.items) w.ids-is in
          record {
            found = items ∙ c.loop-place.invariant.found ∙ sym (append-nil _) ∙ sym (more _ c.row.ensures.row (sym c.extends.ensures ∙ w.if-extends.false));
            held = subst (λ l. All (λ id. id.0 < length c.args.r.now.names) l) (sym items) c.loop-place.invariant.held;
          }
    ]
