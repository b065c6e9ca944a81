use Rattle.std.proofs.Common.{◌≡◌, ◌<◌, ◌∷◌, ◌++◌, [], List, ℕ, length, take, map, get_or, cond, codes, true, false, append-nil, subst, sym, ap, ◌∙◌, arith}
use Rattle.std.proofs.lemmas.List.{take_all}
use Rattle.reg_registry.specs.Rows.{id_at}
use Rattle.reg_forms.specs.declared.forms.Mention.{Mention}
use Rattle.reg_tables.specs.Tables.{is_mask64}
use Rattle.reg_rows.specs.Listing.{AreMarked, places_besides}
use Rattle.reg_rows.specs.Lists.{each_number}
use Rattle.reg_rows.proofs.ListingLemmas.{besides-append, besides-more}
use Rattle.reg_rows.proofs.building.declared.named.Goals as goal
use Rattle.reg_rows.proofs.building.declared.named.Goals.{then-is_mask64+in_ok-put_named-2, else-is_mask64}

pub loop-mention-preserved : goal.loop-mention-preserved
loop-mention-preserved c =
    let names = c.args.names.now in
    let own = c.args.declaration.now.name in
    let mentions = c.args.declaration.now.mentions in
    let i = c.loop-mention.mention-index in
    let mention = c.mention-item.result in
    let items = c.as_slice-mention-items.ensures in
    let within : i < length mentions = omega (arith, ap length items) in
    let here : mention ≡ get_or mentions i mention = c.mention-item.is ∙ ap (λ xs. get_or xs i mention) items in
    let put = c.in_ok-put_named.ensures.put (places_besides names own (map (λ m. m.name) (take i mentions))) c.loop-mention.invariant.marked in
    let more = ap (λ o. places_besides names own (map (λ m. m.name) (take i mentions)) ++ places_besides names o (c.as_slice.result.now ∷ [])) c.as_slice-own.ensures
    ∙ ap (λ n. places_besides names own (map (λ m. m.name) (take i mentions)) ++ places_besides names own (n ∷ [])) c.as_slice.ensures
    ∙ besides-more names own mentions i mention within here in
    record {
      one_each = c.in_ok-put_named.ensures.marks;
      marked = subst (λ (places : List ℕ). AreMarked c.args.round places c.put_named.new.named_in.items c.put_named.new.ids.items) more put;
    }

pub returns-clause-ids : goal.returns-clause-ids
returns-clause-ids c =
    let names = c.args.names.now in
    let own = c.args.declaration.now.name in
    let mentions = c.args.declaration.now.mentions in
    let i = c.loop-mention.mention-index in
    let all = take_all i mentions (omega (arith, ap length c.as_slice-mention-items.ensures)) in
    elim c.if-is_mask64.branch [
      | then-is_mask64+in_ok-put_named-2 w ↦
          let mask : is_mask64 c.args.shape ≡ true = sym c.is_mask64.ensures ∙ w.if-is_mask64.true in
          ap (λ v. v.items) w.ids-is ∙ (w.in_ok-put_named-2.ensures.put (places_besides names own (map (λ m. m.name) (take i mentions))) c.loop-mention.invariant.marked).ids_are
          ∙ ap (λ places. map id_at (each_number places)) (
          ap (λ o. places_besides names own (map (λ m. m.name) (take i mentions)) ++ places_besides names o (codes "VkFlags64" ∷ [])) c.as_slice-own.ensures
          ∙ sym (besides-append names own (map (λ m. m.name) (take i mentions)) (codes "VkFlags64" ∷ []))
          ∙ ap (λ (ms : List Mention). places_besides names own (map (λ m. m.name) ms ++ codes "VkFlags64" ∷ [])) all
          ∙ ap (λ b. places_besides names own (map (λ m. m.name) mentions ++ cond b (codes "VkFlags64" ∷ []) [])) (sym mask)
          )
      | else-is_mask64 w ↦
          let mask : is_mask64 c.args.shape ≡ false = sym c.is_mask64.ensures ∙ w.if-is_mask64.false in
          ap (λ v. v.items) w.ids-is ∙ c.loop-mention.invariant.marked.ids_are
          ∙ ap (λ places. map id_at (each_number places)) (
          ap (λ (ms : List Mention). places_besides names own (map (λ m. m.name) ms)) all
          ∙ ap (places_besides names own) (sym (append-nil (map (λ m. m.name) mentions)))
          ∙ ap (λ b. places_besides names own (map (λ m. m.name) mentions ++ cond b (codes "VkFlags64" ∷ []) [])) (sym mask)
          )
    ]
