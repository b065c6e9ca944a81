use Rattle.std.proofs.Common.{◌≡◌, List, ◌++◌, ap, ◌∙◌}
use Rattle.std.specs.List.{flat_map}
use Rattle.std.proofs.lemmas.List.{append_assoc}
use Rattle.std.proofs.lemmas.Result.{IfOk-equal}
use Rattle.reg_rows.specs.Faults.{unknown, unknown_alias, without_flags}
use Rattle.reg_rows.proofs.unknowns.put_unknowns.Goals as goal

one_behind_another : {X : Type 0} (old a b d e f s t u v : List X) → s ≡ old ++ a → t ≡ s ++ b → u ≡ t ++ d → v ≡ u ++ e → v ++ f ≡ old ++ (a ++ b ++ d ++ e ++ f)
one_behind_another old a b d e f s t u v p q r w = rw (w, r, q, p) (simp append_assoc)

pub returns : goal.returns
returns c =
    let old = c.args.faults.now.items in
    let forms = c.forms-forms.ensures in
    IfOk-equal _ _ _ _ c.put_without_flags.ensures (
    ap (λ xs. c.put_unknown_aliases.new.faults.items ++ flat_map (without_flags c.args.tables.now) xs) (c.as_slice-5.ensures ∙ ap (λ f. f.declarations) forms)
    ∙ one_behind_another _ _ _ _ _ _ _ _ _ _
    (c.in_ok-put_unknown_in_declarations.ensures ∙ ap (λ xs. old ++ flat_map (λ d. flat_map (unknown c.args.tables.now) d.mentions) xs) (c.as_slice.ensures ∙ ap (λ f. f.declarations) forms))
    (c.in_ok-put_unknown_entries.ensures ∙ ap (λ xs. c.put_unknown_in_declarations.new.faults.items ++ flat_map (λ entry. unknown c.args.tables.now entry.mention) xs) (c.as_slice-2.ensures ∙ ap (λ f. f.entries) forms))
    (c.in_ok-put_unknown_mentions.ensures ∙ ap (λ xs. c.put_unknown_entries.new.faults.items ++ flat_map (unknown c.args.tables.now) xs) (c.as_slice-3.ensures ∙ ap (λ f. f.mentions) forms))
    (c.in_ok-put_unknown_aliases.ensures ∙ ap (λ xs. c.put_unknown_mentions.new.faults.items ++ flat_map (unknown_alias c.args.tables.now) xs) (c.as_slice-4.ensures ∙ ap (λ f. f.enumerants) forms))
    )
