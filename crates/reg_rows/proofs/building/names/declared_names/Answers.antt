use Rattle.std.proofs.Common.{◌+◌, ◌∷◌, drop, map, refl, sym, ap, ◌∙◌}
use Rattle.vkb_formula.specs.Names.{most_names}
use Rattle.reg_rows.specs.BuiltParts.{with_names}
use Rattle.reg_rows.proofs.WithNamesLemmas.{put-last, put-next, room-next, with_names-firsts}
use Rattle.reg_rows.proofs.building.names.declared_names.Goals as goal

pub loop-declaration-init : goal.loop-declaration-init
loop-declaration-init c =
    ap (λ names. with_names names (map (λ d. d.name) c.args.tables.now.declarations)) c.new-names.ensures
    ∙ with_names-firsts (λ d. d.name) c.args.tables.now.declarations

pub put_name-requires : goal.put_name-requires
put_name-requires c =
    room-next (map (λ d. d.name)) c.args.tables.now.declarations _ (c.as_slice-declaration-items.ensures ∙ ap (λ f. f.declarations) c.forms.ensures) _ _ _ c.loop-declaration.invariant _ c.loop-declaration-test.true c.declaration-item.is
    _ (ap (λ name. name ∷ map (λ d. d.name) (drop (c.loop-declaration.declaration-index + 1) c.args.tables.now.declarations)) (sym c.as_slice.ensures)) most_names c.requires

pub loop-declaration-preserved : goal.loop-declaration-preserved
loop-declaration-preserved c =
    ap (λ names. with_names names (map (λ d. d.name) (drop (c.loop-declaration.declaration-index + 1) c.args.tables.now.declarations))) c.in_ok-put_name.ensures
    ∙ put-next (map (λ d. d.name)) c.args.tables.now.declarations _ (c.as_slice-declaration-items.ensures ∙ ap (λ f. f.declarations) c.forms.ensures) _ _ _ c.loop-declaration.invariant _ c.loop-declaration-test.true c.declaration-item.is
    _ (ap (λ name. name ∷ map (λ d. d.name) (drop (c.loop-declaration.declaration-index + 1) c.args.tables.now.declarations)) (sym c.as_slice.ensures))

pub returns : goal.returns
returns c =
    put-last (map (λ d. d.name)) c.args.tables.now.declarations _ (c.as_slice-declaration-items.ensures ∙ ap (λ f. f.declarations) c.forms.ensures) _ _ _ c.loop-declaration.invariant c.loop-declaration-test.false refl
