use Rattle.std.proofs.Common.{◌≡◌, ◌∷◌, ◌+◌, ◌++◌, [], List, ap, drop, false, map, sym, take, ◌∙◌}
use Rattle.std.specs.List.{list_any}
use Rattle.std.specs.Str.{bytes_eq}
use Rattle.std.proofs.lemmas.List.{at_drop_more, take_more}
use Rattle.reg_forms.specs.Parts.{repeated}
use Rattle.reg_forms.specs.declared.forms.MemberForm.{MemberForm}
use Rattle.reg_forms.proofs.RepeatLemmas.{differs-on}
use Rattle.reg_forms.proofs.repeats.differ_at_sight.Goals as goal

pub loop-at-preserved : goal.loop-at-preserved
loop-at-preserved c =
    let members = c.args.members.now in
    let at = c.loop-at.at in
    let member = c.index-members-at.result in
    let is = c.index-members-at.is in
    let more = drop (at + 1) members in
    let first = at_drop_more (λ ms. ms) members at member c.loop-at-test.true ∙ ap (λ (m : MemberForm). m ∷ more) (sym is) in
    let taken = take_more members at member c.loop-at-test.true ∙ ap (λ (m : MemberForm). take at members ++ m ∷ []) (sym is) in
    let named = c.as_slice.ensures ∙ ap (λ (m : MemberForm). m.name) (sym is) in
    let apart : list_any (λ (other : MemberForm). bytes_eq member.name other.name) (take at members) ≡ false =
    ap (λ name. list_any (λ (other : MemberForm). bytes_eq name other.name) (take at members)) (sym named) ∙ sym c.is_among.ensures ∙ c.if-is_among.false in
    ap (λ (ms : List MemberForm). repeated (map (λ m. m.name) ms) more) taken
    ∙ sym (differs-on (take at members) member more apart)
    ∙ ap (repeated (map (λ (m : MemberForm). m.name) (take at members))) (sym first)
    ∙ c.loop-at.invariant
