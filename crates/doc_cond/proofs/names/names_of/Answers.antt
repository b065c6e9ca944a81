use Rattle.std.proofs.Common.{◌≡◌, ◌∙◌, ℕ, List, true, false, sym, ap, subst}
use Rattle.std.specs.List.{list_all}
use Rattle.doc_cond.specs.Lines.{AreNames, is_run, is_name_byte, joined}
use Rattle.doc_cond.proofs.Pieces.{pieces}
use Rattle.doc_cond.proofs.Naming.{separator, no_names, names_from_pieces, joined_pieces}
use Rattle.doc_cond.proofs.names.names_of.Goals as goal
use Rattle.doc_cond.proofs.names.names_of.Goals.{then-any, else-any}

pub returns-in_default : goal.returns-in_default
returns-in_default c =
    let any = c.lacks-any.result in
    let text = c.args.text.now in
    let cut_at : c.if-any.separator ≡ separator any = elim c.if-any.branch [ then-any w ↦ w.separator-is ∙ ap separator (sym w.if-any.true) | else-any w ↦ w.separator-is ∙ ap separator (sym w.if-any.false) ] in
    let unnamed = rw c.in_default.is at c.in_ok-names.ensures in
    no_names any text (sym c.lacks-any.ensures) (subst (λ (s : ℕ). list_all (is_run is_name_byte) (pieces s text) ≡ false) cut_at unnamed)

pub returns : goal.returns
returns c =
    let any = c.lacks-any.result in
    let text = c.args.text.now in
    let cut_at : c.if-any.separator ≡ separator any = elim c.if-any.branch [ then-any w ↦ w.separator-is ∙ ap separator (sym w.if-any.true) | else-any w ↦ w.separator-is ∙ ap separator (sym w.if-any.false) ] in
    let named = rw c.in-Some.is at c.in_ok-names.ensures in
    let items : c.in-Some.names.items ≡ pieces (separator any) text = named.0 ∙ ap (λ (s : ℕ). pieces s text) cut_at in
    let each = subst (λ (s : ℕ). list_all (is_run is_name_byte) (pieces s text) ≡ true) cut_at named.1 in (
      subst (λ (names : List (List ℕ)). AreNames any names) (sym items) (names_from_pieces any text (sym c.lacks-any.ensures) each),
      joined_pieces any text ∙ ap (joined any) (sym items),
    )
