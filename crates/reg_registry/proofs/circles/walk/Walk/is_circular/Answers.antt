use Rattle.std.proofs.Common.{◌≡◌, length, sym, ap, ◌∙◌, Some, slice_get, slice_index_or, arith}
use Rattle.std.proofs.lemmas.Option.{slice_get-get_or}
use Rattle.reg_registry.specs.Walks.{Walked}
use Rattle.reg_registry.proofs.WalkCloseLemmas.{spent-alone, spent-below, spent-itself, spent-together}
use Rattle.reg_registry.proofs.WalkTestLemmas.{top-within}
use Rattle.reg_registry.proofs.circles.walk.Walk.is_circular.Goals as goal

pub returns-then-len-start-gt1-clause-all : goal.returns-then-len-start-gt1-clause-all
returns-then-len-start-gt1-clause-all c _ =
    let len : c.len.result ≡ length c.args.self.now.path = c.len.ensures ∙ c.self.inside.path.ok.0 ∙ ap (λ (x : Walked). length x.path) c.self.view_is in
    spent-together c.args.rows.now c.args.self.now c.requires.walk c.args.start c.requires.spent (omega (arith, len, c.if-len-start-gt1.true))

pub names-requires : goal.names-requires
names-requires c =
    let here : slice_get c.args.self.now.path c.args.start ≡ Some c.index-name.result.now =
    slice_get-get_or c.args.self.now.path c.args.start c.index-name.result.now (spent-below c.args.rows.now c.args.self.now c.requires.walk c.args.start c.requires.spent)
    ∙ ap Some (sym (c.index-name.ensures ∙ ap (λ (x : Walked). slice_index_or x.path c.args.start c.index-name.result.now) c.self.view_is)) in
    top-within c.args.rows.now c.args.self.now c.requires.walk c.args.start c.index-name.result.now here

pub returns-clause-all : goal.returns-clause-all
returns-clause-all c t =
    let len : c.len.result ≡ length c.args.self.now.path = c.len.ensures ∙ c.self.inside.path.ok.0 ∙ ap (λ (x : Walked). length x.path) c.self.view_is in
    let here : slice_get c.args.self.now.path c.args.start ≡ Some c.index-name.result.now =
    slice_get-get_or c.args.self.now.path c.args.start c.index-name.result.now (spent-below c.args.rows.now c.args.self.now c.requires.walk c.args.start c.requires.spent)
    ∙ ap Some (sym (c.index-name.ensures ∙ ap (λ (x : Walked). slice_index_or x.path c.args.start c.index-name.result.now) c.self.view_is)) in
    spent-itself c.args.rows.now c.args.self.now c.requires.walk c.args.start c.requires.spent (omega (arith, len, c.if-len-start-gt1.false)) c.index-name.result.now here
    (c.names.ensures.0 t)

pub returns-clause-none : goal.returns-clause-none
returns-clause-none c f =
    let len : c.len.result ≡ length c.args.self.now.path = c.len.ensures ∙ c.self.inside.path.ok.0 ∙ ap (λ (x : Walked). length x.path) c.self.view_is in
    let here : slice_get c.args.self.now.path c.args.start ≡ Some c.index-name.result.now =
    slice_get-get_or c.args.self.now.path c.args.start c.index-name.result.now (spent-below c.args.rows.now c.args.self.now c.requires.walk c.args.start c.requires.spent)
    ∙ ap Some (sym (c.index-name.ensures ∙ ap (λ (x : Walked). slice_index_or x.path c.args.start c.index-name.result.now) c.self.view_is)) in
    spent-alone c.args.rows.now c.args.self.now c.requires.walk c.args.start c.requires.spent (omega (arith, len, c.if-len-start-gt1.false)) c.index-name.result.now here
    (λ n. absurd (cc (f, c.names.ensures.1 n)))
