use Rattle.std.proofs.Common.{◌≡◌, ◌-◌, length, ap, ◌∙◌, Some, None, ℕ, List, slice_get, slice_index_or}
use Rattle.reg_registry.specs.Walks.{IsAhead, Walked}
use Rattle.reg_registry.proofs.WalkTestLemmas.{ahead-by, ahead-within, mark-at, none-ahead}
use Rattle.reg_registry.proofs.circles.walk.Walk.next.Goals as goal

pub returns-in-None : goal.returns-in-None
returns-in-None c =
    let e : None ≡ slice_get c.args.self.now.ahead (length c.args.self.now.ahead - 1) =
    c.in-None.ensures.value ∙ ap (λ (x : List ℕ). slice_get x (length x - 1)) (c.deref.ensures.value ∙ ap (λ (x : Walked). x.ahead) c.self.view_is) in
    none-ahead c.args.rows.now c.args.self.now c.requires.walk (λ s. absurd (cc (c.if-is_spent.false, c.is_spent.ensures.1 s))) e

pub returns-in-Unseen : goal.returns-in-Unseen
returns-in-Unseen c =
    let e : Some c.in-Some.name.now ≡ slice_get c.args.self.now.ahead (length c.args.self.now.ahead - 1) =
    c.in-Some.ensures.value ∙ ap (λ (x : List ℕ). slice_get x (length x - 1)) (c.deref.ensures.value ∙ ap (λ (x : Walked). x.ahead) c.self.view_is) in
    let a : IsAhead c.args.self.now c.in-Some.name.now =
    ahead-by c.args.rows.now c.args.self.now c.requires.walk (λ s. absurd (cc (c.if-is_spent.false, c.is_spent.ensures.1 s))) c.in-Some.name.now e in (
      a,
      mark-at c.args.self.now.marks c.in-Some.name.now c.index.result.now _ (ahead-within c.args.rows.now c.args.self.now c.requires.walk c.in-Some.name.now a)
          (c.index.ensures ∙ ap (λ (x : Walked). slice_index_or x.marks c.in-Some.name.now c.index.result.now) c.self.view_is) c.in-Unseen.is,
    )

pub returns-in-OnPath : goal.returns-in-OnPath
returns-in-OnPath c =
    let e : Some c.in-Some.name.now ≡ slice_get c.args.self.now.ahead (length c.args.self.now.ahead - 1) =
    c.in-Some.ensures.value ∙ ap (λ (x : List ℕ). slice_get x (length x - 1)) (c.deref.ensures.value ∙ ap (λ (x : Walked). x.ahead) c.self.view_is) in
    let a : IsAhead c.args.self.now c.in-Some.name.now =
    ahead-by c.args.rows.now c.args.self.now c.requires.walk (λ s. absurd (cc (c.if-is_spent.false, c.is_spent.ensures.1 s))) c.in-Some.name.now e in (
      c.in-Some.name.now,
      a,
      mark-at c.args.self.now.marks c.in-Some.name.now c.index.result.now _ (ahead-within c.args.rows.now c.args.self.now c.requires.walk c.in-Some.name.now a)
          (c.index.ensures ∙ ap (λ (x : Walked). slice_index_or x.marks c.in-Some.name.now c.index.result.now) c.self.view_is) c.in-OnPath.is,
    )

pub returns-in-Done : goal.returns-in-Done
returns-in-Done c =
    let e : Some c.in-Some.name.now ≡ slice_get c.args.self.now.ahead (length c.args.self.now.ahead - 1) =
    c.in-Some.ensures.value ∙ ap (λ (x : List ℕ). slice_get x (length x - 1)) (c.deref.ensures.value ∙ ap (λ (x : Walked). x.ahead) c.self.view_is) in
    let a : IsAhead c.args.self.now c.in-Some.name.now =
    ahead-by c.args.rows.now c.args.self.now c.requires.walk (λ s. absurd (cc (c.if-is_spent.false, c.is_spent.ensures.1 s))) c.in-Some.name.now e in (
      c.in-Some.name.now,
      a,
      mark-at c.args.self.now.marks c.in-Some.name.now c.index.result.now _ (ahead-within c.args.rows.now c.args.self.now c.requires.walk c.in-Some.name.now a)
          (c.index.ensures ∙ ap (λ (x : Walked). slice_index_or x.marks c.in-Some.name.now c.index.result.now) c.self.view_is) c.in-Done.is,
    )
