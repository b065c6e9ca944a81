use Rattle.std.proofs.Common.{◌≡◌, ◌<◌, ◌∷◌, length, sym, ap, subst, ◌∙◌, Some, set, slice_get, arith}
use Rattle.std.proofs.lemmas.Option.{slice_get-get_or}
use Rattle.std.proofs.lemmas.Result.{on_ok_weaker}
use Rattle.reg_registry.specs.Walks.{IsAhead, IsWalk, Walked, steps_of}
use Rattle.reg_registry.specs.declared.circles.walk.Mark.TheVariants.{Unseen, OnPath}
use Rattle.reg_registry.proofs.WalkEnterLemmas.{enter-step}
use Rattle.reg_registry.proofs.WalkTestLemmas.{ahead-within}
use Rattle.reg_registry.proofs.circles.walk.Walk.enter.Goals as goal

pub returns-clause-walk : goal.returns-clause-walk
returns-clause-walk c =
    let within : c.args.name < length c.args.rows.now =
    omega (arith, ahead-within c.args.rows.now c.args.self.now c.requires.walk c.args.name c.requires.ahead, c.requires.walk.count) in
    let start : c.len.result ≡ length c.self.inside.path.items = c.len.ensures ∙ c.self.inside.path.ok.0 in
    let ahead : c.len-2.result ≡ length c.self.inside.ahead.items = c.len-2.ensures ∙ c.self.inside.ahead.ok.0 in
    on_ok_weaker c.put_ahead.result
    (λ put. (enter-step c.args.rows.now _ (subst (IsWalk c.args.rows.now) (sym c.self.view_is) c.requires.walk) c.args.name
    (subst (λ (x : Walked). IsAhead x c.args.name) (sym c.self.view_is) c.requires.ahead)
    (subst (λ (x : Walked). slice_get x.marks c.args.name ≡ Some Unseen) (sym c.self.view_is) c.requires.unseen)
    c.index-rows-name.result (slice_get-get_or c.args.rows.now c.args.name c.index-rows-name.result within ∙ ap Some (sym c.index-rows-name.is)) c.requires.ids
    _ c.push.new.self.items c.put_ahead.new.ahead.items c.push-2.new.self
    (ap (λ x. set c.self.inside.marks.items c.args.name (OnPath x)) start) c.in_ok-push.ensures.items put
    (c.in_ok-push-2.ensures ∙ (λ i. record { start = start i; ahead = ahead i } ∷ c.self.inside.groups))).0)
    c.put_ahead.ensures

pub returns-clause-fewer : goal.returns-clause-fewer
returns-clause-fewer c =
    let within : c.args.name < length c.args.rows.now =
    omega (arith, ahead-within c.args.rows.now c.args.self.now c.requires.walk c.args.name c.requires.ahead, c.requires.walk.count) in
    let start : c.len.result ≡ length c.self.inside.path.items = c.len.ensures ∙ c.self.inside.path.ok.0 in
    let ahead : c.len-2.result ≡ length c.self.inside.ahead.items = c.len-2.ensures ∙ c.self.inside.ahead.ok.0 in
    on_ok_weaker c.put_ahead.result
    (λ put. subst (λ (x : Walked). steps_of c.args.rows.now (record {
      marks = set c.self.inside.marks.items c.args.name (OnPath c.len.result);
      path = c.push.new.self.items;
      ahead = c.put_ahead.new.ahead.items;
      groups = c.push-2.new.self;
      first = c.self.inside.first;
    }) < steps_of c.args.rows.now x) c.self.view_is (enter-step c.args.rows.now _ (subst (IsWalk c.args.rows.now) (sym c.self.view_is) c.requires.walk) c.args.name
    (subst (λ (x : Walked). IsAhead x c.args.name) (sym c.self.view_is) c.requires.ahead)
    (subst (λ (x : Walked). slice_get x.marks c.args.name ≡ Some Unseen) (sym c.self.view_is) c.requires.unseen)
    c.index-rows-name.result (slice_get-get_or c.args.rows.now c.args.name c.index-rows-name.result within ∙ ap Some (sym c.index-rows-name.is)) c.requires.ids
    _ c.push.new.self.items c.put_ahead.new.ahead.items c.push-2.new.self
    (ap (λ x. set c.self.inside.marks.items c.args.name (OnPath x)) start) c.in_ok-push.ensures.items put
    (c.in_ok-push-2.ensures ∙ (λ i. record { start = start i; ahead = ahead i } ∷ c.self.inside.groups))).1)
    c.put_ahead.ensures
