use Rattle.std.proofs.Common.{◌≡◌, ℕ, List, [], ◌∷◌, ◌++◌, map, Ok, IfSome, IsSome, refl, sym, ap, ◌∙◌, subst, append_assoc}
use Rattle.std.specs.Vec.Iter.{into_iter_items}
use Rattle.vkb_outside.specs.Shelf.{Puts}
use Rattle.vkb_tool.specs.Answer.{AreHeld, put_of}
use Rattle.vkb_tool.specs.Outcome.{Put}
use Rattle.vkb_tool.proofs.PutLemmas.{one_more, still_held}
use Rattle.vkb_tool.proofs.answer.put_all.Goals as goal

pub put-requires : goal.put-requires
put-requires g c =
    let was = c.loop-put.invariant in
    let put = put_of c.in-Some.put in
    let rest = map put_of (into_iter_items c.next.new.self) in
    let told = g.S.Shelf.holds c.args.shelf.now in
    let split : map put_of c.args.puts.items ≡ was.2 ++ put ∷ rest = was.3 ∙ ap (λ xs. was.2 ++ map put_of xs) c.in-Some.ensures.steps.0 in
    let held = subst (λ (ps : List Put). AreHeld told ps) split c.requires in
    subst (λ (name : List ℕ). IfSome (g.S.Shelf.holds c.loop-put.shelf) (λ files. IsSome (files name))) (sym c.as_str.ensures)
    (still_held was.2 put rest told (g.S.Shelf.holds c.loop-put.shelf) held was.4)

pub loop-put-preserved : goal.loop-put-preserved
loop-put-preserved g c =
    let was = c.loop-put.invariant in
    let put = put_of c.in-Some.put in
    let rest = map put_of (into_iter_items c.next.new.self) in
    let told = g.S.Shelf.holds c.args.shelf.now in
    let split : map put_of c.args.puts.items ≡ was.2 ++ put ∷ rest = was.3 ∙ ap (λ xs. was.2 ++ map put_of xs) c.in-Some.ensures.steps.0 in
    let done = c.in_ok-put.ensures.put in
    let mid = g.S.Shelf.holds c.loop-put.shelf in
    let now = g.S.Shelf.holds c.put.new.self in
    let named = subst (λ (name : List ℕ). Puts name c.into_vec.result.items (Ok c.in_ok-put.field-0) mid now) c.as_str.ensures done in
    let as_put = subst (λ (bytes : List ℕ). Puts c.in-Some.put.name bytes (Ok c.in_ok-put.field-0) mid now) c.into_vec.ensures named in
    let are = one_more was.2 put (Ok c.in_ok-put.field-0) told mid now was.4 as_put refl in
    (tt, tt, was.2 ++ put ∷ [], split ∙ sym (append_assoc was.2 (put ∷ []) rest), are, c.in_ok-put.ensures.counted ∙ was.5, c.in_ok-put.ensures.reads ∙ was.6)
