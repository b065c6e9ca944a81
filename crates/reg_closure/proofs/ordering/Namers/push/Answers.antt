use Rattle.std.proofs.Common.{◌≡◌, ℕ, ◌<◌, ◌++◌, ◌∷◌, [], List, Vec, Global, length, get_or, map, set, sym, ap, ◌∙◌, arith}
use Rattle.std.proofs.lemmas.List.{get_or-map, length-map, map-set}
use Rattle.reg_closure.proofs.ordering.Namers.push.Goals as goal

pub returns : goal.returns
returns c =
    let view : map (λ (list : Vec ℕ Global). list.items) c.self.inside.lists.items ≡ c.args.self.now = c.self.view_is in
    let within : c.args.name < length c.self.inside.lists.items =
    omega (arith, c.requires, ap length view, length-map c.self.inside.lists.items (λ (list : Vec ℕ Global). list.items)) in
    map-set (λ (list : Vec ℕ Global). list.items) c.self.inside.lists.items c.args.name c.push.new.self
    ∙ ap (set (map (λ (list : Vec ℕ Global). list.items) c.self.inside.lists.items) c.args.name) (
    c.in_ok-push.ensures.items
    ∙ ap (λ (namers : List ℕ). namers ++ c.args.namer ∷ [])
    (sym (get_or-map (λ (list : Vec ℕ Global). list.items) c.self.inside.lists.items c.args.name c.index_mut.result.now [] within
    ∙ ap (λ (list : Vec ℕ Global). list.items) (sym c.index_mut.ensures.value)))
    )
    ∙ ap (λ (lists : List (List ℕ)). set lists c.args.name (get_or lists c.args.name [] ++ c.args.namer ∷ [])) view
