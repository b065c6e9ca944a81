-- The ids that sources give, and which of them stand first.
use Rattle.std.proofs.Common.{◌≡◌, ◌∙◌, refl, sym, ap, ℕ, ◌+◌, ◌<◌, Bool, true, false, not, ◌&&◌, ◌||◌, cond, List, [], ◌∷◌, ◌++◌, length, map, get_or, take, Option, Some, All}
use Rattle.std.specs.Prelude.{filter}
use Rattle.std.specs.List.{list_any}
use Rattle.std.specs.Str.{bytes_eq}
use Rattle.std.proofs.lemmas.List.{append-nil, map_more, take_more}
use Rattle.std.proofs.lemmas.List.Elements.{All-head, All-tail, filter-append}
use Rattle.std.proofs.lemmas.Slice.Eq.{bytes_eq-Decides}
use Rattle.vkb_formula.specs.declared.pool.NodeId.{NodeId}
use Rattle.doc_tree.specs.Names.{each_once}
use Rattle.doc_build.specs.Ids.{filled}
use Rattle.lift_nodes.specs.declared.Source.{Source}
use Rattle.lift_nodes.specs.declared.ids.Giver.{Giver}
use Rattle.lift_nodes.specs.Cases.{later_sources, page_from, possible_ids, start_page}
use Rattle.lift_nodes.specs.Giving.{giver_of, id_from, with_id}

-- ---- the id behind givers

filled-either : (is : Bool) (page : List ℕ) (before : Option (List ℕ)) (written : List ℕ) → cond is (filled (Some page) written) (filled before written) ≡ filled (cond is (Some page) before) written
filled-either true page before written = refl
filled-either false page before written = refl

-- the id that givers leave is that of the page which their sources leave
pub id_from-page : (is_kept : NodeId → Bool) (page : Option (List ℕ)) (written : List ℕ) (sources : List Source)
    → id_from is_kept (filled page written) (map (giver_of written) sources) ≡ filled (page_from is_kept page sources) written
id_from-page is_kept page written [] = refl
id_from-page is_kept page written (s ∷ ss) =
    ap (λ (id : List ℕ). id_from is_kept id (map (giver_of written) ss)) (filled-either (is_kept s.line) s.page page written)
    ∙ id_from-page is_kept (cond (is_kept s.line) (Some s.page) page) written ss

id_from-append : (is_kept : NodeId → Bool) (id : List ℕ) (givers : List Giver) (last : Giver) → id_from is_kept id (givers ++ last ∷ []) ≡ cond (is_kept last.line) last.id (id_from is_kept id givers)
id_from-append is_kept id [] last = refl
id_from-append is_kept id (g ∷ gs) last = id_from-append is_kept (cond (is_kept g.line) g.id id) gs last

pub id_from-more : (is_kept : NodeId → Bool) (id : List ℕ) (givers : List Giver) (count : ℕ) (giver : Giver) → count < length givers → giver ≡ get_or givers count giver
    → id_from is_kept id (take (count + 1) givers) ≡ cond (is_kept giver.line) giver.id (id_from is_kept id (take count givers))
id_from-more is_kept id givers count giver within here =
    ap (id_from is_kept id) (take_more givers count giver within ∙ ap (λ (g : Giver). take count givers ++ g ∷ []) (sym here)) ∙ id_from-append is_kept id (take count givers) giver

-- it is the same where each line is kept or isn't alike
pub id_from-alike : (is_kept other : NodeId → Bool) (id : List ℕ) (givers : List Giver) → All (λ giver. is_kept giver.line ≡ other giver.line) givers → id_from is_kept id givers ≡ id_from other id givers
id_from-alike is_kept other id [] same = refl
id_from-alike is_kept other id (g ∷ gs) same =
    ap (λ (b : Bool). id_from is_kept (cond b g.id id) gs) (All-head (λ giver. is_kept giver.line ≡ other giver.line) g gs same)
    ∙ id_from-alike is_kept other (cond (other g.line) g.id id) gs (All-tail (λ giver. is_kept giver.line ≡ other giver.line) g gs same)

-- where the next giver gives this id, its line or what was before says so
pub where-given : (line : Bool) (id given before : List ℕ) → bytes_eq id given ≡ true → (line || bytes_eq id before) ≡ bytes_eq id (cond line given before)
where-given true id given before is = sym is
where-given false id given before is = refl

-- where it gives another, its line must not be kept
pub where-taken : (line : Bool) (id given before : List ℕ) → bytes_eq id given ≡ false → (not line && bytes_eq id before) ≡ bytes_eq id (cond line given before)
where-taken true id given before isnt = sym isnt
where-taken false id given before isnt = refl

-- ---- each id once

same_bytes : (a b : List ℕ) → bytes_eq a b ≡ true → a ≡ b
same_bytes a b is = (bytes_eq-Decides a b).0 is

is-itself : (a : List ℕ) → bytes_eq a a ≡ true
is-itself a = (bytes_eq-Decides a a).1 refl

-- those that are not the first have another id as the rest have it
any-other : (first id x : List ℕ) (xs : List (List ℕ)) (is : Bool) → (is ≡ true → x ≡ first) → bytes_eq id first ≡ false
    → list_any (bytes_eq id) (filter (λ other. not (bytes_eq other first)) xs) ≡ list_any (bytes_eq id) xs
    → list_any (bytes_eq id) (cond (not is) (x ∷ filter (λ other. not (bytes_eq other first)) xs) (filter (λ other. not (bytes_eq other first)) xs)) ≡ (bytes_eq id x || list_any (bytes_eq id) xs)
any-other first id x xs true same isnt rest = rest ∙ ap (λ (b : Bool). b || list_any (bytes_eq id) xs) (sym (ap (bytes_eq id) (same refl) ∙ isnt))
any-other first id x xs false same isnt rest = ap (λ (b : Bool). bytes_eq id x || b) rest

any-others : (first id : List ℕ) (rest : List (List ℕ)) → bytes_eq id first ≡ false → list_any (bytes_eq id) (filter (λ other. not (bytes_eq other first)) rest) ≡ list_any (bytes_eq id) rest
any-others first id [] isnt = refl
any-others first id (x ∷ xs) isnt = any-other first id x xs (bytes_eq x first) (same_bytes x first) isnt (any-others first id xs isnt)

filter-with : (passes : List ℕ → Bool) (rest : List (List ℕ)) (id : List ℕ) (among : Bool)
    → filter passes (cond among rest (rest ++ id ∷ [])) ≡ cond among (filter passes rest) (filter passes rest ++ cond (passes id) (id ∷ []) [])
filter-with passes rest id true = refl
filter-with passes rest id false = filter-append passes rest (id ∷ [])

put-last : (is among later : Bool) (first id : List ℕ) (rest : List (List ℕ)) → (is ≡ false → later ≡ among)
    → first ∷ cond among rest (rest ++ cond (not is) (id ∷ []) []) ≡ cond (is || later) (first ∷ rest) (first ∷ (rest ++ id ∷ []))
put-last true true later first id rest same = refl
put-last true false later first id rest same = ap (λ (ids : List (List ℕ)). first ∷ ids) (append-nil rest)
put-last false true later first id rest same = ap (λ (b : Bool). cond b (first ∷ rest) (first ∷ (rest ++ id ∷ []))) (sym (same refl))
put-last false false later first id rest same = ap (λ (b : Bool). cond b (first ∷ rest) (first ∷ (rest ++ id ∷ []))) (sym (same refl))

-- one id more stands behind the others, where it is new
pub each_once-push : (ids : List (List ℕ)) (id : List ℕ) → each_once (ids ++ id ∷ []) ≡ with_id (each_once ids) id
each_once-push [] id = refl
each_once-push (first ∷ ids) id =
    let others : List ℕ → Bool = λ other. not (bytes_eq other first) in
    let rest = each_once ids in
    ap (λ (new : List (List ℕ)). first ∷ filter others new) (each_once-push ids id)
    ∙ (ap (λ (new : List (List ℕ)). first ∷ new) (filter-with others rest id (list_any (bytes_eq id) rest))
    ∙ put-last (bytes_eq id first) (list_any (bytes_eq id) rest) (list_any (bytes_eq id) (filter others rest)) first id (filter others rest) (any-others first id rest))

-- the ids of one giver more
pub once-more : (start : List ℕ) (givers : List Giver) (count : ℕ) (giver : Giver) (id : List ℕ) (old new : List (List ℕ)) → count < length givers → giver ≡ get_or givers count giver → id ≡ giver.id
    → old ≡ each_once (start ∷ map (λ giver. giver.id) (take count givers)) → new ≡ with_id old id → new ≡ each_once (start ∷ map (λ giver. giver.id) (take (count + 1) givers))
once-more start givers count giver id old new within here same before put =
    let ids = start ∷ map (λ (g : Giver). g.id) (take count givers) in
    put ∙ (ap (λ (is : List (List ℕ)). with_id is id) before ∙ (ap (with_id (each_once ids)) (same ∙ ap (λ (g : Giver). g.id) here)
    ∙ (sym (each_once-push ids (get_or givers count giver).id) ∙ ap (λ (is : List (List ℕ)). each_once (start ∷ is)) (sym (map_more (λ (g : Giver). g.id) givers count giver within)))))

-- ---- the possible ids

pub givers-ids : (written : List ℕ) (sources : List Source) → map (λ (giver : Giver). giver.id) (map (giver_of written) sources) ≡ map (λ page. filled page written) (map (λ (source : Source). Some source.page) sources)
givers-ids written [] = refl
givers-ids written (s ∷ ss) = ap (λ (ids : List (List ℕ)). filled (Some s.page) written ∷ ids) (givers-ids written ss)

pub possible-ids : (written : List ℕ) (covered : Bool) (sources : List Source)
    → each_once (filled (start_page covered sources) written ∷ map (λ (giver : Giver). giver.id) (map (giver_of written) (later_sources covered sources))) ≡ possible_ids written covered sources
possible-ids written covered sources =
    ap (λ (ids : List (List ℕ)). each_once (filled (start_page covered sources) written ∷ ids)) (givers-ids written (later_sources covered sources))
