-- A node for each possible id.
use Rattle.std.proofs.Common.{◌≡◌, ◌∙◌, refl, sym, ap, subst, inr, ℕ, ◌+◌, ◌*◌, ◌<◌, ◌≤◌, Bool, true, false, cond, Some, List, [], ◌∷◌, ◌++◌, length, map, get_or, add-one, All, Contains, arith}
use Rattle.std.specs.Prelude.{count_by}
use Rattle.std.specs.List.{list_any}
use Rattle.std.specs.Str.{bytes_eq}
use Rattle.std.proofs.Math.Nat.{suc-mul}
use Rattle.std.proofs.lemmas.List.{length-map, length_push, map_push}
use Rattle.std.proofs.lemmas.List.Elements.{All-cons, All-contains_itself, All-head, All-map, All-nil, All-push, All-tail, All-weaker}
use Rattle.std.proofs.lemmas.List.Sums.{sum_by-cons}
use Rattle.std.proofs.lemmas.Slice.Eq.{bytes_eq-Decides}
use Rattle.vkb_formula.specs.Names.{AreDifferent}
use Rattle.vkb_formula.specs.Pools.{Extends, node_clauses, node_variables, pool_reach, pool_size, sum_reached}
use Rattle.vkb_formula.specs.declared.pool.NodeId.{NodeId}
use Rattle.vkb_formula.specs.declared.pool.PoolNode.{PoolNode}
use Rattle.doc_build.specs.Ids.{filled}
use Rattle.doc_tree.specs.Names.{each_once}
use Rattle.lift_nodes.specs.declared.Constants.{Constants}
use Rattle.lift_nodes.specs.declared.IdCase.{IdCase}
use Rattle.lift_nodes.specs.declared.Source.{Source}
use Rattle.lift_nodes.specs.declared.ids.Giver.{Giver}
use Rattle.lift_nodes.specs.Cases.{AreConstant, id_of, later_sources, nodes_under, page_from, possible_ids, start_page}
use Rattle.lift_nodes.specs.Giving.{HaveNodes, SaysId, giver_of, nodes_over}
use Rattle.lift_nodes.specs.Nodes.{IsNodeOver, is_true, sum_over}
use Rattle.lift_nodes.specs.Putting.{IsGrown, IsPart, places_of}
use Rattle.lift_nodes.proofs.GrownLemmas.{grown-none, grown-then, grown-weaker}
use Rattle.lift_nodes.proofs.IdLemmas.{id_from-alike, id_from-page, possible-ids}
use Rattle.lift_nodes.proofs.PlainLemmas.{any-page, one-id}
use Rattle.lift_nodes.proofs.OnceLemmas.{count-alike, count-map, count-once, counted-there, id_from-among, once-different}

-- the sum over what a node reaches stays when others are put last
abbrev pub SumsStay : Type 0
SumsStay = (nodes more : List PoolNode) (root : ℕ) (weigh : PoolNode → ℕ) → root < length nodes → sum_reached weigh (nodes ++ more) root ≡ sum_reached weigh nodes root

module _ (sums : SumsStay) where
  sum-stays : (weigh : PoolNode → ℕ) (old new : List PoolNode) → Extends old new → (root : ℕ) → root < length old → sum_reached weigh new root ≡ sum_reached weigh old root
  sum-stays weigh old new e root held = ap (λ (ns : List PoolNode). sum_reached weigh ns root) e.1 ∙ sums old e.0 root weigh held

  sum_over-stays : (weigh : PoolNode → ℕ) (old new : List PoolNode) → Extends old new → (over : List NodeId) → All (λ n. n.0 < length old) over → sum_over weigh new over ≡ sum_over weigh old over
  sum_over-stays weigh old new e [] held = refl
  sum_over-stays weigh old new e (n ∷ ns) held =
      let first = sum-stays weigh old new e n.0 (All-head (λ (n : NodeId). n.0 < length old) n ns held) in
      let rest = sum_over-stays weigh old new e ns (All-tail (λ (n : NodeId). n.0 < length old) n ns held) in
      omega (arith, first, rest, sum_by-cons (λ (id : NodeId). sum_reached weigh new id.0) n ns, sum_by-cons (λ (id : NodeId). sum_reached weigh old id.0) n ns)

  module _ (p0 : List PoolNode) (constants : Constants) (are : AreConstant p0 constants) (start : List ℕ) (givers : List Giver) (lines : All (λ giver. giver.line.0 < length p0) givers) where
    abbrev over : List NodeId
    over = nodes_over constants givers

    over-held : All (λ n. n.0 < length p0) over
    over-held =
        All-cons (λ (n : NodeId). n.0 < length p0) constants.always (constants.never ∷ map (λ (g : Giver). g.line) givers) are.always_held
        (All-cons (λ (n : NodeId). n.0 < length p0) constants.never (map (λ (g : Giver). g.line) givers) are.never_held (All-map (λ (n : NodeId). n.0 < length p0) (λ (g : Giver). g.line) givers lines))

    -- a node that was put behind others says the same of the pool before them
    says-from : (size clauses variables : ℕ) (mid new : List PoolNode) (id : List ℕ) (n : NodeId) → IsGrown p0 mid (places_of over) size clauses variables → SaysId mid new constants id start givers n
        → SaysId p0 new constants id start givers n
    says-from size clauses variables mid new id n grown says = record {
      held = says.held;
      value = λ set.
          says.value set ∙ ap (bytes_eq id) (id_from-alike (is_true mid set) (is_true p0 set) start givers
          (All-weaker (λ (g : Giver). g.line.0 < length p0) (λ (g : Giver). is_true mid set g.line ≡ is_true p0 set g.line) (λ g held. grown.kept set g.line held) givers lines));
      clauses = omega (arith, says.clauses, sum_over-stays node_clauses p0 mid grown.extends over over-held);
      variables = omega (arith, says.variables, sum_over-stays node_variables p0 mid grown.extends over over-held);
    }

    -- and it goes on saying it when others are put behind it
    says-on : (size clauses variables : ℕ) (mid new : List PoolNode) (id : List ℕ) (n : NodeId) → IsGrown mid new (places_of over) size clauses variables → SaysId p0 mid constants id start givers n
        → SaysId p0 new constants id start givers n
    says-on size clauses variables mid new id n grown says = record {
      held = omega (arith, says.held, grown.count);
      value = λ set. grown.kept set n says.held ∙ says.value set;
      clauses = omega (arith, says.clauses, sum-stays node_clauses mid new grown.extends n.0 says.held);
      variables = omega (arith, says.variables, sum-stays node_variables mid new grown.extends n.0 says.held);
    }

    own-parts : All (IsPart p0 (places_of over)) (places_of over)
    own-parts = All-weaker (Contains (places_of over)) (IsPart p0 (places_of over)) (λ part has. inr has) (places_of over) (All-contains_itself (places_of over))

    pub have-none : HaveNodes p0 p0 constants start givers [] []
    have-none = record {
      grown = grown-weaker p0 p0 (places_of over) 0 0 0 (5 * (0 * length givers)) (3 * (0 * length givers)) (0 * length givers) (grown-none p0 (places_of over)) (omega arith) (omega arith) (omega arith);
      ids_are = refl;
      nodes = All-nil (λ (case : IdCase). SaysId p0 p0 constants case.id start givers case.node);
    }

    -- one id more has its node
    pub have-more : (mid new : List PoolNode) (ids : List (List ℕ)) (cases : List IdCase) (id : List ℕ) (n : NodeId) → HaveNodes p0 mid constants start givers ids cases
        → IsGrown mid new (places_of over) (5 * length givers) (3 * length givers) (length givers) → SaysId mid new constants id start givers n
        → HaveNodes p0 new constants start givers (ids ++ id ∷ []) (cases ++ record { id = id; node = n } ∷ [])
    have-more mid new ids cases id n have grown says =
        let each = length givers in
        let so-many = length ids * each in
        let more : length (ids ++ id ∷ []) * each ≡ so-many + each = ap (λ (k : ℕ). k * each) (length_push ids id ∙ add-one (length ids)) ∙ suc-mul (length ids) each in
        record {
          grown = grown-weaker p0 new (places_of over) (5 * so-many + 5 * each) (3 * so-many + 3 * each) (so-many + each) (5 * (length (ids ++ id ∷ []) * each)) (3 * (length (ids ++ id ∷ []) * each))
              (length (ids ++ id ∷ []) * each)
              (grown-then p0 mid new (places_of over) (places_of over) (5 * so-many) (3 * so-many) so-many (5 * each) (3 * each) each have.grown grown own-parts)
              (omega (arith, more)) (omega (arith, more)) (omega (arith, more));
          ids_are = map_push (λ (case : IdCase). case.id) cases (record { id = id; node = n }) ∙ ap (λ (is : List (List ℕ)). is ++ id ∷ []) have.ids_are;
          nodes = All-push (λ (case : IdCase). SaysId p0 new constants case.id start givers case.node) cases (record { id = id; node = n })
              (All-weaker (λ (case : IdCase). SaysId p0 mid constants case.id start givers case.node) (λ (case : IdCase). SaysId p0 new constants case.id start givers case.node)
              (λ case on. says-on (5 * each) (3 * each) each mid new case.id case.node grown on) cases have.nodes)
              (says-from (5 * so-many) (3 * so-many) so-many mid new id n have.grown says);
        }

-- ---- all possible ids

lines-of : (written : List ℕ) (sources : List Source) → map (λ (g : Giver). g.line) (map (giver_of written) sources) ≡ map (λ (s : Source). s.line) sources
lines-of written [] = refl
lines-of written (s ∷ ss) = ap (λ (ns : List NodeId). s.line ∷ ns) (lines-of written ss)

-- the lines of the later sources are among those of all
pub later-held : (P : Source → Type 0) (covered : Bool) (sources : List Source) → All P sources → All P (later_sources covered sources)
later-held P true [] held = held
later-held P true (first ∷ sources) held = All-tail P first sources held
later-held P false sources held = held

-- what each page leaves as it is written is the one id
module _ (p0 : List PoolNode) (constants : Constants) (are : AreConstant p0 constants) (written : List ℕ) (covered : Bool) (sources : List Source) (plain : (page : List ℕ) → filled (Some page) written ≡ written) where
  abbrev plain-givers : List Giver
  plain-givers = map (giver_of written) (later_sources covered sources)

  abbrev plain-start : List ℕ
  plain-start = filled (start_page covered sources) written

  plain-once : each_once (plain-start ∷ map (λ giver. giver.id) plain-givers) ≡ written ∷ []
  plain-once =
      ap (λ (id : List ℕ). each_once (id ∷ map (λ giver. giver.id) plain-givers)) (any-page written plain (start_page covered sources))
      ∙ one-id written (map (λ giver. giver.id) plain-givers)
      (All-map (λ (other : List ℕ). other ≡ written) (λ (giver : Giver). giver.id) plain-givers
      (All-map (λ (giver : Giver). giver.id ≡ written) (giver_of written) (later_sources covered sources) (λ k d within. plain (get_or (later_sources covered sources) k d).page)))

  pub have-plain : HaveNodes p0 p0 constants plain-start plain-givers (each_once (plain-start ∷ map (λ giver. giver.id) plain-givers)) (record { id = written; node = constants.always } ∷ [])
  have-plain =
      let over = nodes_over constants plain-givers in
      let ids = each_once (plain-start ∷ map (λ giver. giver.id) plain-givers) in
      let many = length ids * length plain-givers in
      record {
        grown = grown-weaker p0 p0 (places_of over) 0 0 0 (5 * many) (3 * many) many (grown-none p0 (places_of over)) (omega arith) (omega arith) (omega arith);
        ids_are = sym plain-once;
        nodes = All-cons (λ (case : IdCase). SaysId p0 p0 constants case.id plain-start plain-givers case.node) (record { id = written; node = constants.always }) []
            (record {
              held = are.always_held;
              value = λ set.
                  are.always set
                  ∙ sym (ap (bytes_eq written) (id_from-page (is_true p0 set) (start_page covered sources) written (later_sources covered sources)
                  ∙ any-page written plain (page_from (is_true p0 set) (start_page covered sources) (later_sources covered sources))) ∙ (bytes_eq-Decides written written).1 refl);
              clauses = omega (arith, sum_by-cons (λ (id : NodeId). sum_reached node_clauses p0 id.0) constants.always (constants.never ∷ map (λ (g : Giver). g.line) plain-givers));
              variables = omega (arith, sum_by-cons (λ (id : NodeId). sum_reached node_variables p0 id.0) constants.always (constants.never ∷ map (λ (g : Giver). g.line) plain-givers));
            })
            (All-nil (λ (case : IdCase). SaysId p0 p0 constants case.id plain-start plain-givers case.node));
      }

-- the start and the givers go by another name
pub have-from : (p0 new : List PoolNode) (constants : Constants) (cases : List IdCase) (start other : List ℕ) (givers others : List Giver) → start ≡ other → givers ≡ others
    → HaveNodes p0 new constants start givers (each_once (start ∷ map (λ giver. giver.id) givers)) cases → HaveNodes p0 new constants other others (each_once (other ∷ map (λ giver. giver.id) others)) cases
have-from p0 new constants cases start other givers others same alike have =
    subst (λ (id : List ℕ). HaveNodes p0 new constants id others (each_once (id ∷ map (λ giver. giver.id) others)) cases) same
    (subst (λ (gs : List Giver). HaveNodes p0 new constants start gs (each_once (start ∷ map (λ giver. giver.id) gs)) cases) alike have)

module _ (p0 new : List PoolNode) (constants : Constants) (written : List ℕ) (covered : Bool) (sources : List Source) (cases : List IdCase)
    (have : HaveNodes p0 new constants (filled (start_page covered sources) written) (map (giver_of written) (later_sources covered sources))
    (each_once (filled (start_page covered sources) written ∷ map (λ giver. giver.id) (map (giver_of written) (later_sources covered sources)))) cases) where
  abbrev later : List Source
  later = later_sources covered sources

  abbrev givers : List Giver
  givers = map (giver_of written) later

  count : length givers ≡ length later
  count = length-map later (giver_of written)

  pub cases-ids : map (λ (case : IdCase). case.id) cases ≡ possible_ids written covered sources
  cases-ids = have.ids_are ∙ possible-ids written covered sources

  pub cases-reach : pool_reach new ≡ pool_reach p0
  cases-reach = have.grown.reach

  pub cases-size : pool_size new ≤ pool_size p0 + 5 * (length cases * length later)
  cases-size =
      let many : length cases ≡ length (possible_ids written covered sources) = sym (length-map cases (λ (case : IdCase). case.id)) ∙ ap (λ (ids : List (List ℕ)). length ids) cases-ids in
      let ids = each_once (filled (start_page covered sources) written ∷ map (λ giver. giver.id) givers) in
      let same : length ids * length givers ≡ length cases * length later =
      ap (λ (k : ℕ). k * length givers) (ap (λ (is : List (List ℕ)). length is) (possible-ids written covered sources) ∙ sym many) ∙ ap (λ (k : ℕ). length cases * k) count in
      omega (arith, have.grown.most_size, same)

  pub cases-nodes : All (λ case. IsNodeOver p0 new (nodes_under constants covered sources) (3 * length later) (length later) (λ set. bytes_eq case.id (id_of (is_true p0 set) written covered sources)) case.node) cases
  cases-nodes =
      All-weaker (λ (case : IdCase). SaysId p0 new constants case.id (filled (start_page covered sources) written) givers case.node)
      (λ (case : IdCase). IsNodeOver p0 new (nodes_under constants covered sources) (3 * length later) (length later) (λ set. bytes_eq case.id (id_of (is_true p0 set) written covered sources)) case.node)
      (λ case says.
      let over : nodes_over constants givers ≡ nodes_under constants covered sources = ap (λ (ns : List NodeId). constants.always ∷ constants.never ∷ ns) (lines-of written later) in
      record {
        held = says.held;
        value = λ set. says.value set ∙ ap (bytes_eq case.id) (id_from-page (is_true p0 set) (start_page covered sources) written later);
        clauses = omega (arith, says.clauses, count, ap (λ (ns : List NodeId). sum_over node_clauses p0 ns) over);
        variables = omega (arith, says.variables, count, ap (λ (ns : List NodeId). sum_over node_variables p0 ns) over);
      })
      cases have.nodes

  abbrev first-ids : List (List ℕ)
  first-ids = filled (start_page covered sources) written ∷ map (λ giver. giver.id) givers

  pub cases-different : AreDifferent (map (λ (case : IdCase). case.id) cases)
  cases-different = subst AreDifferent (sym have.ids_are) (once-different first-ids)

  module _ (set : List Bool) where
    abbrev id : List ℕ
    id = id_of (is_true p0 set) written covered sources

    id-among : list_any (bytes_eq id) first-ids ≡ true
    id-among =
        subst (λ (i : List ℕ). list_any (bytes_eq i) first-ids ≡ true) (id_from-page (is_true p0 set) (start_page covered sources) written later)
        (id_from-among (is_true p0 set) (filled (start_page covered sources) written) givers)

    id-once : count_by (λ other. bytes_eq other id) (each_once first-ids) ≡ 1
    id-once = count-once first-ids id ∙ ap (λ (b : Bool). cond b 1 0) id-among

    pub cases-among : Contains (map (λ (case : IdCase). case.id) cases) id
    cases-among = subst (λ (ids : List (List ℕ)). Contains ids id) (sym have.ids_are) (counted-there (each_once first-ids) id (omega (arith, id-once)))

    pub cases-one : count_by (λ (case : IdCase). is_true new set case.node) cases ≡ 1
    cases-one =
        count-alike (λ (case : IdCase). is_true new set case.node) (λ (case : IdCase). bytes_eq case.id id) cases
        (All-weaker (λ (case : IdCase). IsNodeOver p0 new (nodes_under constants covered sources) (3 * length later) (length later) (λ set. bytes_eq case.id (id_of (is_true p0 set) written covered sources)) case.node)
        (λ (case : IdCase). is_true new set case.node ≡ bytes_eq case.id id) (λ case says. says.value set) cases cases-nodes)
        ∙ (sym (count-map (λ other. bytes_eq other id) (λ (case : IdCase). case.id) cases) ∙ (ap (count_by (λ other. bytes_eq other id)) have.ids_are ∙ id-once))
