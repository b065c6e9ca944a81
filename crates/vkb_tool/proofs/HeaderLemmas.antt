-- What a request for a header comes to.
use Rattle.std.proofs.Common.{inl, inr, ◌≡◌, ℕ, ◌<◌, Bool, true, All, List, [], ◌∷◌, length, map, get_or, slice_get, option_map, Option, Some, arith, refl, sym, ap, ◌∙◌, subst}
use Rattle.std.proofs.lemmas.List.{length-map}
use Rattle.std.proofs.lemmas.Option.{slice_get-get_or, slice_get-map, slice_get_within}
use Rattle.vkb_outside.specs.Shelf.{Files}
use Rattle.vkb_formula.specs.declared.name_table.NameId.{NameId}
use Rattle.reg_reader.specs.Laws.{OneAnswer}
use Rattle.reg_registry.specs.Laws.{AreWithin}
use Rattle.reg_registry.specs.Naming.{IsOnCircle}
use Rattle.reg_registry.specs.Rows.{Rows, id_at}
use Rattle.reg_registry.specs.declared.registry.Row.{Row}
use Rattle.reg_forms.specs.Forms.{forms_of}
use Rattle.reg_rows.specs.Laws.{AnswersAreOne}
use Rattle.reg_rows.specs.Rows.{declared_in, row_of}
use Rattle.reg_closure.specs.Closure.{IsClosure}
use Rattle.reg_closure.specs.Existence.{ClosuresAreThere, OrdersAreThere}
use Rattle.reg_closure.specs.Laws.{ClosuresAreOne, OrdersAreOne}
use Rattle.reg_closure.specs.Orders.{IsOrder}
use Rattle.reg_permit.specs.Choices.{IsChoice, chosen_by}
use Rattle.reg_permit.specs.Existence.{PermittedOrFirst}
use Rattle.hdr_writer.specs.Headers.{header}
use Rattle.vkb_tool.specs.declared.status.Status.TheVariants.{Done, Refused}
use Rattle.vkb_tool.specs.declared.words.Request.TheVariants.{Header}
use Rattle.vkb_tool.specs.declared.registry.RegistryFault.{RegistryFault}
use Rattle.vkb_tool.specs.Declaring.{TellsAtChoice, TellsHeader}
use Rattle.vkb_tool.specs.Fault.{Fault, BadTag, InDocument, InRegistry, NoNumber, NotPermitted, UnknownOption}
use Rattle.vkb_tool.specs.Outcome.{Effect, HasNoFault, IsDeclared, IsFaultAt, IsHeaderFault, Outcome, declared, determined, refused, writes_alone}
use Rattle.vkb_tool.specs.Registry.{IsRegistry, IsRegistryFault}
use Rattle.vkb_tool.specs.Report.{fault_line}
use Rattle.vkb_tool.specs.Words.{Spells}
use Rattle.vkb_tool.proofs.ChoiceLemmas.{choice_comes, choice_sound, same_fault_at}
use Rattle.vkb_tool.proofs.RegistryLemmas.{never_faulty_registry, one_registry, one_registry_fault}

-- which fault of a header it is
data Kinds (files : Files) (registry api : List ℕ) (names : List (List ℕ)) (fault : Fault) : Type 0 where
  in_file : (wrong : RegistryFault) → fault ≡ InRegistry registry api wrong → IsRegistryFault (files registry) api wrong → Kinds files registry api names fault
  at_choice : (r : Rows) → IsRegistry (files registry) api r → IsFaultAt r names fault → Kinds files registry api names fault

kind_of : (files : Files) (registry api : List ℕ) (names : List (List ℕ)) (fault : Fault) → IsHeaderFault files registry api names fault → Kinds files registry api names fault
kind_of files registry api names (InRegistry file asked wrong) is = in_file wrong (ap (λ (f : List ℕ). InRegistry f asked wrong) is.0 ∙ ap (λ (a : List ℕ). InRegistry registry a wrong) is.1) is.2
kind_of files registry api names (InDocument fault) is = absurd is
kind_of files registry api names (UnknownOption word) is = at_choice is.0 is.1.0 is.1.1
kind_of files registry api names (NotPermitted option) is = at_choice is.0 is.2.0 (is.1, is.2.1, is.3)
kind_of files registry api names (BadTag file number) is = absurd is
kind_of files registry api names (NoNumber needed left) is = absurd is

-- a fault of the choice that words name is one of a header
choice_fault : (files : Files) (registry api : List ℕ) (names : List (List ℕ)) (r : Rows) (fault : Fault) → IsRegistry (files registry) api r → IsFaultAt r names fault → IsHeaderFault files registry api names fault
choice_fault files registry api names r (InRegistry file asked wrong) read is = absurd is
choice_fault files registry api names r (InDocument fault) read is = absurd is
choice_fault files registry api names r (UnknownOption word) read is = (r, (read, is))
choice_fault files registry api names r (NotPermitted option) read is = (r, is.0, (read, is.1), is.2)
choice_fault files registry api names r (BadTag file number) read is = absurd is
choice_fault files registry api names r (NoNumber needed left) read is = absurd is

module _ (one_answer : OneAnswer) (one_rows : AnswersAreOne) (files : Files) (registry api : List ℕ) (names : List (List ℕ)) where
  -- what holds of a registry of the file holds of any
  at_other : (P : Rows → Type 0) (r other : Rows) → IsRegistry (files registry) api r → IsRegistry (files registry) api other → P other → P r
  at_other P r other read also holds = subst P (sym (one_registry one_answer one_rows (files registry) api r other read also)) holds

  same_kinds : (fault other : Fault) → Kinds files registry api names fault → Kinds files registry api names other → determined fault ≡ determined other
  same_kinds fault other (in_file wrong is bad) (in_file evil also worse) =
      ap determined is ∙ ap (λ (w : RegistryFault). InRegistry registry api w) (one_registry_fault one_answer one_rows (files registry) api wrong evil bad worse) ∙ ap determined (sym also)
  same_kinds fault other (in_file wrong is bad) (at_choice r read stands) = absurd (never_faulty_registry one_answer one_rows (files registry) api r wrong read bad)
  same_kinds fault other (at_choice r read stands) (in_file wrong also bad) = absurd (never_faulty_registry one_answer one_rows (files registry) api r wrong read bad)
  same_kinds fault other (at_choice r read stands) (at_choice rows reread also) =
      ap determined (same_fault_at r names fault other stands (at_other (λ (rs : Rows). IsFaultAt rs names other) r rows read reread also))

  pub same_header_fault : (fault other : Fault) → IsHeaderFault files registry api names fault → IsHeaderFault files registry api names other → determined fault ≡ determined other
  same_header_fault fault other is also = same_kinds fault other (kind_of files registry api names fault is) (kind_of files registry api names other also)

  -- where a registry is read and words name a permitted choice, there is no fault
  none_of : (r : Rows) (chosen : List Bool) (fault : Fault) → IsRegistry (files registry) api r → IsChoice r names chosen → Kinds files registry api names fault → ⊥
  none_of r chosen fault read choice (in_file wrong is bad) = never_faulty_registry one_answer one_rows (files registry) api r wrong read bad
  none_of r chosen fault read choice (at_choice rows reread stands) = choice_sound r names chosen choice fault (at_other (λ (rs : Rows). IsFaultAt rs names fault) r rows read reread stands)

  pub header_faultless : (r : Rows) (chosen : List Bool) → IsRegistry (files registry) api r → IsChoice r names chosen → HasNoFault (Header registry api names) files
  header_faultless r chosen read choice fault is = none_of r chosen fault read choice (kind_of files registry api names fault is)

  -- what is told of words for options is what the words and the files come to
  pub header_told : (words : List (List ℕ)) (r : Rows) (effect : Effect) → Spells words (Header registry api names) → IsRegistry (files registry) api r → TellsAtChoice r names (TellsHeader r) effect → Outcome words files effect
  header_told words r effect spelled read (inl wrong) =
      subst (λ (e : Effect). Outcome words files e) (sym wrong.told)
      (refused (Header registry api names) wrong.fault spelled (choice_fault files registry api names r wrong.fault read wrong.first))
  header_told words r effect spelled read (inr (chosen, is, tells)) =
      subst (λ (e : Effect). Outcome words files e) (sym tells.told)
      (declared registry api names r chosen tells.order spelled (header_faultless r chosen read is)
      (record { read = read; choice = is; set = tells.set; closure = tells.closure; ordered = tells.ordered }))

  -- a fault of the file of a registry, told, is what the words and the files come to
  pub header_refused : (words : List (List ℕ)) (fault : RegistryFault) (effect : Effect) → Spells words (Header registry api names) → IsRegistryFault (files registry) api fault
      → effect ≡ writes_alone Refused (fault_line (InRegistry registry api fault)) → Outcome words files effect
  header_refused words fault effect spelled is told =
      subst (λ (e : Effect). Outcome words files e) (sym told) (refused (Header registry api names) (InRegistry registry api fault) spelled (refl, refl, is))

-- names at the same places are the same
same_ids : (ids others : List NameId) → map (λ id. id.0) ids ≡ map (λ id. id.0) others → ids ≡ others
same_ids [] [] e = refl
same_ids [] (other ∷ others) e = absurd (cc)
same_ids (id ∷ ids) [] e = absurd (cc)
same_ids (id ∷ ids) (other ∷ others) e =
    let first : id.0 ≡ other.0 = cc in
    let rest : map (λ id. id.0) ids ≡ map (λ id. id.0) others = cc in
    ap (λ (n : ℕ). id_at n ∷ ids) first ∙ ap (λ (ns : List NameId). other ∷ ns) (same_ids ids others rest)

ids_at : (places : List ℕ) → map (λ id. id.0) (map id_at places) ≡ places
ids_at [] = refl
ids_at (place ∷ places) = ap (λ (ps : List ℕ). place ∷ ps) (ids_at places)

-- what is declared has one header
pub one_header : OneAnswer → AnswersAreOne → ClosuresAreOne → OrdersAreOne → (files : Files) (registry api : List ℕ) (names : List (List ℕ)) (r rows : Rows) (chosen picked : List Bool) (order listed : List NameId)
    → IsDeclared files registry api names r chosen order → IsDeclared files registry api names rows picked listed → header r chosen order ≡ header rows picked listed
one_header one_answer one_rows one_closures one_orders files registry api names r rows chosen picked order listed is also =
    let same = one_registry one_answer one_rows (files registry) api r rows is.read also.read in
    let choices : picked ≡ chosen = also.choice.named ∙ ap (λ (rs : Rows). chosen_by rs.options names) (sym same) ∙ sym is.choice.named in
    let there : IsClosure r chosen also.set =
    subst (λ (c : List Bool). IsClosure r c also.set) choices (subst (λ (rs : Rows). IsClosure rs picked also.set) (sym same) also.closure) in
    let sets = one_closures r chosen is.set also.set is.closure there in
    let ordered : IsOrder r.rows is.set (map (λ id. id.0) listed) =
    subst (λ (s : List Bool). IsOrder r.rows s (map (λ id. id.0) listed)) (sym sets) (subst (λ (rs : Rows). IsOrder rs.rows also.set (map (λ id. id.0) listed)) (sym same) also.ordered) in
    let orders = same_ids order listed (one_orders r.rows is.set (map (λ id. id.0) order) (map (λ id. id.0) listed) is.ordered ordered) in
    ap (λ (ids : List NameId). header r chosen ids) orders ∙ ap (λ (c : List Bool). header r c listed) (sym choices) ∙ ap (λ (rs : Rows). header rs picked listed) same

-- each name of a registry has a row
pub rows_counted : (found : Option (List ℕ)) (api : List ℕ) (r : Rows) → IsRegistry found api r → length r.rows ≡ length r.names
rows_counted found api r is =
    let f = forms_of api is.root in
    subst (λ (rs : Rows). length rs.rows ≡ length rs.names) (sym is.answered.2) (length-map (declared_in f) (row_of f) ∙ sym (length-map (declared_in f) (λ d. d.name)))

-- and none lies on a circle
pub rows_in_no_circle : (found : Option (List ℕ)) (api : List ℕ) (r : Rows) → IsRegistry found api r → (place : ℕ) → IsOnCircle r.rows place → ⊥
rows_in_no_circle found api r is = is.answered.3

module _ (closures : ClosuresAreThere) (orders : OrdersAreThere) (permitted_or_first : PermittedOrFirst) (r : Rows) (names : List (List ℕ)) (counted : length r.rows ≡ length r.names) (within : AreWithin r.rows) where
  -- a choice has a header
  header_there : (chosen : List Bool) → (effect : Effect) × TellsHeader r chosen effect
  header_there chosen =
      let closure = closures r chosen counted within in
      let order = orders r.rows closure.0 in
      let ids = map id_at order.0 in
      (writes_alone Done (header r chosen ids), record { set = closure.0; closure = closure.1; order = ids; ordered = subst (IsOrder r.rows closure.0) (sym (ids_at order.0)) order.1; told = refl })

  -- words for options come to something, over a registry
  pub options_come : (effect : Effect) × TellsAtChoice r names (TellsHeader r) effect
  options_come = choice_comes permitted_or_first r names within (TellsHeader r) header_there

-- names in the order of a set are among those of the set
pub order_within : (rows : List Row) (set : List Bool) (ids : List NameId) (n : ℕ) → length set ≡ n → IsOrder rows set (map (λ id. id.0) ids) → All (λ id. id.0 < n) ids
order_within rows set ids n count ordered = λ at d below.
    let here : slice_get (map (λ (id : NameId). id.0) ids) at ≡ Some (get_or ids at d).0 =
    slice_get-map (λ (id : NameId). id.0) ids at ∙ ap (option_map (λ (id : NameId). id.0)) (slice_get-get_or ids at d below) in
    let inside = slice_get_within set (get_or ids at d).0 true (ordered.each at (get_or ids at d).0 here).here.one in
    omega (arith, inside, count)
