-- The file of a registry is a registry for an API, or it has one fault, but for which of several circles of names is told.
use Rattle.std.proofs.Common.{inl, inr, ◌≡◌, ◌≢◌, ◌⊎◌, ℕ, ◌<◌, ◌≤◌, List, [], ◌∷◌, ◌++◌, length, map, take, Option, Some, None, Result, Ok, Err, refl, sym, ap, ◌∙◌, subst, arith}
use Rattle.std.proofs.lemmas.Bool.{cases_lt}
use Rattle.std.proofs.lemmas.Option.{none-some, same_Some}
use Rattle.vkb_bytes.specs.First.{first_of}
use Rattle.reg_reader.specs.Laws.{Answer, IsAnswer as IsText, OneAnswer}
use Rattle.reg_reader.specs.Markup.{IsElement, Spells, empty, filled, run_of}
use Rattle.reg_reader.specs.Shown.{IsElementOf, attributes_of, bytes_of, content_of, shown_node}
use Rattle.reg_reader.specs.Views.{Content, Element, elements_in}
use Rattle.reg_reader.specs.declared.markup.Part.{Part}
use Rattle.reg_reader.specs.declared.markup.Node.{Node}
use Rattle.reg_reader.specs.declared.markup.Node.TheOpen.{Node-F}
use Rattle.reg_reader.specs.declared.markup.Node.TheFolds.{fold-Node, fold-roll-Node}
use Rattle.reg_reader.specs.declared.markup.Node.TheVariants as node
use Rattle.reg_registry.specs.Rows.{Rows}
use Rattle.reg_forms.specs.Forms.{forms_of}
use Rattle.reg_rows.specs.Answer.{IsAnswer}
use Rattle.reg_rows.specs.Laws.{AnswersAreOne, EachIsAnswered, IsSameAnswer, IsTold}
use Rattle.reg_rows.specs.declared.fault.RowFault.{RowFault}
use Rattle.reg_rows.specs.declared.fault.RowFault.TheVariants as row
use Rattle.vkb_tool.specs.declared.registry.RegistryFault.{RegistryFault}
use Rattle.vkb_tool.specs.declared.registry.RegistryFault.TheVariants.{Missing, TooLarge, BadMarkup, TooDeep, BadRow, NoFeature, NamingCycle}
use Rattle.vkb_tool.specs.Fault.{Fault, BadTag, InDocument, InRegistry, NoNumber, NotPermitted, UnknownOption}
use Rattle.vkb_tool.specs.Outcome.{determined, settled}
use Rattle.vkb_tool.specs.Registry.{ComesTo, IsHeld, IsRegistry, IsRegistryFault, most_registry}

-- ---- what is told of rows, in the words of this crate

abbrev as_told : Result Rows RowFault → Result Rows RegistryFault
as_told (Ok r) = Ok r
as_told (Err (row.Bad code at word)) = Err (BadRow code at word)
as_told (Err row.NoFeature) = Err NoFeature
as_told (Err (row.NamingCycle names)) = Err (NamingCycle names)
as_told (Err row.Memory) = Err Missing

-- what is determined of that
abbrev told : Result Rows RegistryFault → Result Rows RegistryFault
told (Ok r) = Ok r
told (Err fault) = Err (settled fault)

first_taken : (names others : List (List ℕ)) → first_of names ≡ first_of others → take 1 names ≡ take 1 others
first_taken [] [] same = refl
first_taken [] (other ∷ others) same = absurd (none-some other same)
first_taken (name ∷ names) [] same = absurd (none-some name (sym same))
first_taken (name ∷ names) (other ∷ others) same = ap (λ (n : List ℕ). n ∷ []) (same_Some name other same)

same_told : (answer other : Result Rows RowFault) → IsSameAnswer answer other → told (as_told answer) ≡ told (as_told other)
same_told (Ok r) other same = ap (λ (a : Result Rows RowFault). told (as_told a)) same
same_told (Err fault) (Ok r) same = absurd (cc)
same_told (Err (row.NamingCycle names)) (Err (row.NamingCycle others)) same = ap (λ (ns : List (List ℕ)). told (Err (NamingCycle ns))) refl ∙ ap (λ (ns : List (List ℕ)). Err (NamingCycle ns)) (first_taken names others same)
same_told (Err (row.NamingCycle names)) (Err (row.Bad code at word)) same = absurd (cc)
same_told (Err (row.NamingCycle names)) (Err row.NoFeature) same = absurd (cc)
same_told (Err (row.NamingCycle names)) (Err row.Memory) same = absurd (cc)
same_told (Err (row.Bad code at word)) (Err other) same = ap (λ (f : RowFault). told (as_told (Err f))) same
same_told (Err row.NoFeature) (Err other) same = ap (λ (f : RowFault). told (as_told (Err f))) same
same_told (Err row.Memory) (Err other) same = ap (λ (f : RowFault). told (as_told (Err f))) same

-- ---- what a file comes to

-- a root, as an element, comes to this for an API
record IsRooted (bytes : List ℕ) (root : Node) (api : List ℕ) (what : Result Rows RegistryFault) : Type 0 where
  pub element : Element
  pub shown : IsElementOf bytes root element
  pub answer : Result Rows RowFault
  pub is_told : IsTold answer
  pub answered : IsAnswer (forms_of api element) answer
  pub what_is : what ≡ as_told answer

-- bytes that are markup, or none, come to this for an API
abbrev Tells : List ℕ → List ℕ → Answer → Result Rows RegistryFault → Type 0
Tells bytes api (Answer.stop at) what = what ≡ Err (BadMarkup at)
Tells bytes api (Answer.deep at) what = what ≡ Err (TooDeep at)
Tells bytes api (Answer.tree root) what = IsRooted bytes root api what

-- what is found under a name comes to this for an API
data Stands (found : Option (List ℕ)) (api : List ℕ) (what : Result Rows RegistryFault) : Type 0 where
  missing : found ≡ None → what ≡ Err Missing → Stands found api what
  large : (bytes : List ℕ) → found ≡ Some bytes → most_registry < length bytes → what ≡ Err TooLarge → Stands found api what
  text : (bytes : List ℕ) → IsHeld found bytes → (answer : Answer) → IsText bytes answer → Tells bytes api answer what → Stands found api what

of_rows : (found : Option (List ℕ)) (api : List ℕ) (answer : Result Rows RowFault) → IsTold answer → ComesTo found api answer → Stands found api (as_told answer)
of_rows found api answer is_told is =
    text is.bytes is.held (Answer.tree is.spelled.0) is.spelled.1
    (record { element = is.root; shown = is.spelled.2; answer = answer; is_told = is_told; answered = is.answered; what_is = refl })

of_fault : (found : Option (List ℕ)) (api : List ℕ) (fault : RegistryFault) → IsRegistryFault found api fault → Stands found api (Err fault)
of_fault found api Missing is = missing is refl
of_fault found api TooLarge is = large is.0 is.1 is.2 refl
of_fault found api (BadMarkup at) is = text is.0 is.1 (Answer.stop at) is.2 refl
of_fault found api (TooDeep at) is = text is.0 is.1 (Answer.deep at) is.2 refl
of_fault found api (BadRow code at word) is = of_rows found api (Err (row.Bad code at word)) tt is
of_fault found api NoFeature is = of_rows found api (Err row.NoFeature) tt is
of_fault found api (NamingCycle names) is = of_rows found api (Err (row.NamingCycle names)) tt is

of_registry : (found : Option (List ℕ)) (api : List ℕ) (r : Rows) → IsRegistry found api r → Stands found api (Ok r)
of_registry found api r is = of_rows found api (Ok r) tt is

-- ---- and to nothing else

module _ (one_answer : OneAnswer) (one_rows : AnswersAreOne) where
  same_rooted : (bytes : List ℕ) (root : Node) (api : List ℕ) (what other : Result Rows RegistryFault) → IsRooted bytes root api what → IsRooted bytes root api other → told what ≡ told other
  same_rooted bytes root api what other is also =
      let listed : is.element ∷ [] ≡ also.element ∷ [] = sym is.shown ∙ also.shown in
      let elements : also.element ≡ is.element = cc in
      let there : IsAnswer (forms_of api is.element) also.answer = subst (λ (e : Element). IsAnswer (forms_of api e) also.answer) elements also.answered in
      ap told is.what_is
      ∙ same_told is.answer also.answer (one_rows (forms_of api is.element) is.answer also.answer is.is_told also.is_told is.answered there)
      ∙ ap told (sym also.what_is)

  same_text : (bytes : List ℕ) (api : List ℕ) (answer : Answer) (what other : Result Rows RegistryFault) → Tells bytes api answer what → Tells bytes api answer other → told what ≡ told other
  same_text bytes api (Answer.stop at) what other is also = ap told (is ∙ sym also)
  same_text bytes api (Answer.deep at) what other is also = ap told (is ∙ sym also)
  same_text bytes api (Answer.tree root) what other is also = same_rooted bytes root api what other is also

  same_texts : (bytes : List ℕ) (api : List ℕ) (answer reading : Answer) (what other : Result Rows RegistryFault) → IsText bytes answer → IsText bytes reading → Tells bytes api answer what → Tells bytes api reading other
      → told what ≡ told other
  same_texts bytes api answer reading what other is also tells said =
      let whole = one_answer bytes in
      let same : reading ≡ answer = whole.2 reading also ∙ sym (whole.2 answer is) in
      same_text bytes api answer what other tells (subst (λ (a : Answer). Tells bytes api a other) same said)

  one_standing : (found : Option (List ℕ)) (api : List ℕ) (what other : Result Rows RegistryFault) → Stands found api what → Stands found api other → told what ≡ told other
  one_standing found api what other (missing none is) (missing nothing also) = ap told (is ∙ sym also)
  one_standing found api what other (missing none is) (large bytes here long also) = absurd (none-some bytes (sym none ∙ here))
  one_standing found api what other (missing none is) (text bytes held answer said also) = absurd (none-some bytes (sym none ∙ held.here))
  one_standing found api what other (large bytes here long is) (missing none also) = absurd (none-some bytes (sym none ∙ here))
  one_standing found api what other (large bytes here long is) (large others there more also) = ap told (is ∙ sym also)
  one_standing found api what other (large bytes here long is) (text others held answer said also) =
      let same : bytes ≡ others = same_Some bytes others (sym here ∙ held.here) in
      let lengths = ap length same in
      let small = held.small in
      absurd (omega arith)
  one_standing found api what other (text bytes held answer said is) (missing none also) = absurd (none-some bytes (sym none ∙ held.here))
  one_standing found api what other (text bytes held answer said is) (large others here long also) =
      let same : bytes ≡ others = same_Some bytes others (sym held.here ∙ here) in
      let lengths = ap length same in
      let small = held.small in
      absurd (omega arith)
  one_standing found api what other (text bytes held answer said is) (text others also_held reading read also) =
      let same : others ≡ bytes = same_Some others bytes (sym also_held.here ∙ held.here) in
      same_texts bytes api answer reading what other said (subst (λ (b : List ℕ). IsText b reading) same read) is (subst (λ (b : List ℕ). Tells b api reading other) same also)

  -- a registry has no fault
  pub never_faulty_registry : (found : Option (List ℕ)) (api : List ℕ) (r : Rows) (fault : RegistryFault) → IsRegistry found api r → ¬ IsRegistryFault found api fault
  never_faulty_registry found api r fault is also =
      let same = one_standing found api (Ok r) (Err fault) (of_registry found api r is) (of_fault found api fault also) in
      absurd (cc)

  -- and is the only one
  pub one_registry : (found : Option (List ℕ)) (api : List ℕ) (r other : Rows) → IsRegistry found api r → IsRegistry found api other → r ≡ other
  one_registry found api r other is also =
      let same : told (Ok r) ≡ told (Ok other) = one_standing found api (Ok r) (Ok other) (of_registry found api r is) (of_registry found api other also) in
      cc

  -- what isn't one has one fault
  pub one_registry_fault : (found : Option (List ℕ)) (api : List ℕ) (fault other : RegistryFault) → IsRegistryFault found api fault → IsRegistryFault found api other → settled fault ≡ settled other
  one_registry_fault found api fault other is also =
      let same : told (Err fault) ≡ told (Err other) = one_standing found api (Err fault) (Err other) (of_fault found api fault is) (of_fault found api other also) in
      cc

-- ---- each file comes to something

-- an element of the tree, shown
element_shown : (b : List ℕ) (at : ℕ) (name : Part) (attributes : List (Part × Part)) (children : List Node) → (element : Element) × IsElementOf b (node.Element at name attributes children) element
element_shown b at name attributes children =
    let rolled : fold-Node (Content → Content) (shown_node b) (node.Element at name attributes children) ≡ shown_node b (Node-F.Element at name attributes (map (fold-Node (Content → Content) (shown_node b)) children)) =
    ap (fold-Node (Content → Content) (shown_node b)) (sym (node.rolls-Element at name attributes children)) ∙ fold-roll-Node (Content → Content) (shown_node b) (Node-F.Element at name attributes children) in (
      record { place = at; name = bytes_of b name; attributes = attributes_of b attributes; content = content_of b children },
      ap (λ (f : Content → Content). elements_in (f Content.none)) rolled,
    )

-- a spelled root is an element
root_shown : (b : List ℕ) (i j : ℕ) (root : Node) → IsElement b 32 0 i j root → (element : Element) × IsElementOf b root element
root_shown b i _ _ (empty {name = name} {attributes = attributes} deep tag slash greater) = element_shown b i name attributes []
root_shown b i _ _ (filled {k = k} {m = m} {name = name} {attributes = attributes} {children = children} deep tag greater pieces characters end) = element_shown b i name attributes (children ++ run_of k m)

-- what is answered for the tree that bytes spell is what the file comes to
pub rows_come_to : (bytes api : List ℕ) (tree : Node) (answer : Result Rows RowFault) → Spells 32 tree bytes → length bytes ≤ most_registry
    → ((root : Element) → IsElementOf bytes tree root → IsAnswer (forms_of api root) answer) → ComesTo (Some bytes) api answer
rows_come_to bytes api tree answer spelled small answers =
    let shown = root_shown bytes spelled.from spelled.to tree spelled.element in
    record { bytes = bytes; held = record { here = refl; small = small }; root = shown.0; spelled = (tree, spelled, shown.1); answered = answers shown.0 shown.1 }

module _ (one_answer : OneAnswer) (each_answered : EachIsAnswered) where
  -- what rows come to, told
  rows_come : (found : Option (List ℕ)) (api : List ℕ) (answer : Result Rows RowFault) → IsTold answer → ComesTo found api answer → ((r : Rows) × IsRegistry found api r) ⊎ ((fault : RegistryFault) × IsRegistryFault found api fault)
  rows_come found api (Ok r) is_told is = inl (r, is)
  rows_come found api (Err (row.Bad code at word)) is_told is = inr (BadRow code at word, is)
  rows_come found api (Err row.NoFeature) is_told is = inr (NoFeature, is)
  rows_come found api (Err (row.NamingCycle names)) is_told is = inr (NamingCycle names, is)
  rows_come found api (Err row.Memory) is_told is = absurd is_told

  text_comes : (found : Option (List ℕ)) (api bytes : List ℕ) (answer : Answer) → IsHeld found bytes → IsText bytes answer → ((r : Rows) × IsRegistry found api r) ⊎ ((fault : RegistryFault) × IsRegistryFault found api fault)
  text_comes found api bytes (Answer.stop at) held is = inr (BadMarkup at, (bytes, held, is))
  text_comes found api bytes (Answer.deep at) held is = inr (TooDeep at, (bytes, held, is))
  text_comes found api bytes (Answer.tree root) held is =
      let shown = root_shown bytes is.from is.to root is.element in
      let answer = each_answered (forms_of api shown.0) in
      rows_come found api answer.0 answer.1 (record { bytes = bytes; held = held; root = shown.0; spelled = (root, is, shown.1); answered = answer.2 })

  -- what is found under a name is a registry for an API, or has a fault
  pub every_registry : (found : Option (List ℕ)) (api : List ℕ) → ((r : Rows) × IsRegistry found api r) ⊎ ((fault : RegistryFault) × IsRegistryFault found api fault)
  every_registry None api = inr (Missing, refl)
  every_registry (Some bytes) api =
      elim (cases_lt most_registry (length bytes)) [
        | inl long ↦ inr (TooLarge, (bytes, refl, long))
        | inr small ↦ let answer = one_answer bytes in text_comes (Some bytes) api bytes answer.0 (record { here = refl; small = small }) answer.1
      ]

-- ---- faults that are determined alike

circle_or_settled : (fault : RegistryFault) → ((names : List (List ℕ)) × (fault ≡ NamingCycle names)) ⊎ ((settled fault ≡ fault) × ((names : List (List ℕ)) → fault ≢ NamingCycle names))
circle_or_settled (NamingCycle names) = inl (names, refl)
circle_or_settled Missing = inr (refl, λ names same. absurd (cc))
circle_or_settled TooLarge = inr (refl, λ names same. absurd (cc))
circle_or_settled (BadMarkup at) = inr (refl, λ names same. absurd (cc))
circle_or_settled (TooDeep at) = inr (refl, λ names same. absurd (cc))
circle_or_settled (BadRow code at word) = inr (refl, λ names same. absurd (cc))
circle_or_settled NoFeature = inr (refl, λ names same. absurd (cc))

-- circles of names through one first name
pub record AreCircles (fault other : RegistryFault) : Type 0 where
  pub names : List (List ℕ)
  pub others : List (List ℕ)
  pub is : fault ≡ NamingCycle names
  pub also : other ≡ NamingCycle others
  pub first : take 1 names ≡ take 1 others

alike_settled : (fault other : RegistryFault) → settled fault ≡ settled other → (fault ≡ other) ⊎ AreCircles fault other
alike_settled fault other same =
    elim (circle_or_settled fault) [
      | inl (names, is) ↦ elim (circle_or_settled other) [
        | inl (others, also) ↦
            let both : NamingCycle (take 1 names) ≡ NamingCycle (take 1 others) = sym (ap settled is) ∙ same ∙ ap settled also in
            inr (record { names = names; others = others; is = is; also = also; first = cc })
        | inr (kept, never) ↦ absurd (never (take 1 names) (sym kept ∙ sym same ∙ ap settled is))
      ]
      | inr (kept, never) ↦ elim (circle_or_settled other) [
        | inl (others, also) ↦ absurd (never (take 1 others) (sym kept ∙ same ∙ ap settled also))
        | inr (held, none) ↦ inl (sym kept ∙ same ∙ held)
      ]
    ]

registry_or_determined : (fault : Fault) → ((file api : List ℕ) × (wrong : RegistryFault) × (fault ≡ InRegistry file api wrong)) ⊎ ((determined fault ≡ fault) × ((file api : List ℕ) (wrong : RegistryFault) → fault ≢ InRegistry file api wrong))
registry_or_determined (InRegistry file api wrong) = inl (file, api, wrong, refl)
registry_or_determined (InDocument fault) = inr (refl, λ file api wrong same. absurd (cc))
registry_or_determined (UnknownOption word) = inr (refl, λ file api wrong same. absurd (cc))
registry_or_determined (NotPermitted option) = inr (refl, λ file api wrong same. absurd (cc))
registry_or_determined (BadTag name line) = inr (refl, λ file api wrong same. absurd (cc))
registry_or_determined (NoNumber needed left) = inr (refl, λ file api wrong same. absurd (cc))

-- circles of names of one registry through one first name
pub record AreCirclesIn (fault other : Fault) : Type 0 where
  pub file : List ℕ
  pub api : List ℕ
  pub names : List (List ℕ)
  pub others : List (List ℕ)
  pub is : fault ≡ InRegistry file api (NamingCycle names)
  pub also : other ≡ InRegistry file api (NamingCycle others)
  pub first : take 1 names ≡ take 1 others

in_registries : (file api : List ℕ) (wrong bad : RegistryFault) → settled wrong ≡ settled bad → (InRegistry file api wrong ≡ InRegistry file api bad) ⊎ AreCirclesIn (InRegistry file api wrong) (InRegistry file api bad)
in_registries file api wrong bad same =
    elim (alike_settled wrong bad same) [
      | inl alike ↦ inl (ap (InRegistry file api) alike)
      | inr circles ↦ inr (record { file = file; api = api; names = circles.names; others = circles.others; is = ap (InRegistry file api) circles.is; also = ap (InRegistry file api) circles.also; first = circles.first })
    ]

pub alike_determined : (fault other : Fault) → determined fault ≡ determined other → (fault ≡ other) ⊎ AreCirclesIn fault other
alike_determined fault other same =
    elim (registry_or_determined fault) [
      | inl (file, api, wrong, is) ↦ elim (registry_or_determined other) [
        | inl (name, word, bad, also) ↦
            let both : InRegistry file api (settled wrong) ≡ InRegistry name word (settled bad) = sym (ap determined is) ∙ same ∙ ap determined also in
            let files : name ≡ file = cc in
            let apis : word ≡ api = cc in
            let faults : settled wrong ≡ settled bad = cc in
            let there : other ≡ InRegistry file api bad = also ∙ ap (λ (f : List ℕ). InRegistry f word bad) files ∙ ap (λ (a : List ℕ). InRegistry file a bad) apis in
            rw (is, there) (in_registries file api wrong bad faults)
        | inr (kept, never) ↦ absurd (never file api (settled wrong) (sym kept ∙ sym same ∙ ap determined is))
      ]
      | inr (kept, never) ↦ elim (registry_or_determined other) [
        | inl (name, word, bad, also) ↦ absurd (never name word (settled bad) (sym kept ∙ same ∙ ap determined also))
        | inr (held, none) ↦ inl (sym kept ∙ same ∙ held)
      ]
    ]
