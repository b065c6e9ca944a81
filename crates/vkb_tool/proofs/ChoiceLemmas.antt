-- The choice that words name, or what is wrong with it.
use Rattle.std.proofs.Common.{inl, inr, ◌≡◌, ℕ, Bool, List, [], Option, Some, None, Result, Ok, Err, IfOk, slice_index_or, arith, refl, sym, ap, ◌∙◌, subst}
use Rattle.std.proofs.lemmas.Bool.{cases_order}
use Rattle.std.proofs.lemmas.Option.{none-some, same_Some}
use Rattle.vkb_bytes.specs.First.{IsFirst}
use Rattle.reg_registry.specs.Laws.{AreWithin}
use Rattle.reg_registry.specs.Naming.{AreSound}
use Rattle.reg_registry.specs.Rows.{Rows, id_at}
use Rattle.reg_permit.specs.Choices.{IsChoice, chosen_by, unknown_in}
use Rattle.reg_permit.specs.Existence.{PermittedOrFirst}
use Rattle.reg_permit.specs.Permitted.{BreaksRule, IsPermitted}
use Rattle.vkb_tool.specs.declared.answer.Answer.{Answer}
use Rattle.vkb_tool.specs.declared.status.Status.TheVariants.{Refused}
use Rattle.vkb_tool.specs.Answer.{effect_of}
use Rattle.vkb_tool.specs.Check.{TellsFault}
use Rattle.vkb_tool.specs.Declaring.{TellsAtChoice}
use Rattle.vkb_tool.specs.Fault.{Fault, BadTag, InDocument, InRegistry, NoNumber, NotPermitted, UnknownOption}
use Rattle.vkb_tool.specs.Outcome.{Effect, IsFaultAt, writes_alone}
use Rattle.vkb_tool.specs.Report.{fault_line}

-- there is one first
same_first_place : (P : ℕ → Type 0) (place other : ℕ) → IsFirst P place → IsFirst P other → place ≡ other
same_first_place P place other is also =
    elim (cases_order place other) [
      | inl same ↦ same
      | inr (inl less) ↦ absurd (also.first place less is.here)
      | inr (inr more) ↦ absurd (is.first other more also.here)
    ]

-- words have one fault
pub same_fault_at : (r : Rows) (names : List (List ℕ)) (fault other : Fault) → IsFaultAt r names fault → IsFaultAt r names other → fault ≡ other
same_fault_at r names (InRegistry file api fault) other is also = absurd is
same_fault_at r names fault (InRegistry file api other) is also = absurd also
same_fault_at r names (InDocument fault) other is also = absurd is
same_fault_at r names fault (InDocument other) is also = absurd also
same_fault_at r names (BadTag file number) other is also = absurd is
same_fault_at r names fault (BadTag file number) is also = absurd also
same_fault_at r names (NoNumber needed left) other is also = absurd is
same_fault_at r names fault (NoNumber needed left) is also = absurd also
same_fault_at r names (UnknownOption word) (UnknownOption text) is also = ap UnknownOption (same_Some word text (sym is ∙ also))
same_fault_at r names (UnknownOption word) (NotPermitted option) is (id, also, named) = absurd (none-some word (sym also.known ∙ is))
same_fault_at r names (NotPermitted option) (UnknownOption word) (id, is, named) also = absurd (none-some word (sym is.known ∙ also))
same_fault_at r names (NotPermitted option) (NotPermitted other) (id, is, named) (next, also, called) =
    let places = same_first_place (BreaksRule r (chosen_by r.options names)) id.0 next.0 is.first also.first in
    ap NotPermitted (named ∙ ap (λ (place : ℕ). slice_index_or r.options place []) places ∙ sym called)

-- and where they name a permitted choice, none
pub choice_sound : (r : Rows) (names : List (List ℕ)) (chosen : List Bool) → IsChoice r names chosen → (fault : Fault) → ¬ IsFaultAt r names fault
choice_sound r names chosen choice (InRegistry file api fault) is = is
choice_sound r names chosen choice (InDocument fault) is = is
choice_sound r names chosen choice (UnknownOption word) is = none-some word (sym choice.known ∙ is)
choice_sound r names chosen choice (NotPermitted option) (id, un_kept, named) =
    let breaks = un_kept.first.here in
    let permitted = subst (IsPermitted r) choice.named choice.permitted in
    breaks.2 (permitted id.0 breaks.0 breaks.1)
choice_sound r names chosen choice (BadTag file number) is = is
choice_sound r names chosen choice (NoNumber needed left) is = is

module _ (permitted_or_first : PermittedOrFirst) (r : Rows) (names : List (List ℕ)) (within : AreWithin r.rows) (Tells : List Bool → Effect → Type 0) (there : (chosen : List Bool) → (effect : Effect) × Tells chosen effect) where
  told_at : (o : Option (List ℕ)) → unknown_in r.options names ≡ o → (effect : Effect) × TellsAtChoice r names Tells effect
  told_at (Some word) e = (writes_alone Refused (fault_line (UnknownOption word)), inl (record { fault = UnknownOption word; first = e; told = refl }))
  told_at None e =
      elim (permitted_or_first r (chosen_by r.options names) within) [
        | inl permitted ↦
            let told = there (chosen_by r.options names) in
            (told.0, inr (chosen_by r.options names, record { known = e; named = refl; permitted = permitted }, told.1))
        | inr (place, first) ↦
            let option = slice_index_or r.options place [] in
            (writes_alone Refused (fault_line (NotPermitted option)), inl (record { fault = NotPermitted option; first = (id_at place, record { known = e; first = first }, refl); told = refl }))
      ]

  -- words for options come to something, over a registry, where something is told at each choice
  pub choice_comes : (effect : Effect) × TellsAtChoice r names Tells effect
  choice_comes = told_at (unknown_in r.options names) refl

module _ {E : Type 0} (r : Rows) (names : List (List ℕ)) (Tells : List Bool → Effect → Type 0) where
  -- what is told at the choice that was named
  pub told_chosen : (chosen : List Bool) (result : Result Answer E) → IsChoice r names chosen → IfOk result (λ answer. Tells chosen (effect_of answer)) → IfOk result (λ answer. TellsAtChoice r names Tells (effect_of answer))
  told_chosen chosen (Ok answer) is told = inr (chosen, is, told)
  told_chosen chosen (Err trouble) is told = tt

  -- and where none was named
  pub told_wrong : (result : Result Answer E) → IfOk result (λ answer. TellsFault (IsFaultAt r names) (effect_of answer)) → IfOk result (λ answer. TellsAtChoice r names Tells (effect_of answer))
  told_wrong (Ok answer) told = inl told
  told_wrong (Err trouble) told = tt

-- what the rows of a registry name is there
pub soundly_within : (r : Rows) → AreSound r → AreWithin r.rows
soundly_within r sound = λ at d below.
    let named = (sound.each_row at d below).named in
    λ i e inside.
    let there = named i e inside in
    let counted = sound.rows_count in
    omega arith
