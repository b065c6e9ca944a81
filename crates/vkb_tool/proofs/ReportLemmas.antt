-- The chosen options, one option on, and texts that are joined.
use Rattle.std.proofs.Common.{◌≡◌, ℕ, ◌+◌, ◌<◌, Bool, true, false, cond, List, [], ◌∷◌, ◌++◌, length, take, get_or, refl, sym, ap, ◌∙◌, arith, append_assoc}
use Rattle.std.proofs.lemmas.List.{length-take-le, take_more}
use Rattle.doc_build.specs.Choices.{chosen_of}

chosen_of-push : (options : List (List ℕ)) (choice : List Bool) (name : List ℕ) (chosen : Bool) → length options ≡ length choice
    → chosen_of (options ++ name ∷ []) (choice ++ chosen ∷ []) ≡ chosen_of options choice ++ cond chosen (name ∷ []) []
chosen_of-push [] [] name true same = refl
chosen_of-push [] [] name false same = refl
chosen_of-push [] (b ∷ bs) name chosen same = absurd (omega arith)
chosen_of-push (o ∷ os) [] name chosen same = absurd (omega arith)
chosen_of-push (o ∷ os) (true ∷ bs) name chosen same = ap (λ (ns : List (List ℕ)). o ∷ ns) (chosen_of-push os bs name chosen (omega arith))
chosen_of-push (o ∷ os) (false ∷ bs) name chosen same = chosen_of-push os bs name chosen (omega arith)

pub chosen_of_more : (options : List (List ℕ)) (choice : List Bool) (k : ℕ) → length choice ≡ length options → k < length choice
    → chosen_of (take (k + 1) options) (take (k + 1) choice) ≡ chosen_of (take k options) (take k choice) ++ cond (get_or choice k false) (get_or options k [] ∷ []) []
chosen_of_more options choice k same below =
    let within : k < length options = omega arith in
    let fits : length (take k options) ≡ length (take k choice) = length-take-le k options (omega arith) ∙ sym (length-take-le k choice (omega arith)) in
    rw (take_more options k [] within, take_more choice k false below) (chosen_of-push (take k options) (take k choice) (get_or options k []) (get_or choice k false) fits)

-- five texts that are joined from the left are joined from the right
pub regrouped : (first second third fourth fifth : List ℕ) → (((first ++ second) ++ third) ++ fourth) ++ fifth ≡ first ++ (second ++ (third ++ (fourth ++ fifth)))
regrouped first second third fourth fifth =
    append_assoc ((first ++ second) ++ third) fourth fifth
    ∙ append_assoc (first ++ second) third (fourth ++ fifth)
    ∙ append_assoc first second (third ++ (fourth ++ fifth))
