-- Two verdicts on a document agree.
use Rattle.std.proofs.Common.{◌≡◌, ℕ, List, [], ◌∷◌, ◌++◌, refl, sym, ap, ◌∙◌, subst, arith, All, Contains}
use Rattle.std.proofs.lemmas.List.Elements.{All-contains, All-head, All-tail, Contains-append_right}
use Rattle.doc_tree.specs.Flat.{FlatLine}
use Rattle.doc_build.specs.declared.Place.{Place}
use Rattle.doc_build.specs.Breaks.{IsSound}
use Rattle.doc_build.specs.Choices.{Choice, Setting}
use Rattle.doc_build.specs.Pieces.{Link, all_links}
use Rattle.lift_check.specs.Verdict.{IsFirstBroken, IsVerdict}
use Rattle.lift_check.specs.declared.Verdict.TheVariants.{No, Yes}

-- a list is split in one way at its first element that lacks a property
same_split : {A : Type 0} (P : A → Type 0) (before after front back : List A) (x y : A) → before ++ x ∷ after ≡ front ++ y ∷ back → All P before → All P front → ¬ P x → ¬ P y → x ≡ y
same_split P [] after [] back x y split all also lacks fails = cc
same_split P [] after (z ∷ front) back x y split all also lacks fails = let same : x ≡ z = cc in absurd (lacks (subst P (sym same) (All-head P z front also)))
same_split P (z ∷ before) after [] back x y split all also lacks fails = let same : z ≡ y = cc in absurd (fails (subst P same (All-head P z before all)))
same_split P (z ∷ before) after (w ∷ front) back x y split all also lacks fails =
    let rest : before ++ x ∷ after ≡ front ++ y ∷ back = cc in
    same_split P before after front back x y rest (All-tail P z before all) (All-tail P w front also) lacks fails

module _ (setting : Setting) (lines : List FlatLine) where
  -- the link that a verdict names is not sound
  never_sound : (place : Place) (id : List ℕ) (choice : Choice) (count : ℕ) → (is : IsFirstBroken setting lines place id choice count) → ¬ IsSound setting lines is.link
  never_sound place id choice count is sound = sound choice is.permitted is.broken

  -- where all links are sound, none is the first that breaks
  pub never_broken : (links : ℕ) (place : Place) (id : List ℕ) (choice : Choice) (count : ℕ) → IsVerdict setting lines (Yes links) → ¬ IsVerdict setting lines (No place id choice count)
  never_broken links place id choice count sound is =
      let among : Contains (is.before ++ is.link ∷ is.after) is.link = Contains-append_right is.before (is.link ∷ is.after) is.link (0, omega arith, refl) in
      never_sound place id choice count is (All-contains (IsSound setting lines) (all_links setting lines) is.link sound.1 (subst (λ (ls : List Link). Contains ls is.link) (sym is.here) among))

  -- two verdicts name one place
  pub same_link : (place other : Place) (id name : List ℕ) (choice chosen : Choice) (count counted : ℕ)
      → IsVerdict setting lines (No place id choice count) → IsVerdict setting lines (No other name chosen counted) → place ≡ other
  same_link place other id name choice chosen count counted is also =
      let link : is.link ≡ also.link =
      same_split (IsSound setting lines) is.before is.after also.before also.after is.link also.link (sym is.here ∙ also.here) is.first also.first
      (never_sound place id choice count is) (never_sound other name chosen counted also) in
      is.place_is ∙ ap (λ (l : Link). l.place) link ∙ sym also.place_is

  -- and one count of links
  pub same_count : (links more : ℕ) → IsVerdict setting lines (Yes links) → IsVerdict setting lines (Yes more) → links ≡ more
  same_count links more is also = is.0 ∙ sym also.0
