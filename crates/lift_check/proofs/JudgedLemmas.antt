-- A verdict by some closures of a registry's choices is one by others, since each choice has one closure.
use Rattle.std.proofs.Common.{◌≡◌, ◌∙◌, sym, ap, subst, ℕ, Bool, List, length, Contains}
use Rattle.std.specs.Prelude.{count_by}
use Rattle.std.specs.Str.{bytes_eq}
use Rattle.std.proofs.lemmas.List.Elements.{All-weaker}
use Rattle.doc_tree.specs.Flat.{FlatLine}
use Rattle.reg_registry.specs.Rows.{Rows}
use Rattle.reg_closure.specs.Laws.{ClosuresAreOne}
use Rattle.doc_build.specs.declared.Place.{Place}
use Rattle.doc_build.specs.Breaks.{Breaks, IsSound}
use Rattle.doc_build.specs.Built.{choice_pieces}
use Rattle.doc_build.specs.Choices.{Choice, Setting}
use Rattle.doc_build.specs.Pieces.{Link, all_links, anchor_id, anchors_of, link_id, links_of}
use Rattle.doc_build.specs.Settings.{AreClosures, registry_setting}
use Rattle.lift_check.specs.Verdict.{IsJudged, IsVerdict}
use Rattle.lift_check.specs.declared.Verdict.{Verdict}
use Rattle.lift_check.specs.declared.Verdict.TheVariants.{No, Yes}
use Rattle.lift_check.proofs.LawLemmas.{never_broken, same_count, same_link}

module _ (always : List (List ℕ)) (r : Rows) (lines : List FlatLine) where
  abbrev over : (Choice → List Bool) → Setting
  over closure = registry_setting always r closure

  -- two functions give one set at each choice that has a value for each option
  abbrev GiveTheSame : (Choice → List Bool) → (Choice → List Bool) → Type 0
  GiveTheSame closure other = (choice : Choice) → length choice ≡ length r.options → closure choice ≡ other choice

  -- how many anchors have an id in the text of a choice whose closure has this set
  abbrev count_in : Choice → List ℕ → List Bool → ℕ
  count_in choice id set = count_by (λ anchor. bytes_eq id (anchor_id (over (λ c. set)) lines choice anchor)) (anchors_of (choice_pieces always r choice set lines))

  breaks_also : (closure other : Choice → List Bool) → GiveTheSame closure other → (choice : Choice) (link : Link) → length choice ≡ length r.options
      → Breaks (over closure) lines choice link → Breaks (over other) lines choice link
  breaks_also closure other same choice link fits breaks = record {
    stands = subst (λ (set : List Bool). Contains (links_of (choice_pieces always r choice set lines)) link) (same choice fits) breaks.stands;
    count = λ one. breaks.count (ap (count_in choice (link_id (over closure) lines choice link)) (same choice fits) ∙ one);
  }

  sound_also : (closure other : Choice → List Bool) → GiveTheSame closure other → (link : Link) → IsSound (over closure) lines link → IsSound (over other) lines link
  sound_also closure other same link sound = λ choice permits breaks.
      sound choice permits (breaks_also other closure (λ c fits. sym (same c fits)) choice link permits.0 breaks)

  -- a verdict by the one is one by the other
  verdict_also : (closure other : Choice → List Bool) → GiveTheSame closure other → (verdict : Verdict) → IsVerdict (over closure) lines verdict → IsVerdict (over other) lines verdict
  verdict_also closure other same (Yes links) (counted, sound) = (
    counted,
    All-weaker (IsSound (over closure) lines) (IsSound (over other) lines) (sound_also closure other same) (all_links (over closure) lines) sound,
  )
  verdict_also closure other same (No place id choice count) is = record {
    before = is.before;
    link = is.link;
    after = is.after;
    here = is.here;
    first = All-weaker (IsSound (over closure) lines) (IsSound (over other) lines) (sound_also closure other same) is.before is.first;
    permitted = is.permitted;
    broken = breaks_also closure other same choice is.link is.permitted.0 is.broken;
    place_is = is.place_is;
    id_is = is.id_is;
    counted = is.counted ∙ ap (count_in choice id) (same choice is.permitted.0);
  }

  module _ (one_closures : ClosuresAreOne) where
    -- what is judged by other closures is judged by these
    by_these : (closure : Choice → List Bool) (verdict : Verdict) → AreClosures r closure → IsJudged always r lines verdict → IsVerdict (over closure) lines verdict
    by_these closure verdict are (other, also, is) =
        verdict_also other closure (λ choice fits. one_closures r choice (other choice) (closure choice) (also choice fits) (are choice fits)) verdict is

    pub one_count : (links more : ℕ) → IsJudged always r lines (Yes links) → IsJudged always r lines (Yes more) → links ≡ more
    one_count links more (closure, are, is) also = same_count (over closure) lines links more is (by_these closure (Yes more) are also)

    pub never_both : (links : ℕ) (place : Place) (id : List ℕ) (choice : Choice) (count : ℕ) → IsJudged always r lines (Yes links) → ¬ IsJudged always r lines (No place id choice count)
    never_both links place id choice count (closure, are, is) also =
        never_broken (over closure) lines links place id choice count is (by_these closure (No place id choice count) are also)

    pub one_place : (place other : Place) (id name : List ℕ) (choice chosen : Choice) (count counted : ℕ)
        → IsJudged always r lines (No place id choice count) → IsJudged always r lines (No other name chosen counted) → place ≡ other
    one_place place other id name choice chosen count counted (closure, are, is) also =
        same_link (over closure) lines place other id name choice chosen count counted is (by_these closure (No other name chosen counted) are also)
