-- Marking the entries that make the literals of a clause false.
use Rattle.std.proofs.Common.{◌≡◌, ◌≢◌, ℕ, ◌<◌, ◌≤◌, Bool, true, false, List, [], ◌∷◌, ◌++◌, length, set, Option, Some, slice_index_or, sym, ap, subst, ◌∙◌, ◌⊎◌, inl, inr, ⊎_elim, arith}
use Rattle.std.proofs.lemmas.Bool.{cases_eq}
use Rattle.std.proofs.lemmas.List.{get_or-set_same, get_or-set_other}
use Rattle.std.proofs.lemmas.List.Elements.{Contains-append_left, Contains-push, Contains-push_cases}
use Rattle.sat_cnf.specs.declared.lit.Lit.{Lit}
use Rattle.sat_core.specs.declared.entry.Entry.{Entry}
use Rattle.sat_core.specs.Analysing.{DeniesAt, Found, IsCounted, IsMarked, Marks}

pub set-marked : (old : List Bool) (place other : ℕ) → place < length old → IsMarked old other → IsMarked (set old place true) other
set-marked old place other h m =
    ⊎_elim (λ e. rw e (get_or-set_same old place true false h)) (λ ne. get_or-set_other old place other true false ne ∙ m) (cases_eq other place)

pub marked-set_cases : (old : List Bool) (place other : ℕ) → IsMarked (set old place true) other → IsMarked old other ⊎ (other ≡ place)
marked-set_cases old place other m =
    ⊎_elim (λ e. inr e) (λ ne. inl (sym (get_or-set_other old place other true false ne) ∙ m)) (cases_eq other place)

-- a mark is taken off at one place
pub unset-marked : (old : List Bool) (place other : ℕ) → other ≢ place → IsMarked old other → IsMarked (set old place false) other
unset-marked old place other ne m = get_or-set_other old place other false false ne ∙ m

pub marked-unset : (old : List Bool) (place other : ℕ) → place < length old → IsMarked (set old place false) other → IsMarked old other × (other ≢ place)
marked-unset old place other h m =
    ⊎_elim (λ e. absurd (let off : slice_index_or (set old place false) other false ≡ false = rw e (get_or-set_same old place false false h) in cc))
    (λ ne. (sym (get_or-set_other old place other false false ne) ∙ m, ne)) (cases_eq other place)

module _ (entries : List Entry) (but : Option Lit) (old : Found) where
  module _ (clause : List Lit) (lit : Lit) (new : Found) (h : Marks entries clause but old new) where
    pub Marks-skip : but ≡ Some lit → Marks entries (clause ++ lit ∷ []) but old new
    Marks-skip e = record {
      same = h.same;
      counted = h.counted;
      stay = h.stay;
      more = h.more;
      only = λ place m. ⊎_elim (λ was. inl was) (λ n. inr (n.0, Contains-append_left clause (lit ∷ []) n.0 n.1, n.2, n.3)) (h.only place m);
      all = λ other c. ⊎_elim (λ there. h.all other there) (λ same. inl (e ∙ ap (λ l. Some l) same)) (Contains-push_cases clause lit other c);
    }

    pub Marks-more : (place : ℕ) (newer : Found) → ¬ (but ≡ Some lit) → DeniesAt entries place lit → place < length new.marks
        → newer ≡ record new { marks = set new.marks place true; pending = newer.pending; lowest = newer.lowest }
        → IsCounted entries newer → new.pending ≤ newer.pending → Marks entries (clause ++ lit ∷ []) but old newer
    Marks-more place newer ne denies within is counted more =
        let marks : newer.marks ≡ set new.marks place true = ap (λ (f : Found). f.marks) is in
        let kept : (other : ℕ) → IsMarked new.marks other → IsMarked newer.marks other
        = λ other m. rw marks (set-marked new.marks place other within m) in
        record {
          same = is ∙ ap (λ (f : Found). record f { marks = set new.marks place true; pending = newer.pending; lowest = newer.lowest }) h.same
              ∙ ap (λ ms. record old { marks = ms; pending = newer.pending; lowest = newer.lowest }) (sym marks);
          counted = counted;
          stay = λ other m. kept other (h.stay other m);
          more = omega (arith, more, h.more);
          only = λ other m.
              ⊎_elim
              (λ was. ⊎_elim (λ w. inl w) (λ n. inr (n.0, Contains-append_left clause (lit ∷ []) n.0 n.1, n.2, n.3)) (h.only other was))
              (λ e. inr (lit, Contains-push clause lit, ne, subst (λ p. DeniesAt entries p lit) (sym e) denies))
              (marked-set_cases new.marks place other (subst (λ ms. IsMarked ms other) marks m));
          all = λ other c.
              ⊎_elim
              (λ there. ⊎_elim (λ b. inl b) (λ n. inr (n.0, n.1, kept n.0 n.2)) (h.all other there))
              (λ same. inr (place, subst (DeniesAt entries place) same denies, rw marks (get_or-set_same new.marks place true false within)))
              (Contains-push_cases clause lit other c);
        }
