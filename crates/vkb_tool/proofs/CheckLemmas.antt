-- What a verdict names is there.
use Rattle.std.proofs.Common.{◌≡◌, ℕ, ◌<◌, List, ◌∷◌, ◌++◌, length, Contains, refl, sym, ap, subst, arith, All}
use Rattle.std.proofs.lemmas.List.Elements.{All-contains, Contains-append_right}
use Rattle.doc_tree.specs.Flat.{FlatLine}
use Rattle.reg_registry.specs.Rows.{Rows}
use Rattle.doc_build.specs.declared.Place.{Place}
use Rattle.doc_build.specs.Pieces.{Link, all_links}
use Rattle.doc_build.specs.Settings.{registry_setting}
use Rattle.doc_build.specs.Sites.{MarksAtSomeChoice, SitesInOrder}
use Rattle.lift_check.specs.Verdict.{IsJudged}
use Rattle.lift_check.specs.declared.Verdict.{Verdict}
use Rattle.lift_check.specs.declared.Verdict.TheVariants.{Yes, No}
use Rattle.vkb_tool.specs.Check.{NamesWithin}

module _ (marks : MarksAtSomeChoice) (order : SitesInOrder) (always : List (List ℕ)) (r : Rows) (lines : List FlatLine) (count : ℕ) (counted : count ≡ length lines) where
  -- the link that a verdict names is in a line, and its choice has a value for each option
  pub names_within : (verdict : Verdict) → IsJudged always r lines verdict → NamesWithin count (length r.options) verdict
  names_within (Yes links) judged = tt
  names_within (No place id choice broken) (closure, are, is) =
      let links = all_links (registry_setting always r closure) lines in
      let there : All (λ link. link.place.line < length lines) links = subst (λ (ls : List Link). All (λ (l : Link). l.place.line < length lines) ls) (sym (marks.links always r closure lines)) (order.links r lines) in
      let among : Contains (is.before ++ is.link ∷ is.after) is.link = Contains-append_right is.before (is.link ∷ is.after) is.link (0, omega arith, refl) in
      let below : is.link.place.line < length lines = All-contains (λ (l : Link). l.place.line < length lines) links is.link there (subst (λ (ls : List Link). Contains ls is.link) (sym is.here) among) in
      let at : place.line ≡ is.link.place.line = ap (λ (p : Place). p.line) is.place_is in
      (omega arith, is.permitted.0)
