use Rattle.std.proofs.Common.{◌≡◌, ◌∙◌, ◌+◌, List, ℕ, take, get_or, ap, sym, subst, arith}
use Rattle.hdr_writer.proofs.NameLemmas.{IsLongest, longer-tag, no-end, other-tag, shorter-tag, too-long}
use Rattle.hdr_writer.proofs.max_names.tag_length.Goals as goal
use Rattle.hdr_writer.proofs.max_names.tag_length.Goals.{then-tag-longest+then-tag-name+then-ends_with, else-tag-longest, else-tag-longest-via-then-tag-longest+then-tag-name+else-ends_with, else-tag-longest-via-then-tag-longest+else-tag-name, else-tag-longest-via-else-tag-longest}

pub loop-tag-preserved : goal.loop-tag-preserved
loop-tag-preserved c =
    let tags : List (List ℕ) = c.args.tags.now in
    let name : List ℕ = c.args.name.now in
    let i = c.loop-tag.tag-index in
    let tag : List ℕ = c.as_slice-tag.result.now in
    let was : IsLongest (take i tags) name c.loop-tag.longest = record {
      length_is = c.loop-tag.invariant.length_is;
      within = c.loop-tag.invariant.within;
      tag_is = c.loop-tag.invariant.tag_is;
    } in
    let here : tag ≡ get_or tags i tag = c.as_slice-tag.ensures ∙ c.tag-item.is ∙ ap (get_or tags i) (sym c.as_slice-tag.ensures) in
    let P : ℕ → Type 0 = IsLongest (take (i + 1) tags) name in
    let r : P c.if-tag-longest.longest = elim c.if-tag-longest.branch [
      | then-tag-longest+then-tag-name+then-ends_with w ↦
          subst P (sym w.longest-is)
          (longer-tag tags name tag i c.loop-tag.longest c.loop-tag-test.true here was (omega (arith, w.if-tag-longest.true)) (omega (arith, w.if-tag-name.true))
          (sym w.ends_with.ensures.value ∙ w.if-ends_with.true))
      | else-tag-longest w ↦ subst P (sym w.longest-is) (elim w.else-tag-longest.branch [
        | else-tag-longest-via-then-tag-longest+then-tag-name+else-ends_with v ↦
            other-tag tags name tag i c.loop-tag.longest c.loop-tag-test.true here was (no-end name tag (sym v.ends_with.ensures.value ∙ v.if-ends_with.false))
        | else-tag-longest-via-then-tag-longest+else-tag-name v ↦
            other-tag tags name tag i c.loop-tag.longest c.loop-tag-test.true here was (too-long name tag (omega (arith, v.if-tag-name.false)))
        | else-tag-longest-via-else-tag-longest v ↦
            shorter-tag tags name tag i c.loop-tag.longest c.loop-tag-test.true here was (omega (arith, v.if-tag-longest.false))
      ])
    ] in
    record {
      length_is = r.length_is;
      within = r.within;
      tag_is = r.tag_is;
    }
