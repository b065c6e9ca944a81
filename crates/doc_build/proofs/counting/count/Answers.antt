use Rattle.std.proofs.Common.{◌∙◌, Bool, List, ℕ, None, ap, min, subst}
use Rattle.doc_tree.specs.declared.DocLine.{DocLine}
use Rattle.doc_tree.specs.Loaded.{flat_of}
use Rattle.doc_build.specs.Built.{choice_count, set_names}
use Rattle.doc_build.specs.Counting.{lines_count, most}
use Rattle.doc_build.specs.Keeping.{KeepsLines}
use Rattle.doc_build.specs.Pages.{lines_given}
use Rattle.doc_build.proofs.CountLemmas.{count-kept}
use Rattle.doc_build.proofs.counting.count.Goals as goal

pub returns : goal.returns
returns c = λ set closed.
    let d = c.args.d.now in
    let r = c.args.r.now in
    let id = c.args.id.now in
    let always = c.args.always.now in
    let text = c.args.text.now.bytes in
    let chosen = c.args.c.now.chosen.items in
    let own = c.in_ok-set.set in
    let pages = lines_given r chosen own in
    let made = c.in_ok-made.made.items in
    let keeps = subst (λ (bs : List Bool). KeepsLines (set_names always r bs) text d made) c.as_slice.ensures.value (c.in_ok-made.ensures text c.requires.loaded) in
    c.in_ok-count.ensures
    ∙ ap (λ (n : ℕ). min n most)
    (ap (λ (ls : List DocLine). lines_count pages text c.as_slice-3.result.now id None 0 ls) c.as_slice-2.ensures
    ∙ ap (λ (bs : List Bool). lines_count pages text bs id None 0 d.lines) c.as_slice-3.ensures.value
    ∙ count-kept always r chosen own text made d id keeps
    ∙ ap (λ (s : List Bool). choice_count always r chosen s (flat_of text d) id) (c.one_closure.ensures r chosen own set c.in_ok-set.ensures closed))
