use Rattle.std.proofs.Common.{◌≡◌, ◌∙◌, true, false, sym}
use Rattle.doc_build.specs.Pages.{stands}
use Rattle.doc_build.proofs.UsageLemmas.{falls-next, stands-next}
use Rattle.doc_build.proofs.pages.put_standing.Goals as goal
use Rattle.doc_build.proofs.pages.put_standing.Goals.{then-stands+in_ok-put_statement, else-stands}

pub loop-place-preserved : goal.loop-place-preserved
loop-place-preserved c =
    let set = c.args.set.now in
    let all = c.args.all.now in
    let place = c.loop-place.place in
    let s = c.index-all-place.result in
    let within = c.loop-place-test.true in
    let is = c.index-all-place.is in
    let old = c.loop-place.pieces.items in
    elim c.if-stands.branch [
      | then-stands+in_ok-put_statement w ↦
          let stand : stands set s ≡ true = sym c.stands.ensures ∙ w.if-stands.true in
          rw w.pieces-is (stands-next set c.args.number all place s within is old w.put_statement.new.pieces.items _ stand w.in_ok-put_statement.ensures c.loop-place.invariant)
      | else-stands w ↦
          let fall : stands set s ≡ false = sym c.stands.ensures ∙ w.if-stands.false in
          rw w.pieces-is (falls-next set c.args.number all place s within is old _ fall c.loop-place.invariant)
    ]
