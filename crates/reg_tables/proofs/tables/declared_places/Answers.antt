use Rattle.reg_tables.proofs.TableLemmas.{put-all, put-more}
use Rattle.reg_tables.proofs.tables.declared_places.Goals as goal

pub loop-place-preserved : goal.loop-place-preserved
loop-place-preserved c =
    put-more (λ d. d.name) _ _ _ _ c.loop-place.invariant _ _ _ _ c.loop-place-test.true c.index-declarations-place.is c.as_slice.ensures c.in_ok-put.ensures

pub returns : goal.returns
returns c = put-all (λ d. d.name) _ _ _ _ c.loop-place.invariant c.loop-place-test.false
