use Rattle.std.proofs.Common.{take, All}
use Rattle.reg_registry.specs.Ways.{IsMore, IsSearch, IsSeen}
use Rattle.reg_registry.proofs.circles.way.Search.look_at.Given as goal

abbrev pub invariant-loop-id : goal.invariant-loop-id
invariant-loop-id l = record {
  search : IsSearch l.rows l.first l.self;
  more : IsMore l.initial.self l.self;
  seen : All (λ id. IsSeen l.self.seen id.0) (take l.id-index l.id-items);
}
