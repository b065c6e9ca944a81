use Rattle.std.proofs.Common.{◌≡◌, length, map, take}
use Rattle.reg_rows.specs.Listing.{AreMarked, places_besides}
use Rattle.reg_rows.proofs.building.declared.named.Given as goal

abbrev pub invariant-loop-mention : goal.invariant-loop-mention
invariant-loop-mention l = record {
  one_each : length l.named_in.items ≡ length l.names;
  marked : AreMarked l.round (places_besides l.names l.declaration.name (map (λ m. m.name) (take l.mention-index l.declaration.mentions))) l.named_in.items l.ids.items;
}
