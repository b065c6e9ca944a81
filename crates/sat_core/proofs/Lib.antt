pub mod PairLemmas
pub mod SearchLemmas
pub mod LearnLemmas
pub mod LawLemmas
pub mod LiteralLemmas
pub mod PlaceLemmas
pub mod KnownLemmas
pub mod TrailLemmas
pub mod AssigningLemmas
pub mod ConflictTrailLemmas
pub mod ConflictCountLemmas
pub mod ConflictMarkLemmas
pub mod ConflictLemmas
pub mod ConflictStepLemmas
pub mod SparingLemmas
pub mod ConflictEndLemmas
pub mod ConflictUndoLemmas
mod EntryLemmas
mod WatchLemmas
mod GrowthLemmas
mod PropagationLemmas
mod ReplacementLemmas
mod SettleLemmas
mod VisitLemmas
mod WalkLemmas
pub mod SolvingLemmas
pub mod AskingLemmas
