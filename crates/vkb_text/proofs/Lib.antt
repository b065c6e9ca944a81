pub mod LineLemmas
pub mod PlacedLemmas
