pub mod LitLemmas
pub mod SoundLemmas
pub mod TrailLemmas
pub mod JudgeLemmas
pub mod MarkLemmas
pub mod KeepLemmas
pub mod TrimLemmas
