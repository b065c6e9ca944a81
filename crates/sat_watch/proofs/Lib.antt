pub mod CountLemmas
pub mod ChainLemmas
pub mod LinkLemmas
pub mod ViewLemmas
pub mod WalkLemmas
