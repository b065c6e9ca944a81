pub mod ChainLemmas
pub mod EndLemmas
pub mod JoinLemmas
pub mod LengthLemmas
pub mod TypeLemmas
