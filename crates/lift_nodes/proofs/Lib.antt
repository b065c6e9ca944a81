pub mod CaseLemmas
pub mod CountLemmas
pub mod GivingLemmas
pub mod GrownLemmas
pub mod IdLemmas
pub mod OnceLemmas
pub mod OverLemmas
pub mod PlainLemmas
