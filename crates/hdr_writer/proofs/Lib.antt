pub mod ChainLemmas
pub mod NameLemmas
pub mod NumberLemmas
pub mod TextLemmas
pub mod ValueLemmas
