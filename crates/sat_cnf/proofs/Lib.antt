pub mod ClauseLemmas
pub mod GateLemmas
pub mod CodingLemmas
pub mod NodeLemmas
pub mod MarkLemmas
pub mod EncodingLemmas
