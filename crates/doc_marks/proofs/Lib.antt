pub mod IdLemmas
pub mod RangeLemmas
pub mod PlaceLemmas
pub mod SearchLemmas
pub mod SpellingLemmas
pub mod KindLemmas
pub mod ListLemmas
