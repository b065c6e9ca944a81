pub mod ItemLemmas
pub mod JoiningLemmas
