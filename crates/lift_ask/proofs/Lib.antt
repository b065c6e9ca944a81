pub mod TableLemmas
pub mod PutLemmas
pub mod AskLemmas
pub mod FoundLemmas
