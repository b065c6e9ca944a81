pub mod Ids
pub mod Marks
pub mod Search
pub mod Spelling
