pub mod Literal
pub mod Spelling
pub mod Values
