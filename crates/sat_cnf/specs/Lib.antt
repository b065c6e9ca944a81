pub mod Lits
pub mod Clauses
pub mod Models
pub mod Encoding
pub mod Coding
