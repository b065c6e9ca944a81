pub mod Chains
pub mod Laws
pub mod Lengths
pub mod Parameters
pub mod Pointers
pub mod Statements
pub mod Types
pub mod Wording
