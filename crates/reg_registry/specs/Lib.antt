pub mod Depends
pub mod Laws
pub mod Naming
pub mod Rows
pub mod Walks
pub mod Ways
pub mod Words
