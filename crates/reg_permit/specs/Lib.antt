pub mod Choices
pub mod Existence
pub mod Laws
pub mod Lowest
pub mod Nodes
pub mod Permitted
pub mod Size
