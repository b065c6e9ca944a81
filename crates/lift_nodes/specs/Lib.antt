pub mod Cases
pub mod Giving
pub mod Nodes
pub mod Putting
