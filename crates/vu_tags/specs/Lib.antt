pub mod Lines
pub mod Statements
pub mod Tags
pub mod Tagged
pub mod Progress
pub mod Reading
pub mod Surveyed
pub mod Kept
