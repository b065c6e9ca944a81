pub mod Meeting
pub mod Finding
