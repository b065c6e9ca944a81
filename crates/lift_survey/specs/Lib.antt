pub mod Growth
pub mod Keeping
pub mod Survey
