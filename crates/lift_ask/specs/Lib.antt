pub mod Breaking
pub mod Tables
pub mod Questions
pub mod Telling
