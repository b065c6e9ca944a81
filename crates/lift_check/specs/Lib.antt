pub mod Judging
pub mod Keeping
pub mod Lines
pub mod Nodes
pub mod Options
pub mod Permits
pub mod Prepared
pub mod Verdict
