pub mod Buffer
pub mod Lines
pub mod Placed
pub mod Spans
