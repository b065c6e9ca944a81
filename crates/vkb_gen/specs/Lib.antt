pub mod Chapter
pub mod Draws
pub mod Items
pub mod Lines
pub mod Registry
