pub mod Faults
pub mod Held
pub mod MemoryShelf
pub mod MemorySink
pub mod Shelf
pub mod Sink
pub mod SureSink
