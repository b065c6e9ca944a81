pub mod Watching
pub mod Linking
