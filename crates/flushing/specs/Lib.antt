pub mod World
pub mod Send
pub mod Flush
