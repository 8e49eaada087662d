pub mod Lines
pub mod Writing
pub mod Reading
pub mod Session
pub mod Steps
