pub mod Claims
pub mod Calls
pub mod Trace
