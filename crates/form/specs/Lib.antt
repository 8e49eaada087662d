pub mod Lists
pub mod Replies
pub mod Calls
pub mod Session
