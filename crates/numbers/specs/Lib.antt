pub mod Width
pub mod Number
pub mod Written
