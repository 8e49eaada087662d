pub mod Claims
pub mod Table
