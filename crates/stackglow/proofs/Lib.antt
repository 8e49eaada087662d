-- `Sames`: no second answer.
pub mod Sames
