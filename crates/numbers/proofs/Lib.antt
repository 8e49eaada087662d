-- `Groups` has the loop that reads a number, `Back` that reading and writing a number undo each other, `Most` the limit of a
-- number, `Once` that no second answer meets a promise, `Rows` examples.
pub mod Groups
pub mod Back
pub mod Most
pub mod Once
pub mod Rows
