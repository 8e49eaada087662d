-- `Newlines` has the laws of the last newline, `Lines` what each way through the code tells, `Counts` that the device calls
-- reported are the replies taken and one at the script's end, `Sames` that no second answer keeps a promise.
pub mod Newlines
pub mod Lines
pub mod Counts
pub mod Sames
