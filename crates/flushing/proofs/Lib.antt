-- `Sends` has the laws of a run of device writes, `Turn` the invariant of its loop, `Flushes` what every flush of the
-- buffer keeps, `Thens` one thing after another, `Cases` the flush by its cases, `Calls` what each way through the code
-- tells, `Laters` a call that counts on, `Counts` that the device calls reported are the replies taken and one at the script's end, `Sames` that no second
-- answer keeps a promise.
pub mod Sends
pub mod Turn
pub mod Flushes
pub mod Thens
pub mod Cases
pub mod Calls
pub mod Laters
pub mod Counts
pub mod Sames
