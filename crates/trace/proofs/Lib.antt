-- `Within` has what a claim and a call that are read keep,
-- `Walk` the loop over the calls, `Rests` what a whole trace holds and how a later walk goes over it, `Once` that no second
-- answer meets a promise, `Rows` examples.
pub mod Within
pub mod Walk
pub mod Rests
pub mod Once
pub mod Rows
