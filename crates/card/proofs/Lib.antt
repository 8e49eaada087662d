-- `Replies` has the laws of the device's definitions, `Refusals` what is so where none applies, `Saids` that answers which say
-- the same are the same, `Sames` that no second answer keeps a promise, `Ends` that error code 0 is the script's end: for this
-- crate and those above it. `Pastes` has the invariant of the loops that copy and that shift.
pub mod Replies
pub mod Refusals
pub mod Saids
pub mod Sames
pub mod Ends
pub mod Pastes
