-- `Cases` has the calls by their cases, `Goes` what `write_all` leaves where it succeeds, `Calls` what each way through the
-- code tells, `Laters` that they count on, `Counts` that the device calls reported are the replies taken and one at the script's end, `Sames` that no
-- second answer keeps a promise.
pub mod Cases
pub mod Goes
pub mod Calls
pub mod Laters
pub mod Counts
pub mod Sames
