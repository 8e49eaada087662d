-- `Places` has that a number's fault lies in the input, `Within` what is read keeps, `Walks` what a walk over the calls, or
-- over the replies that can be read, goes by, `Filling` the loop that fills a script, `Skipping` the loop that passes replies
-- or calls, `Steps` how far a session is read, `Rests` what a session without a fault holds and how a later walk goes over its
-- calls, `Once` that no second answer meets a promise, `Rows` examples.
pub mod Steps
pub mod Places
pub mod Within
pub mod Walks
pub mod Filling
pub mod Skipping
pub mod Rests
pub mod Once
pub mod Rows
