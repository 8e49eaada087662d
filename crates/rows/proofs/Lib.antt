-- `Verdicts`: how the traces' rows are shown, and that the judge can answer nothing else. `Starred`: the starred rows.
pub mod Verdicts
pub mod Starred
