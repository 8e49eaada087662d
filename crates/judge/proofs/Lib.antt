-- `Only`: no replies leave a held count that the table does not have. `Can`: replies for each row. `Runs`: both, over the
-- calls of a trace. `Rooms`: no run that explains a trace reaches the medium's end. `Once`: no second verdict.
pub mod Only
pub mod Can
pub mod Runs
pub mod Sets
pub mod Turns
pub mod Walks
pub mod Verdicts
pub mod Rooms
pub mod Once
