-- Lemmas that the functions' proofs cite: `Seeks` of signed offsets, `Buffers` of the buffer's calls, `Refusals`
-- of what a number tells, `Peeks` of the loop of `peek`, `Readings` of the ways through `read`.
pub mod Buffers
pub mod Refusals
pub mod Seeks
pub mod Peeks
pub mod Readings
-- Theorems on the definitions: `Sames`, no second answer; `Counts`, the device calls; `Shows`, `peek` with `peeked`;
-- `Ledger`, the ledger of reading; `Rows`, the bench sheet.
pub mod Sames
pub mod Counts
pub mod Shows
pub mod Ledger
pub mod Rows
