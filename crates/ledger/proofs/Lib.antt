-- `Moves` has what the parts of a call do to the ledger, `Ledgers` the ledger of any calls.
pub mod Moves
pub mod Ledgers
