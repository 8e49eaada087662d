-- Lemmas that more than one crate cites.
pub mod Puts
pub mod Parts
pub mod Picks
