-- `Prints` has the laws of `printed`, and `Shows` what then stands in the output; `Decimals`, `Hexes` and `Saids` the laws of numbers,
-- bytes and answers; `Back` that decimals read back, `Lengths` the room that each line wants, `Once` that no second answer meets a
-- promise, `Rows` the document's lines.
pub mod Prints
pub mod Shows
pub mod Decimals
pub mod Hexes
pub mod Saids
pub mod Back
pub mod Lengths
pub mod Once
pub mod Rows
