-- `text::parts::store_hex` meets its contract. The loop's invariant: what is left to print makes the whole. Assumes nothing.
use Rattle.text.proofs.Hexes.{Rest}
use Rattle.text.proofs.parts.store_hex.Given as goal

abbrev pub invariant-loop-byte : goal.invariant-loop-byte
invariant-loop-byte l = Rest (record { output = l.fn.output; at = l.at }) l.shown (record { output = l.output; at = l.next }) l.byte-index
