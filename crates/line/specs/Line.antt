-- Module 4, the line writer, over the same world.
-- Assumes nothing.
use Rattle.std.specs.Prelude.{ℕ, suc, ◌+◌, ◌-◌, Bool, false, List, [], ◌∷◌, length, take, drop, get_or, leb, ltb, eqb}
use Rattle.laws.specs.Pick.{pick}
use Rattle.card.specs.Answers.{ok}
use Rattle.card.specs.Limits.{length_refusal}
use Rattle.flushing.specs.World.{World, Called, capacity, kept, and_then, nothing, refusing, count_of}
use Rattle.flushing.specs.Flush.{flush_buf}
use Rattle.writer.specs.Writer.{device_write, device_write_all, write, write_all}

abbrev pub newline : ℕ
newline = 10

-- the length of everything up to and including the last newline, 0 where there is none
unfoldable pub lines_length : List ℕ → ℕ
lines_length [] = 0
lines_length (b ∷ rest) = pick (ltb 0 (lines_length rest)) (suc (lines_length rest)) (pick (eqb b newline) 1 0)

-- the last held byte is a newline
unfoldable pub ends_line : List ℕ → ℕ → Bool
ends_line storage held = pick (eqb held 0) false (eqb (get_or storage (held - 1) 0) newline)

-- "if the last held byte is a newline, `flush_buf`"
unfoldable pub completed : List ℕ → World → Called
completed script w = pick (ends_line w.storage w.held) (flush_buf script w) (nothing w)

-- ---- `write`

-- "keep up to their last newline, or all"
unfoldable pub window : List ℕ → ℕ
window area = pick (eqb (lines_length area) 0) (length area) (lines_length area)

-- How many bytes of s after the first f are kept, of which e are lines. "f = 0 answers ok 0. If f = e, the tail after it is
-- kept, unless its length is at least the capacity; then ok f alone. If f < e and e - f <= capacity, f..e is kept. Else
-- look at the capacity bytes from f"
unfoldable pub tail_kept : ℕ → List ℕ → ℕ → ℕ → ℕ
tail_kept most s e f =
    pick (eqb f 0) 0
    (pick (leb e f) (pick (leb most (length s - f)) 0 (length s - f))
    (pick (leb (e - f) most) (e - f) (window (take most (drop f s)))))

-- "Answer f plus what was kept"
unfoldable pub keep_tail : World → List ℕ → ℕ → ℕ → Called
keep_tail w s e f =
    let k = tail_kept (capacity w) s e f in
    record { answer = ok (f + k); world = kept w (drop f s) k }

-- "one device write of everything up to and including the last newline (length e), taken f"
unfoldable pub send_lines : List ℕ → World → List ℕ → ℕ → Called
send_lines script w s e =
    let d = device_write script w (take e s) in
    and_then d (λ v. keep_tail v s e (count_of d.answer))

-- "`write` without a newline: if the last held byte is a newline, `flush_buf`; then the plain write. With one:
-- `flush_buf`, then one device write" of the lines
unfoldable pub line_write : List ℕ → World → List ℕ → Called
line_write script w s =
    pick (eqb (lines_length s) 0) (and_then (completed script w) (λ v. write script v s))
    (and_then (flush_buf script w) (λ v. send_lines script v s (lines_length s)))

-- ---- `write_all`

-- "lines go by module 3's default device write if nothing is held, else through the buffer and `flush_buf`"
unfoldable pub lines_all : List ℕ → World → List ℕ → Called
lines_all script w lines =
    pick (eqb w.held 0) (device_write_all script w lines) (and_then (write_all script w lines) (λ v. flush_buf script v))

-- "`write_all` without one starts alike and ends in the plain `write_all`; with one", the lines and "then the tail by the
-- plain `write_all`. In both, the first failure is the answer"
unfoldable pub line_write_all : List ℕ → World → List ℕ → Called
line_write_all script w s =
    pick (eqb (lines_length s) 0) (and_then (completed script w) (λ v. write_all script v s))
    (and_then (lines_all script w (take (lines_length s) s)) (λ v. write_all script v (drop (lines_length s) s)))

-- ---- on every input; "`flush` is the plain one"

unfoldable pub line_write_call : List ℕ → World → List ℕ → Called
line_write_call script w s = refusing script w (length_refusal (length s)) (λ v. line_write script v s)

unfoldable pub line_write_all_call : List ℕ → World → List ℕ → Called
line_write_all_call script w s = refusing script w (length_refusal (length s)) (λ v. line_write_all script v s)
