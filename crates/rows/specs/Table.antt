-- The starred rows of the bench sheet. Capacity 4 unless said; a medium has 8 bytes.
-- Assumes nothing.
use Rattle.std.specs.Prelude.{ℕ, List, [], ◌∷◌}
use Rattle.card.specs.Answers.{ok, done, zero_taken, error}
use Rattle.flushing.specs.World as Writer
use Rattle.flushing.specs.World.{world_of}
use Rattle.writer.specs.Writer.{write_call, write_all_call, flush_call}
use Rattle.line.specs.Line.{newline, line_write_call}
use Rattle.reader.specs.World as Reader
use Rattle.reader.specs.Buffer.{shown}
use Rattle.reader.specs.Reader.{read, peek}
use Rattle.trace.specs.Calls.{wrote, flushed}
use Rattle.rows.specs.Claims.{Claim, Row, tells, reads, leaves, shows, possible, impossible}

abbrev pub a : ℕ
a = 97

abbrev pub b : ℕ
b = 98

abbrev pub c : ℕ
c = 99

abbrev pub d : ℕ
d = 100

abbrev pub e : ℕ
e = 101

abbrev pub f : ℕ
f = 102

abbrev pub g : ℕ
g = 103

abbrev pub h : ℕ
h = 104

-- four bytes of storage, and the medium
abbrev pub empty : List ℕ
empty = 0 ∷ 0 ∷ 0 ∷ 0 ∷ []

abbrev pub blank : List ℕ
blank = 0 ∷ 0 ∷ 0 ∷ 0 ∷ 0 ∷ 0 ∷ 0 ∷ 0 ∷ []

-- a writer that holds the first n bytes of its storage, before any device call
abbrev pub holding : ℕ → List ℕ → Writer.World
holding n storage = world_of (record { held = n; out = 0; used = 0 }) storage blank

-- a reader, by its storage, pos, filled, bytes taken and replies used
abbrev pub at : List ℕ → ℕ → ℕ → ℕ → ℕ → Reader.World
at storage pos filled taken used =
    record { storage = storage; state = record { pos = pos; filled = filled; taken = taken; used = used } }

abbrev pub stock : List ℕ
stock = a ∷ b ∷ c ∷ d ∷ e ∷ f ∷ g ∷ h ∷ []

abbrev row : ℕ → Claim → Row
row n claim = record { number = n; claim = claim }

abbrev pub table : List Row
table =
    -- 1. `write` abcd, [4]: ok 4, out abcd, held 0
    row 1
    (tells (write_call (4 ∷ []) (holding 0 empty) (a ∷ b ∷ c ∷ d ∷ []))
    (record {
      answer = ok 4;
      calls = 1;
      held = 0;
      out = 4;
      used = 1;
      storage = empty;
      medium = a ∷ b ∷ c ∷ d ∷ 0 ∷ 0 ∷ 0 ∷ 0 ∷ [];
    }))
    -- 2. held abc, `write` d, []: ok 1, calls 0, held abcd
    ∷ row 2
    (tells (write_call [] (holding 3 (a ∷ b ∷ c ∷ 0 ∷ [])) (d ∷ []))
    (record { answer = ok 1; calls = 0; held = 4; out = 0; used = 0; storage = a ∷ b ∷ c ∷ d ∷ []; medium = blank }))
    -- 3. held abc, storage abc0, `write` de, [1, 65,536, 2]: ok 2, calls 3, out abc, storage dec0
    ∷ row 3
    (tells (write_call (1 ∷ 65536 ∷ 2 ∷ []) (holding 3 (a ∷ b ∷ c ∷ 0 ∷ [])) (d ∷ e ∷ []))
    (record {
      answer = ok 2;
      calls = 3;
      held = 2;
      out = 3;
      used = 3;
      storage = d ∷ e ∷ c ∷ 0 ∷ [];
      medium = a ∷ b ∷ c ∷ 0 ∷ 0 ∷ 0 ∷ 0 ∷ 0 ∷ [];
    }))
    -- 4. held abc, `flush`, [2, 0]: zero, out ab, held c, storage cbc0
    ∷ row 4
    (tells (flush_call (2 ∷ 0 ∷ []) (holding 3 (a ∷ b ∷ c ∷ 0 ∷ [])))
    (record {
      answer = zero_taken;
      calls = 2;
      held = 1;
      out = 2;
      used = 2;
      storage = c ∷ b ∷ c ∷ 0 ∷ [];
      medium = a ∷ b ∷ 0 ∷ 0 ∷ 0 ∷ 0 ∷ 0 ∷ 0 ∷ [];
    }))
    -- 6. capacity 0, `write` of nothing, [7]: ok 0, calls 1. `write_all` of nothing: calls 0
    ∷ row 6
    (tells (write_call (7 ∷ []) (holding 0 []) [])
    (record { answer = ok 0; calls = 1; held = 0; out = 0; used = 1; storage = []; medium = blank }))
    ∷ row 6
    (tells (write_all_call (7 ∷ []) (holding 0 []) [])
    (record { answer = done; calls = 0; held = 0; out = 0; used = 0; storage = []; medium = blank }))
    -- 7. line `write` ab\ncd, [3]: ok 5, held cd. ab\ncdef, [3]: ok 3, held 0
    ∷ row 7
    (tells (line_write_call (3 ∷ []) (holding 0 empty) (a ∷ b ∷ newline ∷ c ∷ d ∷ []))
    (record {
      answer = ok 5;
      calls = 1;
      held = 2;
      out = 3;
      used = 1;
      storage = c ∷ d ∷ 0 ∷ 0 ∷ [];
      medium = a ∷ b ∷ newline ∷ 0 ∷ 0 ∷ 0 ∷ 0 ∷ 0 ∷ [];
    }))
    ∷ row 7
    (tells (line_write_call (3 ∷ []) (holding 0 empty) (a ∷ b ∷ newline ∷ c ∷ d ∷ e ∷ f ∷ []))
    (record {
      answer = ok 3;
      calls = 1;
      held = 0;
      out = 3;
      used = 1;
      storage = empty;
      medium = a ∷ b ∷ newline ∷ 0 ∷ 0 ∷ 0 ∷ 0 ∷ 0 ∷ [];
    }))
    -- 10. stock abcdefgh, `read` 2, [3, 2]: ok 2, pos 2, filled 3. Then `peek` 3: cde, pos 0
    ∷ row 10
    (reads (read (3 ∷ 2 ∷ []) stock (0 ∷ 0 ∷ []) (at empty 0 0 0 0))
    (record {
      destination = a ∷ b ∷ [];
      called = record { answer = ok 2; calls = 1; world = at (a ∷ b ∷ c ∷ 0 ∷ []) 2 3 3 1 };
    }))
    ∷ row 10
    (leaves (peek (3 ∷ 2 ∷ []) stock 3 (at (a ∷ b ∷ c ∷ 0 ∷ []) 2 3 3 1))
    (record { answer = ok 3; calls = 1; world = at (c ∷ d ∷ e ∷ 0 ∷ []) 0 3 5 2 }))
    ∷ row 10 (shows (shown 3 (at (c ∷ d ∷ e ∷ 0 ∷ []) 0 3 5 2)) (c ∷ d ∷ e ∷ []))
    -- 14. Traces. write abc ok 3, card empty: possible; card a: impossible. Then flush error 5: card ab or abc possible
    ∷ row 14
    (possible (4 ∷ 1 ∷ 0 ∷ 3 ∷ a ∷ b ∷ c ∷ 0 ∷ 3 ∷ 0 ∷ []) 4 (wrote (a ∷ b ∷ c ∷ []) (ok 3) ∷ []) [])
    ∷ row 14
    (impossible (4 ∷ 1 ∷ 0 ∷ 3 ∷ a ∷ b ∷ c ∷ 0 ∷ 3 ∷ 1 ∷ a ∷ []) 4 (wrote (a ∷ b ∷ c ∷ []) (ok 3) ∷ []) (a ∷ []))
    ∷ row 14
    (possible (4 ∷ 2 ∷ 0 ∷ 3 ∷ a ∷ b ∷ c ∷ 0 ∷ 3 ∷ 1 ∷ 3 ∷ 5 ∷ 2 ∷ a ∷ b ∷ []) 4
    (wrote (a ∷ b ∷ c ∷ []) (ok 3) ∷ flushed (error 5) ∷ [])
    (a ∷ b ∷ []))
    ∷ row 14
    (possible (4 ∷ 2 ∷ 0 ∷ 3 ∷ a ∷ b ∷ c ∷ 0 ∷ 3 ∷ 1 ∷ 3 ∷ 5 ∷ 3 ∷ a ∷ b ∷ c ∷ []) 4
    (wrote (a ∷ b ∷ c ∷ []) (ok 3) ∷ flushed (error 5) ∷ [])
    (a ∷ b ∷ c ∷ []))
    -- 15. write abcd ok 4, card empty: impossible
    ∷ row 15
    (impossible (4 ∷ 1 ∷ 0 ∷ 4 ∷ a ∷ b ∷ c ∷ d ∷ 0 ∷ 4 ∷ 0 ∷ []) 4 (wrote (a ∷ b ∷ c ∷ d ∷ []) (ok 4) ∷ []) [])
    ∷ []
