-- A writer's session: its calls run by the definitions that the writers' promises cite, and a line for each.
-- Assumes nothing.
use Rattle.std.specs.Prelude.{ℕ, List, [], ◌++◌, take, replicate, eqb}
use Rattle.laws.specs.Pick.{pick}
use Rattle.card.specs.Limits.{bytes_most}
use Rattle.flushing.specs.World.{World, Told, reported, new}
use Rattle.writer.specs.Writer.{write_call, write_all_call, flush_call}
use Rattle.line.specs.Line.{line_write_call, line_write_all_call}
use Rattle.form.specs.Calls.{Asked, write, write_all, flush, read, peek, consume, seek_relative, fill}
use Rattle.text.specs.declared.Name.{Name}
use Rattle.text.specs.declared.Name.TheVariants.{Write, WriteAll, Flush}
use Rattle.session.specs.Lines.{Step, lines_of}
use Rattle.text.specs.Lines.{session_line, writer_line, writer_end}

-- kind 0 is the writer, 1 the line writer; "`flush` is the plain one"
unfoldable pub told_write : ℕ → List ℕ → World → List ℕ → Told
told_write kind script w s = reported (pick (eqb kind 1) (line_write_call script w s) (write_call script w s))

unfoldable pub told_write_all : ℕ → List ℕ → World → List ℕ → Told
told_write_all kind script w s = reported (pick (eqb kind 1) (line_write_all_call script w s) (write_all_call script w s))

unfoldable pub told_flush : List ℕ → World → Told
told_flush script w = reported (flush_call script w)

unfoldable pub stepped : Name → Told → Step World
stepped name t =
    record {
      line = writer_line name t.answer t.calls t.held t.out;
      world =
          record {
            storage = t.storage;
            medium = t.medium;
            held = t.held;
            out = t.out;
            used = t.used;
            writes = 0;
            flushes = 0;
          };
    }

-- one call; a reader's call is none of a writer's session
unfoldable pub writer_step : ℕ → List ℕ → World → Asked → Step World
writer_step kind script w (write s) = stepped Write (told_write kind script w s)
writer_step kind script w (write_all s) = stepped WriteAll (told_write_all kind script w s)
writer_step kind script w flush = stepped Flush (told_flush script w)
writer_step kind script w (read n) = record { line = []; world = w }
writer_step kind script w (peek n) = record { line = []; world = w }
writer_step kind script w (consume n) = record { line = []; world = w }
writer_step kind script w (seek_relative back size) = record { line = []; world = w }
writer_step kind script w fill = record { line = []; world = w }

-- the end line: the bytes held, and those out
unfoldable pub writer_ends : World → List ℕ
writer_ends w = writer_end (take w.held w.storage) (take w.out w.medium)

-- "The medium has 16,384 bytes, storage starts as zeros"
unfoldable pub writer_text : ℕ → ℕ → List ℕ → List Asked → List ℕ
writer_text kind capacity script calls =
    session_line kind capacity ++ lines_of (λ w call. writer_step kind script w call) writer_ends (new (replicate capacity 0) (replicate bytes_most 0)) calls
