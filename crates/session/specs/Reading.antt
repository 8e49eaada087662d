-- A reader's session: its calls run by the definitions that the reader's promises cite, and a line for each.
-- Assumes nothing.
use Rattle.std.specs.Prelude.{ℕ, ◌-◌, Bool, true, false, List, [], ◌++◌, ℤ, pos, negsuc, take, get_or, replicate, eqb}
use Rattle.laws.specs.Pick.{pick}
use Rattle.card.specs.Answers.{Said}
use Rattle.reader.specs.World.{World, Called, Reading, world}
use Rattle.reader.specs.Buffer as Buffer
use Rattle.reader.specs.Reader as Reader
use Rattle.form.specs.Calls.{Asked, write, write_all, flush, read, peek, consume, seek_relative, fill}
use Rattle.text.specs.declared.Name.{Name}
use Rattle.text.specs.declared.Name.TheVariants.{Read, Peek, Consume, SeekRelative, Fill}
use Rattle.session.specs.Lines.{Step, lines_of}
use Rattle.text.specs.Lines.{session_line, reader_line, reader_end}

-- what an answer shows of bytes: as many as its count after ok, none for every other answer
unfoldable pub shown_by : Said → List ℕ → List ℕ
shown_by answer bytes = pick (eqb (get_or answer 0 1) 0) (take (get_or answer 1 0) bytes) []

-- the line of a call, with what its answer shows of these bytes
unfoldable pub stepped : Name → Called → List ℕ → Step World
stepped name c bytes =
    record {
      line = reader_line name c.answer c.calls c.world.state.pos c.world.state.filled (shown_by c.answer bytes);
      world = c.world;
    }

-- `read` n into a destination of n bytes; the bytes read
unfoldable pub read_step : Reading → Step World
read_step r = stepped Read r.called r.destination

-- `peek` n; the bytes shown
unfoldable pub peek_step : ℕ → Called → Step World
peek_step n c = stepped Peek c (Buffer.shown n c.world)

-- fill; all that is buffered
unfoldable pub fill_step : Called → Step World
fill_step c = stepped Fill c (Buffer.shown (Buffer.count c.world.state) c.world)

-- direction 0 on, 1 back
abbrev pub offset_of : Bool → ℕ → ℤ
offset_of true size = negsuc (size - 1)
offset_of false size = pos size

-- one call; a writer's call is none of a reader's session
unfoldable pub reader_step : List ℕ → List ℕ → World → Asked → Step World
reader_step script stock w (write s) = record { line = []; world = w }
reader_step script stock w (write_all s) = record { line = []; world = w }
reader_step script stock w flush = record { line = []; world = w }
reader_step script stock w (read n) = read_step (Reader.read script stock (replicate n 0) w)
reader_step script stock w (peek n) = peek_step n (Reader.peek script stock n w)
reader_step script stock w (consume n) = stepped Consume (Reader.consume script stock n w) []
reader_step script stock w (seek_relative back size) = stepped SeekRelative (Reader.seek_relative script stock (offset_of back size) w) []
reader_step script stock w fill = fill_step (Reader.fill_buf script stock w)

-- the end line: pos..filled, and the bytes taken of the stock
unfoldable pub reader_ends : World → List ℕ
reader_ends w = reader_end (Buffer.shown (Buffer.count w.state) w) w.state.taken

unfoldable pub reader_text : ℕ → List ℕ → List ℕ → List Asked → List ℕ
reader_text capacity script stock calls = session_line 2 capacity ++ lines_of (λ w call. reader_step script stock w call) reader_ends (world (replicate capacity 0) Buffer.new) calls
