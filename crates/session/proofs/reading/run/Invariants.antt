-- `session::reading::run` meets its contract. Assumes nothing.
use Rattle.reader.specs.World.{Lent, world_of}
use Rattle.session.specs.Reading.{reader_step, reader_ends}
use Rattle.session.proofs.Walks.{Inv}
use Rattle.session.proofs.reading.run.Given as goal

abbrev pub invariant-loop : goal.invariant-loop
invariant-loop l =
    record {
      lent : Lent l.initial.r l.r;
      walked : Inv l.session 2 l.end l.fn.header.first (λ w call. reader_step l.initial.r.script.now l.initial.r.stock.now w call) reader_ends (world_of l.initial.r) l.initial.page (world_of l.r) l.counter l.place l.page;
    }
