-- `session::writing::run` meets its contract. Assumes nothing.
use Rattle.flushing.specs.World.{Lent, world}
use Rattle.session.specs.Writing.{writer_step, writer_ends}
use Rattle.session.proofs.Walks.{Inv}
use Rattle.session.proofs.writing.run.Given as goal

abbrev pub invariant-loop : goal.invariant-loop
invariant-loop l =
    record {
      lent : Lent l.initial.w l.w;
      walked : Inv l.session l.kind l.end l.fn.header.first (λ v call. writer_step l.kind l.initial.w.script.now v call) writer_ends (world l.initial.w) l.initial.page (world l.w) l.counter l.place l.page;
    }
