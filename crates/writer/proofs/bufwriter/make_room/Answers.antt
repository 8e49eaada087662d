-- `writer::bufwriter::make_room` meets its contract. Assumes nothing.
use Rattle.card.specs.Answers.{said_done}
use Rattle.flushing.specs.World.{left}
use Rattle.flushing.proofs.Calls.{limits}
use Rattle.writer.proofs.Calls.{room_flushed, room_kept}
use Rattle.writer.proofs.bufwriter.make_room.Goals as goal

pub overflow_sub-w : goal.overflow_sub-w
overflow_sub-w c = (limits c.args.w.now.script.now _ c.requires.sound).filled_fits

pub returns-then-w-length-clause-told : goal.returns-then-w-length-clause-told
returns-then-w-length-clause-told c = room_flushed _ _ _ c.args.w.now.state _ c.requires.sound (left (said_done c.flush_buf.result) c.flush_buf.new.self) _ _ c.flush_buf.ensures.told c.if-w-length.true

pub returns-clause-told : goal.returns-clause-told
returns-clause-told c = room_kept _ _ _ c.args.w.now.state _ c.requires.sound _ c.requires.begun c.if-w-length.false
