-- `session::reading::step` meets its contract. Assumes nothing.
use mathlib.Core.Path.{refl, ap, ◌∙◌}
use mathlib.Core.List.{[]}
use lib.IntN.{ℤ}
use Rattle.reader.specs.World.{Called, world_of}
use Rattle.reader.specs.Buffer as Buffer
use Rattle.reader.specs.Reader as Reader
use Rattle.form.specs.declared.Call.{Call}
use Rattle.form.specs.Calls.{asked}
use Rattle.text.specs.declared.Name.TheVariants.{Peek, Consume, SeekRelative, Fill}
use Rattle.session.specs.Reading.{reader_step, peek_step, fill_step}
use Rattle.session.proofs.Walks.{idles}
use Rattle.session.proofs.Offsets.{seen}
use Rattle.session.proofs.ReadSteps.{same_step, call_is, idle}
use Rattle.session.proofs.reading.step.Goals as goal

pub returns-in-Read-clause-steps : goal.returns-in-Read-clause-steps
unfolding reader_step
returns-in-Read-clause-steps c = same_step _ _ _ _ _ (ap (λ (x : Call). reader_step c.args.r.now.script.now c.args.r.now.stock.now (world_of c.args.r.now) (asked c.args.session.now x)) c.in-Read.is) c.read.ensures.steps

pub returns-in-Peek-clause-steps : goal.returns-in-Peek-clause-steps
unfolding reader_step peek_step
returns-in-Peek-clause-steps c = call_is _ _ _ _ c.counted-answer.ensures c.peek.new.self _ _ c.peek.ensures.call Peek (λ (x : Called). Buffer.shown c.in-Peek.n x.world) _ (ap (λ (x : Call). reader_step c.args.r.now.script.now c.args.r.now.stock.now (world_of c.args.r.now) (asked c.args.session.now x)) c.in-Peek.is) c.peeked.ensures c.line.ensures

pub returns-in-Consume-clause-steps : goal.returns-in-Consume-clause-steps
unfolding reader_step
returns-in-Consume-clause-steps c = call_is _ _ _ _ c.uncounted-answer.ensures c.consume.new.self _ _ c.consume.ensures.call Consume (λ (x : Called). []) _ (ap (λ (x : Call). reader_step c.args.r.now.script.now c.args.r.now.stock.now (world_of c.args.r.now) (asked c.args.session.now x)) c.in-Consume.is) refl c.line-in-Consume.ensures

pub returns-in-Seek-clause-steps : goal.returns-in-Seek-clause-steps
unfolding reader_step
returns-in-Seek-clause-steps c = call_is _ _ _ _ c.uncounted-answer-in-Seek.ensures c.seek_relative.new.self _ _ (c.seek_relative.ensures.call ∙ ap (λ (z : ℤ). Reader.seek_relative c.args.r.now.script.now c.args.r.now.stock.now z (world_of c.args.r.now)) (seen _ _ c.offset.result (rw c.in-Seek.is at c.requires) c.offset.ensures)) SeekRelative (λ (x : Called). []) _ (ap (λ (x : Call). reader_step c.args.r.now.script.now c.args.r.now.stock.now (world_of c.args.r.now) (asked c.args.session.now x)) c.in-Seek.is) refl c.line-in-Seek.ensures

pub returns-in-Fill-clause-steps : goal.returns-in-Fill-clause-steps
unfolding reader_step fill_step
returns-in-Fill-clause-steps c = call_is _ _ _ _ c.counted-answer-in-Fill.ensures c.fill_buf.new.self _ _ c.fill_buf.ensures.call Fill (λ (x : Called). Buffer.shown (Buffer.count x.world.state) x.world) _ (ap (λ (x : Call). reader_step c.args.r.now.script.now c.args.r.now.stock.now (world_of c.args.r.now) (asked c.args.session.now x)) c.in-Fill.is) c.buffered.ensures c.line-in-Fill.ensures

pub returns-in-Write-clause-steps : goal.returns-in-Write-clause-steps
returns-in-Write-clause-steps c = idles _ _ _ (idle _ _ _ _ _ c.in-Write.is)
