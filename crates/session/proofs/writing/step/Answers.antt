-- `session::writing::step` meets its contract. Assumes nothing.
use mathlib.Core.Path.{sym, ap, ◌∙◌}
use mathlib.Core.List.{List}
use Prim.Native.Nat.{ℕ}
use Rattle.flushing.specs.World.{world}
use Rattle.form.specs.declared.Call.{Call}
use Rattle.form.specs.Calls.{asked}
use Rattle.text.specs.declared.Name.TheVariants.{Write, WriteAll, Flush}
use Rattle.session.specs.Writing.{told_write, told_write_all, told_flush, stepped, writer_step}
use Rattle.session.proofs.Walks.{idles}
use Rattle.session.proofs.WriteSteps.{steps, idle}
use Rattle.session.proofs.writing.step.Goals as goal

pub returns-in-Write-clause-steps : goal.returns-in-Write-clause-steps
unfolding writer_step
returns-in-Write-clause-steps c = steps _ _ _ Write _ _ _ c.write.new.w (ap (λ (x : Call). writer_step c.args.kind c.args.w.now.script.now (world c.args.w.now) (asked c.args.session.now x)) c.in-Write.is ∙ ap (λ (l : List ℕ). stepped Write (told_write c.args.kind c.args.w.now.script.now (world c.args.w.now) l)) (sym c.part.ensures)) c.counted-answer.ensures c.write.ensures.told c.line.ensures

pub returns-in-WriteAll-clause-steps : goal.returns-in-WriteAll-clause-steps
unfolding writer_step
returns-in-WriteAll-clause-steps c = steps _ _ _ WriteAll _ _ _ c.write_all.new.w (ap (λ (x : Call). writer_step c.args.kind c.args.w.now.script.now (world c.args.w.now) (asked c.args.session.now x)) c.in-WriteAll.is ∙ ap (λ (l : List ℕ). stepped WriteAll (told_write_all c.args.kind c.args.w.now.script.now (world c.args.w.now) l)) (sym c.part-in-WriteAll.ensures)) c.uncounted-answer.ensures c.write_all.ensures.told c.line-in-WriteAll.ensures

pub returns-in-Flush-clause-steps : goal.returns-in-Flush-clause-steps
unfolding writer_step told_flush
returns-in-Flush-clause-steps c = steps _ _ _ Flush _ _ _ c.flush.new.w (ap (λ (x : Call). writer_step c.args.kind c.args.w.now.script.now (world c.args.w.now) (asked c.args.session.now x)) c.in-Flush.is) c.uncounted-answer-in-Flush.ensures c.flush.ensures.told c.line-in-Flush.ensures

pub returns-in-Read-clause-steps : goal.returns-in-Read-clause-steps
returns-in-Read-clause-steps c = idles _ _ _ (idle _ _ _ _ _ c.in-Read.is)
