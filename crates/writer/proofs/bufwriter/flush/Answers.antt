-- `writer::bufwriter::flush` meets its contract. Assumes nothing.
use mathlib.Core.Path.{refl, sym, ap}
use native.Mathlib.Omega.{arith}
use Rattle.std.proofs.lemmas.Result.{err_from_is_err_and}
use Rattle.card.specs.Answers.{done, failed}
use Rattle.flushing.specs.World.{left}
use Rattle.flushing.specs.Send.{flush_reply_said}
use Rattle.writer.proofs.Calls.{flush_stopped_is, few_calls, flush_done_is, flush_reply_says, failed_not_ok}
use Rattle.writer.proofs.bufwriter.flush.Goals as goal

pub returns-in_err-flush_buf-clause-told : goal.returns-in_err-flush_buf-clause-told
returns-in_err-flush_buf-clause-told c =
    let p = err_from_is_err_and c.from_residual.result c.from_residual.ensures.1 in
    let f = c.in_err-flush_buf.field-0.0 in
    rw (p.1, p.2) (flush_stopped_is _ _ _ c.args.w.now.state (left (failed f) c.flush_buf.new.self) _ _ c.in_err-flush_buf.ensures.told (failed_not_ok f))

pub overflow_add-w : goal.overflow_add-w
overflow_add-w c =
    let h = few_calls _ _ _ c.args.w.now.state (left done c.flush_buf.new.self) _ _ c.in_ok-flush_buf.ensures.told refl in
    omega (arith, h)

pub returns-in_err-e-clause-told : goal.returns-in_err-e-clause-told
returns-in_err-e-clause-told c =
    let p = err_from_is_err_and c.from_residual-in_err-e.result c.from_residual-in_err-e.ensures.1 in
    rw (p.1, p.2) (flush_done_is _ _ _ c.args.w.now.state (left done c.flush_buf.new.self) _ _ c.in_ok-flush_buf.ensures.told refl _ _ (rw c.flush_buf.ensures.lent.script at c.flush-e.ensures) (flush_reply_says _ _ c.in_err-e.was))

pub returns-clause-told : goal.returns-clause-told
returns-clause-told c = flush_done_is _ _ _ c.args.w.now.state (left done c.flush_buf.new.self) _ _ c.in_ok-flush_buf.ensures.told refl _ _ (rw c.flush_buf.ensures.lent.script at c.flush-e.ensures) (ap flush_reply_said (sym c.in_ok-e.was))
