-- `line::linewriter::flush_then_lines` meets its contract. Assumes nothing.
use mathlib.Core.Path.{refl}
use Rattle.std.proofs.lemmas.Result.{err_from_is_err_and}
use Rattle.card.specs.Answers.{done, failed}
use Rattle.flushing.specs.World.{left}
use Rattle.flushing.specs.Flush.{flush_buf}
use Rattle.flushing.proofs.Calls.{flush_ready}
use Rattle.writer.proofs.Calls.{failed_not_ok, fit_on}
use Rattle.line.proofs.Lines.{flush_step, flush_leaves, step_stopped, next_going}
use Rattle.line.proofs.linewriter.flush_then_lines.Goals as goal

pub returns-in_err-flush_buf-clause-told : goal.returns-in_err-flush_buf-clause-told
returns-in_err-flush_buf-clause-told c =
    let p = err_from_is_err_and c.from_residual.result c.from_residual.ensures.1 in
    let f = c.in_err-flush_buf.field-0.0 in
    let v = c.args.w.now in
    let w = c.flush_buf.new.self in
    let e = flush_step v w (failed f) c.in_err-flush_buf.ensures.told c.requires.sound in
    rw (p.1, p.2) (step_stopped v w (failed f) (λ u. flush_buf v.script.now u) e c.requires.sound (flush_leaves v w (failed f) c.in_err-flush_buf.ensures.told c.requires.sound) _ (failed_not_ok f))

pub send_lines-requires-clause-fit : goal.send_lines-requires-clause-fit
send_lines-requires-clause-fit c = fit_on _ _ _ c.flush_buf.ensures.lent (flush_ready _ _ _ c.args.w.now.state (left done c.flush_buf.new.self) _ _ c.in_ok-flush_buf.ensures.told c.requires.sound refl).0

pub send_lines-requires-clause-empty : goal.send_lines-requires-clause-empty
send_lines-requires-clause-empty c = (flush_ready _ _ _ c.args.w.now.state (left done c.flush_buf.new.self) _ _ c.in_ok-flush_buf.ensures.told c.requires.sound refl).1

pub returns-clause-told : goal.returns-clause-told
returns-clause-told c =
    let v = c.args.w.now in
    let w = c.flush_buf.new.self in
    let flushed = c.in_ok-flush_buf.ensures.told in
    next_going v w done (λ u. flush_buf v.script.now u) (flush_step v w done flushed c.requires.sound) c.requires.sound (flush_leaves v w done flushed c.requires.sound) refl _ _ (rw c.flush_buf.ensures.lent.script at c.send_lines.ensures.told)
