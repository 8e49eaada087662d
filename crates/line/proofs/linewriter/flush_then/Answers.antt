-- `line::linewriter::flush_then` meets its contract. Assumes nothing.
use mathlib.Core.Path.{refl}
use native.Mathlib.Omega.{arith}
use Rattle.std.proofs.lemmas.Result.{err_from_is_err_and}
use Rattle.card.specs.Answers.{done, failed}
use Rattle.flushing.specs.Flush.{flush_buf}
use Rattle.writer.proofs.Calls.{failed_not_ok}
use Rattle.line.proofs.Lines.{flush_step, flush_leaves, flush_few, step_stopped, next_sound, next_few, next_counted, plain_is, short}
use Rattle.line.proofs.linewriter.flush_then.Goals as goal

pub returns-in_err-flush_buf-clause-told : goal.returns-in_err-flush_buf-clause-told
returns-in_err-flush_buf-clause-told g c =
    let p = err_from_is_err_and c.from_residual.result c.from_residual.ensures.1 in
    let f = c.in_err-flush_buf.field-0.0 in
    let v = c.args.w.now in
    let e = flush_step v c.flush_buf.new.self (failed f) c.in_err-flush_buf.ensures.told c.requires.sound in
    rw (p.1, p.2, g.met.T.Success.says_failed f) (step_stopped v c.flush_buf.new.self (failed f) (λ u. flush_buf v.script.now u) e c.requires.sound (flush_leaves v c.flush_buf.new.self (failed f) c.in_err-flush_buf.ensures.told c.requires.sound) _ (failed_not_ok f))

pub overflow_add-w : goal.overflow_add-w
overflow_add-w g c =
    let v = c.args.w.now in
    let w = c.flush_buf.new.self in
    let flushed = c.in_ok-flush_buf.ensures.told in
    let sound = c.requires.sound in
    let e = flush_step v w done flushed sound in
    let leaves = flush_leaves v w done flushed sound in
    let s = c.args.slice.now in
    let b = plain_is w c.plain-answer.new.w _ v.script.now _ (λ u. g.T.Plain.call v.script.now u s) (rw c.flush_buf.ensures.lent.script at c.plain-answer.ensures.told) (short s c.requires.short) (next_sound v w done (λ u. flush_buf v.script.now u) e sound leaves refl) in
    let few = next_few v w done (λ u. flush_buf v.script.now u) e sound leaves refl c.plain-answer.new.w _ (λ u. g.T.Plain.call v.script.now u s) b (λ u. g.met.T.Plain.reports v.script.now s u) (λ u. g.met.T.Plain.uses v.script.now s u) in
    omega (arith, few, flush_few v w done flushed sound)

pub returns-clause-told : goal.returns-clause-told
returns-clause-told g c =
    let v = c.args.w.now in
    let w = c.flush_buf.new.self in
    let flushed = c.in_ok-flush_buf.ensures.told in
    let sound = c.requires.sound in
    let e = flush_step v w done flushed sound in
    let leaves = flush_leaves v w done flushed sound in
    let s = c.args.slice.now in
    let b = plain_is w c.plain-answer.new.w _ v.script.now _ (λ u. g.T.Plain.call v.script.now u s) (rw c.flush_buf.ensures.lent.script at c.plain-answer.ensures.told) (short s c.requires.short) (next_sound v w done (λ u. flush_buf v.script.now u) e sound leaves refl) in
    next_counted v w done (λ u. flush_buf v.script.now u) e sound leaves refl c.plain-answer.new.w _ (λ u. g.T.Plain.call v.script.now u s) b (g.met.T.Plain.counting v.script.now s) _ refl
