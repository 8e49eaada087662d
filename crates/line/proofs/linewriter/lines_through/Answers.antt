-- `line::linewriter::lines_through` meets its contract. Assumes nothing.
use mathlib.Core.Path.{refl}
use native.Mathlib.Omega.{arith}
use lib.ListN.{take, drop}
use Rattle.std.proofs.lemmas.Result.{err_from_is_err_and}
use Rattle.card.specs.Answers.{done, failed}
use Rattle.flushing.specs.World.{World, and_then}
use Rattle.flushing.specs.Flush.{flush_buf}
use Rattle.flushing.proofs.Calls.{sound_fit}
use Rattle.flushing.proofs.Laters.{flush_later, then_later}
use Rattle.flushing.proofs.Counts.{flush_buf_counts, then_counts, flush_buf_uses, then_uses}
use Rattle.writer.specs.Writer.{write_all}
use Rattle.writer.proofs.Goes.{write_all_goes}
use Rattle.writer.proofs.Laters.{write_all_later}
use Rattle.writer.proofs.Counts.{write_all_counts, write_all_uses}
use Rattle.writer.proofs.Calls.{failed_not_ok, sound_lent}
use Rattle.line.proofs.Lines.{through_step, step_few, step_stopped, next_sound, next_few, next_counted, flushed_rest, short_rest}
use Rattle.line.proofs.linewriter.lines_through.Goals as goal

pub returns-in_err-write_all-clause-told : goal.returns-in_err-write_all-clause-told
returns-in_err-write_all-clause-told c =
    let p = err_from_is_err_and c.from_residual.result c.from_residual.ensures.1 in
    let f = c.in_err-write_all.field-0.0 in
    let v = c.args.w.now in
    let e = through_step v c.write_all.new.w _ c.args.e c.args.slice.now c.in_err-write_all.ensures.told c.requires.short c.requires.sound in
    rw (p.1, p.2) (step_stopped v c.write_all.new.w (failed f) (λ (u : World). write_all v.script.now u (take c.args.e c.args.slice.now)) e c.requires.sound (write_all_goes _ _ _ (sound_fit _ _ c.requires.sound (omega arith))) _ (failed_not_ok f))

pub flush_then-answer-requires-clause-sound : goal.flush_then-answer-requires-clause-sound
flush_then-answer-requires-clause-sound c =
    let v = c.args.w.now in
    let e = through_step v c.write_all.new.w _ c.args.e c.args.slice.now c.in_ok-write_all.ensures.told c.requires.short c.requires.sound in
    sound_lent v c.write_all.new.w _ c.write_all.ensures.lent (next_sound v c.write_all.new.w done (λ (u : World). write_all v.script.now u (take c.args.e c.args.slice.now)) e c.requires.sound (write_all_goes _ _ _ (sound_fit _ _ c.requires.sound (omega arith))) refl)

pub flush_then-answer-requires-clause-short : goal.flush_then-answer-requires-clause-short
flush_then-answer-requires-clause-short c = short_rest c.args.e c.args.slice.now c.requires.short

pub overflow_add-w : goal.overflow_add-w
overflow_add-w c =
    let v = c.args.w.now in
    let script = v.script.now in
    let s = c.args.slice.now in
    let first = λ (u : World). write_all script u (take c.args.e s) in
    let e = through_step v c.write_all.new.w _ c.args.e s c.in_ok-write_all.ensures.told c.requires.short c.requires.sound in
    let goes = write_all_goes script _ (take c.args.e s) (sound_fit _ _ c.requires.sound (omega arith)) in
    let b = flushed_rest v c.write_all.new.w c.flush_then-answer.new.w _ c.args.e s c.write_all.ensures.lent c.flush_then-answer.ensures.told in
    let few = next_few v c.write_all.new.w done first e c.requires.sound goes refl c.flush_then-answer.new.w _ (λ (u : World). and_then (flush_buf script u) (λ (x : World). write_all script x (drop c.args.e s))) b
    (λ (u : World). then_counts u _ _ (flush_buf_counts script u) (λ (x : World). write_all_counts script x (drop c.args.e s)))
    (λ (u : World). then_uses script u _ _ (flush_buf_uses script u) (λ (x : World). write_all_uses script x (drop c.args.e s))) in
    let one = step_few v c.write_all.new.w done first (λ (u : World). write_all_counts script u (take c.args.e s)) (λ (u : World). write_all_uses script u (take c.args.e s)) e c.requires.sound in
    omega (arith, few, one)

pub returns-clause-told : goal.returns-clause-told
returns-clause-told c =
    let v = c.args.w.now in
    let script = v.script.now in
    let s = c.args.slice.now in
    let first = λ (u : World). write_all script u (take c.args.e s) in
    let e = through_step v c.write_all.new.w _ c.args.e s c.in_ok-write_all.ensures.told c.requires.short c.requires.sound in
    let goes = write_all_goes script _ (take c.args.e s) (sound_fit _ _ c.requires.sound (omega arith)) in
    let b = flushed_rest v c.write_all.new.w c.flush_then-answer.new.w _ c.args.e s c.write_all.ensures.lent c.flush_then-answer.ensures.told in
    next_counted v c.write_all.new.w done first e c.requires.sound goes refl c.flush_then-answer.new.w _ (λ (u : World). and_then (flush_buf script u) (λ (x : World). write_all script x (drop c.args.e s))) b (then_later (λ (u : World). flush_buf script u) (λ (x : World). write_all script x (drop c.args.e s)) (flush_later script) (write_all_later script (drop c.args.e s))) _ refl
