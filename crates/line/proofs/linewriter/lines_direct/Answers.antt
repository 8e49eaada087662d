-- `line::linewriter::lines_direct` meets its contract. Assumes nothing.
use mathlib.Core.Path.{refl}
use native.Mathlib.Omega.{arith}
use lib.ListN.{take, drop}
use Rattle.std.proofs.lemmas.Result.{err_from_is_err_and}
use Rattle.card.specs.Answers.{done, failed}
use Rattle.flushing.specs.World.{World}
use Rattle.writer.specs.Writer.{device_write_all, write_all}
use Rattle.writer.proofs.Goes.{device_all_goes}
use Rattle.writer.proofs.Laters.{write_all_later}
use Rattle.writer.proofs.Counts.{device_write_all_counts, device_write_all_uses, write_all_counts, write_all_uses}
use Rattle.writer.proofs.Calls.{failed_not_ok}
use Rattle.flushing.proofs.Calls.{sound_fit}
use Rattle.line.proofs.Lines.{step_few, step_stopped, next_sound, next_few, next_counted, plain_rest}
use Rattle.line.proofs.linewriter.lines_direct.Goals as goal

pub returns-in_err-device_write_all-clause-told : goal.returns-in_err-device_write_all-clause-told
returns-in_err-device_write_all-clause-told c =
    let p = err_from_is_err_and c.from_residual.result c.from_residual.ensures.1 in
    let f = c.in_err-device_write_all.field-0.0 in
    let v = c.args.w.now in
    let first = λ (u : World). device_write_all v.script.now u (take c.args.e c.args.slice.now) in
    rw (p.1, p.2) (step_stopped v c.device_write_all.new.w (failed f) first c.in_err-device_write_all.ensures.told c.requires.sound (device_all_goes _ _ _ (sound_fit _ _ c.requires.sound (omega arith))) _ (failed_not_ok f))

pub overflow_add-w : goal.overflow_add-w
overflow_add-w c =
    let v = c.args.w.now in
    let s = c.args.slice.now in
    let first = λ (u : World). device_write_all v.script.now u (take c.args.e s) in
    let e = c.in_ok-device_write_all.ensures.told in
    let goes = device_all_goes v.script.now _ (take c.args.e s) (sound_fit _ _ c.requires.sound (omega arith)) in
    let on = next_sound v c.device_write_all.new.w done first e c.requires.sound goes refl in
    let b = plain_rest v c.device_write_all.new.w c.write_all-answer.new.w _ c.args.e s c.device_write_all.ensures.lent c.write_all-answer.ensures.told c.requires.short on in
    let few = next_few v c.device_write_all.new.w done first e c.requires.sound goes refl c.write_all-answer.new.w _ (λ (u : World). write_all v.script.now u (drop c.args.e s)) b (λ (u : World). write_all_counts v.script.now u (drop c.args.e s)) (λ (u : World). write_all_uses v.script.now u (drop c.args.e s)) in
    let one = step_few v c.device_write_all.new.w done first (λ (u : World). device_write_all_counts v.script.now u (take c.args.e s)) (λ (u : World). device_write_all_uses v.script.now u (take c.args.e s)) e c.requires.sound in
    omega (arith, few, one)

pub returns-clause-told : goal.returns-clause-told
returns-clause-told c =
    let v = c.args.w.now in
    let s = c.args.slice.now in
    let first = λ (u : World). device_write_all v.script.now u (take c.args.e s) in
    let e = c.in_ok-device_write_all.ensures.told in
    let goes = device_all_goes v.script.now _ (take c.args.e s) (sound_fit _ _ c.requires.sound (omega arith)) in
    let on = next_sound v c.device_write_all.new.w done first e c.requires.sound goes refl in
    let b = plain_rest v c.device_write_all.new.w c.write_all-answer.new.w _ c.args.e s c.device_write_all.ensures.lent c.write_all-answer.ensures.told c.requires.short on in
    next_counted v c.device_write_all.new.w done first e c.requires.sound goes refl c.write_all-answer.new.w _ (λ (u : World). write_all v.script.now u (drop c.args.e s)) b (write_all_later v.script.now (drop c.args.e s)) _ refl
