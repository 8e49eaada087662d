-- `writer::way::UnitWay::direct` meets its contract. Assumes nothing.
use native.Mathlib.Omega.{arith}
use Rattle.card.specs.Answers.{said_done}
use Rattle.writer.specs.Writer.{device_write_all}
use Rattle.writer.proofs.Laters.{device_all_later}
use Rattle.writer.proofs.Calls.{direct_few, counted_on}
use Rattle.writer.proofs.way.UnitWay.direct.Goals as goal

pub overflow_add-w : goal.overflow_add-w
overflow_add-w c =
    let h = direct_few c.args.w.now c.device_write_all-answer.new.w c.args.slice.now _ c.requires c.device_write_all-answer.ensures.told in
    omega (arith, h)

pub returns-clause-told : goal.returns-clause-told
returns-clause-told c =
    let w = c.args.w.now in
    counted_on w c.device_write_all-answer.new.w (said_done c.device_write_all-answer.result) (λ u. device_write_all w.script.now u c.args.slice.now) (device_all_later w.script.now c.args.slice.now) c.device_write_all-answer.ensures.told
