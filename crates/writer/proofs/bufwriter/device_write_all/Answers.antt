-- `writer::bufwriter::device_write_all` meets its contract. Assumes nothing.
use native.Mathlib.Omega.{arith}
use Rattle.writer.proofs.Calls.{device_all_most, device_all_first, whole_says}
use Rattle.writer.proofs.bufwriter.device_write_all.Goals as goal

pub overflow_add-w : goal.overflow_add-w
overflow_add-w c =
    let w = c.args.w.now in
    let h = device_all_most _ c.args.slice.now w.medium.now _ w.state.out _ c.send_all-run.ensures.0 in
    omega (arith, h)

pub returns-clause-told : goal.returns-clause-told
returns-clause-told c = device_all_first _ _ _ _ c.args.w.now.state _ _ _ c.send_all-run.ensures.0 c.send_all-run.ensures.1 (whole_says _ _ c.map_err.ensures.cases)
