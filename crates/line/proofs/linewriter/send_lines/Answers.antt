-- `line::linewriter::send_lines` meets its contract. Assumes nothing.
use mathlib.Core.Path.{sym, ap}
use native.Mathlib.Omega.{arith}
use lib.ListN.{take}
use lib.Seq.{length-take-le}
use Rattle.std.proofs.lemmas.Result.{err_from_is_err_and}
use Rattle.card.specs.Device.{moves}
use Rattle.line.proofs.Lines.{lines_taken, tail_most, lines_kept, lines_stopped}
use Rattle.writer.proofs.Calls.{device_room}
use Rattle.line.proofs.linewriter.send_lines.Goals as goal

pub slice_bounds-write-end : goal.slice_bounds-write-end
slice_bounds-write-end c = sym (length-take-le _ _ c.requires.within)

pub returns-in_err-f-clause-told : goal.returns-in_err-f-clause-told
returns-in_err-f-clause-told c =
    let p = err_from_is_err_and c.from_residual.result c.from_residual.ensures.1 in
    rw (p.1, p.2) (lines_stopped _ _ _ _ c.args.w.now.state _ _ _ c.write-x.ensures.0 _ c.write-x.ensures.1 _ c.in_err-f.was)

pub tail_kept-kept-requires : goal.tail_kept-kept-requires
tail_kept-kept-requires c =
    let w = c.args.w.now in
    (lines_taken _ w.storage.now w.medium.now c.args.slice.now w.state c.args.e w.calls _ c.write-x.ensures.0 _ c.in_ok-f.was, c.requires.within)

pub slice_bounds-copy-count : goal.slice_bounds-copy-count
slice_bounds-copy-count c =
    let w = c.args.w.now in
    let h = lines_taken _ w.storage.now w.medium.now c.args.slice.now w.state c.args.e w.calls _ c.write-x.ensures.0 _ c.in_ok-f.was in
    omega (arith, h, c.requires.within)

pub slice_bounds-copy-start : goal.slice_bounds-copy-start
slice_bounds-copy-start c =
    let w = c.args.w.now in
    let h = lines_taken _ w.storage.now w.medium.now c.args.slice.now w.state c.args.e w.calls _ c.write-x.ensures.0 _ c.in_ok-f.was in
    omega (arith, h, c.requires.within)

pub overflow_add-w-3 : goal.overflow_add-w-3
overflow_add-w-3 c =
    let w = c.args.w.now in
    let h = device_room _ (take c.args.e c.args.slice.now) w.medium.now _ w.state.out _ _ c.write-x.ensures.0 (sym (ap moves c.in_ok-f.was)) c.requires.fit.out in
    omega (arith, h)

pub overflow_add-result : goal.overflow_add-result
overflow_add-result c =
    let w = c.args.w.now in
    let h = tail_most _ _ _ _ _ c.tail_kept-kept.ensures (lines_taken _ w.storage.now w.medium.now c.args.slice.now w.state c.args.e w.calls _ c.write-x.ensures.0 _ c.in_ok-f.was) c.requires.within in
    omega (arith, h.1)

pub returns-clause-told : goal.returns-clause-told
returns-clause-told c = lines_kept _ _ _ _ c.args.w.now.state _ _ _ c.write-x.ensures.0 _ c.write-x.ensures.1 _ _ _ c.in_ok-f.was c.tail_kept-kept.ensures c.copy.ensures c.requires.empty c.requires.within
