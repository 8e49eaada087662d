-- `line::linewriter::write_all` meets its contract. Assumes nothing.
use Rattle.std.proofs.lemmas.Result.{err_from_is_err_and}
use Rattle.flushing.proofs.Calls.{refused_told, own_told, unrefused_told, sound_here, limits}
use Rattle.writer.specs.Writer.{write_all_call}
use Rattle.line.specs.Line.{line_write_all_call}
use Rattle.line.proofs.Lines.{unrefused_short, plain_is, lines_within, line_all_direct, line_all_through, line_all_completed, line_all_plain, short}
use Rattle.line.proofs.linewriter.write_all.Goals as goal

pub returns-in_err-check-clause-told : goal.returns-in_err-check-clause-told
unfolding line_write_all_call
returns-in_err-check-clause-told c =
    let p = err_from_is_err_and c.from_residual.result c.from_residual.ensures.1 in
    rw (p.1, p.2) (refused_told c.args.w.now _ c.numbers.ensures _ _ _ c.in_err-check.ensures)

pub returns-in_err-check_length-clause-told : goal.returns-in_err-check_length-clause-told
unfolding line_write_all_call
returns-in_err-check_length-clause-told c =
    let p = err_from_is_err_and c.from_residual-in_err-check_length.result c.from_residual-in_err-check_length.ensures.1 in
    rw (p.1, p.2) (own_told c.args.w.now _ c.numbers.ensures c.in_ok-check.ensures _ _ _ c.in_err-check_length.ensures)

pub ends_line-requires : goal.ends_line-requires
ends_line-requires c = (limits _ _ (sound_here c.args.w.now _ c.numbers.ensures c.in_ok-check.ensures)).filled_fits

pub flush_then-requires-clause-sound : goal.flush_then-requires-clause-sound
flush_then-requires-clause-sound c = sound_here c.args.w.now _ c.numbers.ensures c.in_ok-check.ensures

pub flush_then-requires-clause-short : goal.flush_then-requires-clause-short
flush_then-requires-clause-short c = unrefused_short _ c.in_ok-check_length.ensures

pub returns-then-ends_line-clause-told : goal.returns-then-ends_line-clause-told
unfolding line_write_all_call
returns-then-ends_line-clause-told c = unrefused_told c.args.w.now _ c.numbers.ensures c.in_ok-check.ensures _ _ _ c.in_ok-check_length.ensures (line_all_completed _ _ _ _ c.lines_length-e.ensures c.if-e-ne0.false _ c.ends_line.ensures _ c.if-ends_line.true c.flush_then.ensures.told)

pub returns-clause-told : goal.returns-clause-told
unfolding line_write_all_call write_all_call
returns-clause-told c =
    let v = c.args.w.now in
    unrefused_told v _ c.numbers.ensures c.in_ok-check.ensures _ _ _ c.in_ok-check_length.ensures (line_all_plain _ _ _ _ c.lines_length-e.ensures c.if-e-ne0.false _ c.ends_line.ensures _ c.if-ends_line.false (plain_is v c.write_all.new.w _ _ _ _ c.write_all.ensures.told (short _ (unrefused_short _ c.in_ok-check_length.ensures)) (sound_here v _ c.numbers.ensures c.in_ok-check.ensures)))

pub lines_direct-requires-clause-sound : goal.lines_direct-requires-clause-sound
lines_direct-requires-clause-sound c = sound_here c.args.w.now _ c.numbers.ensures c.in_ok-check.ensures

pub lines_direct-requires-clause-short : goal.lines_direct-requires-clause-short
lines_direct-requires-clause-short c = unrefused_short _ c.in_ok-check_length.ensures

pub lines_direct-requires-clause-within : goal.lines_direct-requires-clause-within
lines_direct-requires-clause-within c = lines_within _ _ c.lines_length-e.ensures

pub lines_through-requires-clause-sound : goal.lines_through-requires-clause-sound
lines_through-requires-clause-sound c = sound_here c.args.w.now _ c.numbers.ensures c.in_ok-check.ensures

pub lines_through-requires-clause-short : goal.lines_through-requires-clause-short
lines_through-requires-clause-short c = unrefused_short _ c.in_ok-check_length.ensures

pub lines_through-requires-clause-within : goal.lines_through-requires-clause-within
lines_through-requires-clause-within c = lines_within _ _ c.lines_length-e.ensures

pub returns-then-w-eq0-clause-told : goal.returns-then-w-eq0-clause-told
unfolding line_write_all_call
returns-then-w-eq0-clause-told c = unrefused_told c.args.w.now _ c.numbers.ensures c.in_ok-check.ensures _ _ _ c.in_ok-check_length.ensures (line_all_direct _ _ _ _ c.lines_length-e.ensures _ c.if-e-ne0.true c.if-w-eq0.true c.lines_direct.ensures.told)

pub returns-then-e-ne0-clause-told : goal.returns-then-e-ne0-clause-told
unfolding line_write_all_call
returns-then-e-ne0-clause-told c = unrefused_told c.args.w.now _ c.numbers.ensures c.in_ok-check.ensures _ _ _ c.in_ok-check_length.ensures (line_all_through _ _ _ _ c.lines_length-e.ensures _ c.if-e-ne0.true c.if-w-eq0.false c.lines_through.ensures.told)
