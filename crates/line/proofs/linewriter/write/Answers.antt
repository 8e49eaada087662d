-- `line::linewriter::write` meets its contract. Assumes nothing.
use Rattle.std.proofs.lemmas.Result.{err_from_is_err_and}
use Rattle.flushing.proofs.Calls.{refused_told, own_told, unrefused_told, sound_here, limits}
use Rattle.writer.specs.Writer.{write_call}
use Rattle.line.specs.Line.{line_write_call}
use Rattle.line.proofs.Lines.{unrefused_short, plain_is, lines_within, line_lines, line_completed, line_plain, short}
use Rattle.line.proofs.linewriter.write.Goals as goal

pub returns-in_err-check-clause-told : goal.returns-in_err-check-clause-told
unfolding line_write_call
returns-in_err-check-clause-told c =
    let p = err_from_is_err_and c.from_residual.result c.from_residual.ensures.1 in
    rw (p.1, p.2) (refused_told c.args.w.now _ c.numbers.ensures _ _ _ c.in_err-check.ensures)

pub returns-in_err-check_length-clause-told : goal.returns-in_err-check_length-clause-told
unfolding line_write_call
returns-in_err-check_length-clause-told c =
    let p = err_from_is_err_and c.from_residual-in_err-check_length.result c.from_residual-in_err-check_length.ensures.1 in
    rw (p.1, p.2) (own_told c.args.w.now _ c.numbers.ensures c.in_ok-check.ensures _ _ _ c.in_err-check_length.ensures)

pub ends_line-requires : goal.ends_line-requires
ends_line-requires c = (limits _ _ (sound_here c.args.w.now _ c.numbers.ensures c.in_ok-check.ensures)).filled_fits

pub flush_then-requires-clause-sound : goal.flush_then-requires-clause-sound
flush_then-requires-clause-sound c = sound_here c.args.w.now _ c.numbers.ensures c.in_ok-check.ensures

pub flush_then-requires-clause-short : goal.flush_then-requires-clause-short
flush_then-requires-clause-short c = unrefused_short _ c.in_ok-check_length.ensures

pub returns-then-ends_line-clause-told : goal.returns-then-ends_line-clause-told
unfolding line_write_call
returns-then-ends_line-clause-told c = unrefused_told c.args.w.now _ c.numbers.ensures c.in_ok-check.ensures _ _ _ c.in_ok-check_length.ensures (line_completed _ _ _ _ c.lines_length-e.ensures c.if-e-ne0.false _ c.ends_line.ensures _ c.if-ends_line.true c.flush_then.ensures.told)

pub returns-clause-told : goal.returns-clause-told
unfolding line_write_call write_call
returns-clause-told c =
    let v = c.args.w.now in
    unrefused_told v _ c.numbers.ensures c.in_ok-check.ensures _ _ _ c.in_ok-check_length.ensures (line_plain _ _ _ _ c.lines_length-e.ensures c.if-e-ne0.false _ c.ends_line.ensures _ c.if-ends_line.false (plain_is v c.write.new.w _ _ _ _ c.write.ensures.told (short _ (unrefused_short _ c.in_ok-check_length.ensures)) (sound_here v _ c.numbers.ensures c.in_ok-check.ensures)))

pub flush_then_lines-requires-clause-sound : goal.flush_then_lines-requires-clause-sound
flush_then_lines-requires-clause-sound c = sound_here c.args.w.now _ c.numbers.ensures c.in_ok-check.ensures

pub flush_then_lines-requires-clause-within : goal.flush_then_lines-requires-clause-within
flush_then_lines-requires-clause-within c = lines_within _ _ c.lines_length-e.ensures

pub returns-then-e-ne0-clause-told : goal.returns-then-e-ne0-clause-told
unfolding line_write_call
returns-then-e-ne0-clause-told c = unrefused_told c.args.w.now _ c.numbers.ensures c.in_ok-check.ensures _ _ _ c.in_ok-check_length.ensures (line_lines _ _ _ _ c.lines_length-e.ensures _ c.if-e-ne0.true c.flush_then_lines.ensures.told)
