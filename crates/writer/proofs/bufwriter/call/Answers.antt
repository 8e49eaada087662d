-- `writer::bufwriter::call` meets its contract. Assumes nothing.
use Rattle.std.proofs.lemmas.Result.{err_from_is_err_and}
use Rattle.flushing.proofs.Calls.{refused_told, own_told, unrefused_told}
use Rattle.writer.proofs.bufwriter.call.Goals as goal

pub returns-in_err-check-clause-told : goal.returns-in_err-check-clause-told
returns-in_err-check-clause-told g c =
    let p = err_from_is_err_and c.from_residual.result c.from_residual.ensures.1 in
    rw (p.1, p.2, g.met.T.Success.says_failed _) (refused_told c.args.w.now _ c.numbers.ensures _ _ _ c.in_err-check.ensures)

pub returns-in_err-check_length-clause-told : goal.returns-in_err-check_length-clause-told
returns-in_err-check_length-clause-told g c =
    let p = err_from_is_err_and c.from_residual-in_err-check_length.result c.from_residual-in_err-check_length.ensures.1 in
    rw (p.1, p.2, g.met.T.Success.says_failed _) (own_told c.args.w.now _ c.numbers.ensures c.in_ok-check.ensures _ _ _ c.in_err-check_length.ensures)

pub returns-clause-told : goal.returns-clause-told
returns-clause-told g c = unrefused_told c.args.w.now _ c.numbers.ensures c.in_ok-check.ensures _ _ _ c.in_ok-check_length.ensures c.unrefused.ensures.told
