-- `card::device::read` meets its contract. Assumes nothing.
use lib.ListN.{length}
use Rattle.card.proofs.Replies.{carried, rest_from, rest_offered, rest_fits}
use Rattle.card.proofs.device.read.Goals as goal

pub returns : goal.returns
returns c =
    let from = c.min.ensures in
    let stock = c.args.stock.now in
    carried _ _ _ _ _ _ _ _ _ _ _ _ c.ask-e.ensures c.copy.ensures c.moved.ensures
    (rest_offered (length c.args.room.now) _ _ _ stock from c.min-2.ensures)
    (rest_fits (length c.args.room.now) _ _ stock from)
    (rest_from _ _ stock from)
