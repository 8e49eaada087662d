-- `reader::State::seek_relative` meets its contract. Assumes nothing.
use Rattle.reader.proofs.Refusals.{answered_so, checked, fails_with, pos_in, refused_first, refused_own}
use Rattle.reader.proofs.Seeks.{refusal_at, place_at}
use Rattle.reader.specs.Reader.{seek_relative}
use Rattle.reader.proofs.State.seek_relative.Goals as goal

pub returns-in_err-check : goal.returns-in_err-check
unfolding seek_relative
returns-in_err-check c = λ storage script stock q. rw (fails_with c.from_residual.ensures.1) (refused_first _ _ _ _ _ _ (checked _ _ _ c.args.self _ _ c.in_err-check.ensures q))

pub check_seek-requires : goal.check_seek-requires
check_seek-requires c = pos_in c.args.sizes c.args.self c.in_ok-check.ensures

pub returns-in_err-check_seek : goal.returns-in_err-check_seek
unfolding seek_relative
returns-in_err-check_seek c =
    let own = refusal_at _ c.ranges.offset _ _ c.in_err-check_seek.ensures in
    λ storage script stock q. rw (fails_with c.from_residual-in_err-check_seek.ensures.1) (refused_own _ _ _ _ _ _ (checked _ _ _ c.args.self _ _ c.in_ok-check.ensures q) own)

pub returns : goal.returns
unfolding seek_relative
returns c =
    let own = refusal_at _ c.ranges.offset _ _ c.in_ok-check_seek.ensures in
    λ storage script stock q. answered_so _ _ _ _ _ _ (checked _ _ _ c.args.self _ _ c.in_ok-check.ensures q) own (rw (place_at _ c.ranges.offset _ _ c.sought.ensures))
