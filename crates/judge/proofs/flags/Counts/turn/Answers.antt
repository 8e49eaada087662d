-- `judge::flags::Counts::turn` meets its contract. Assumes nothing.
use borrow.Author.Rules.{rules}
use Rattle.judge.proofs.Turns.{none_turned, turned_no_stop, turned_stop}
use Rattle.judge.proofs.flags.Counts.turn.Goals as goal

pub returns-in_default-clause-flags : goal.returns-in_default-clause-flags
returns-in_default-clause-flags c = none_turned _ c.args.call.now _ c.in_default.ensures

pub returns-then-stops-clause-flags : goal.returns-then-stops-clause-flags
returns-then-stops-clause-flags c = turned_stop _ c.args.call.now _ _ _ _ c.in-Some.ensures c.stored-self.ensures c.empties.ensures (search rules) (search rules) _ c.if-stops.ensures (c.fill.ensures.after (λ y e. e))

pub returns-else-stops-clause-flags : goal.returns-else-stops-clause-flags
returns-else-stops-clause-flags c = turned_no_stop _ c.args.call.now _ _ _ _ c.in-Some.ensures c.stored-self.ensures c.empties.ensures (search rules) (search rules) c.if-stops.ensures
