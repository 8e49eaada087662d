-- `card::limits::Numbers::check` meets its contract: each answer is the table's row that the tests lead to. Assumes nothing.
use mathlib.Core.Path.{sym}
use mathlib.Core.Logic.{inl, inr}
use Rattle.card.proofs.Refusals.{row_1, row_5, row_8, within_limits}
use Rattle.card.proofs.limits.Numbers.check.Goals as goal
use Rattle.card.proofs.limits.Numbers.check.Goals.{then-self-via-then-self, then-self-via-else-self+then-self-2, then-self-via-else-self+else-self-2+then-self-3, then-self-via-else-self+else-self-2+else-self-3+then-self-4}

pub returns-then-self-gt-CAPACITY_MOST : goal.returns-then-self-gt-CAPACITY_MOST
returns-then-self-gt-CAPACITY_MOST c = row_1 c.args.self.capacity _ _ _ _ _ _ 0 c.if-self-gt-CAPACITY_MOST.true

pub returns-then-self-gt-SCRIPT_MOST : goal.returns-then-self-gt-SCRIPT_MOST
returns-then-self-gt-SCRIPT_MOST c = row_5 c.args.self.capacity _ _ _ _ _ _ 0 c.if-self-gt-CAPACITY_MOST.false c.then-self-gt-SCRIPT_MOST.either

pub returns-then-self : goal.returns-then-self
returns-then-self c =
    row_8 c.args.self.capacity _ _ _ _ _ _ 0 c.if-self-gt-CAPACITY_MOST.false c.if-self-gt-SCRIPT_MOST.false c.if-self-gt-BYTES_MOST.false
    (elim c.then-self.branch [
      | then-self-via-then-self w ↦ inl w.if-self.true
      | then-self-via-else-self+then-self-2 w ↦ inr (inl (w.if-self.false, w.if-self-2.true))
      | then-self-via-else-self+else-self-2+then-self-3 w ↦ inr (inr (inl (w.if-self.false, (w.if-self-2.false, w.if-self-3.true))))
      | then-self-via-else-self+else-self-2+else-self-3+then-self-4 w ↦ inr (inr (inr (w.if-self.false, (w.if-self-2.false, (w.if-self-3.false, w.if-self-4.true)))))
    ])

pub returns : goal.returns
returns c = sym (within_limits _ _ _ _ _ _ _ c.if-self-gt-CAPACITY_MOST.false c.if-self-gt-SCRIPT_MOST.false c.if-self-gt-BYTES_MOST.false c.if-self.false c.if-self-2.false c.if-self-3.false c.if-self-4.false)
