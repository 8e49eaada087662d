-- `card::limits::Numbers::refusal` meets its contract. Assumes nothing.
use mathlib.Core.Path.{sym, ap, ◌∙◌}
use Rattle.card.specs.Limits.{refusal_by}
use Rattle.card.proofs.Refusals.{own_row, other_row, refusal_some}
use Rattle.card.proofs.limits.Numbers.refusal.Goals as goal

pub returns-in-Ok : goal.returns-in-Ok
returns-in-Ok c = own_row _ _ _ _ _ _ _ _ (sym c.check.ensures ∙ ap refusal_by c.in-Ok.is)

pub returns-in-Err : goal.returns-in-Err
returns-in-Err c = other_row _ _ _ _ _ _ _ _ c.number.result (c.number.ensures ∙ ap refusal_by (sym c.in-Err.is) ∙ c.check.ensures) (refusal_some _ _ c.number.ensures)
