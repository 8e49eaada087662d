-- `judge::judge` meets its contract. Assumes nothing.
use mathlib.Core.Path.{sym, ◌∙◌}
use Rattle.std.proofs.lemmas.Bool.{iff_false}
use Rattle.numbers.proofs.Most.{handed_on}
use Rattle.judge.proofs.Verdicts.{rules_differ, rules_possible, rules_impossible, judged_whole, judged_fault, whole_fits}
use Rattle.judge.proofs.judge.Goals as goal

pub returns-in_err-header : goal.returns-in_err-header
returns-in_err-header c = judged_fault _ _ _ (sym c.in_err-header.was ∙ c.check.ensures) (handed_on _ _ c.from_residual.ensures.1)

pub compare-requires : goal.compare-requires
compare-requires c = (whole_fits _ _ (sym c.in_ok-header.was ∙ c.check.ensures)).1

pub reach-requires : goal.reach-requires
reach-requires c = (whole_fits _ _ (sym c.in_ok-header.was ∙ c.check.ensures)).0

pub returns-in_default : goal.returns-in_default
returns-in_default c = judged_whole _ _ _ (sym c.in_ok-header.was ∙ c.check.ensures) (rules_differ _ _ c.in_default.ensures)

pub returns-then-has : goal.returns-then-has
returns-then-has c = judged_whole _ _ _ (sym c.in_ok-header.was ∙ c.check.ensures) (rules_possible _ _ _ _ _ c.in-Some.ensures c.reach.ensures c.saturating_sub-held.ensures (c.has.ensures.0 c.if-has.true))

pub returns-else-has : goal.returns-else-has
returns-else-has c = judged_whole _ _ _ (sym c.in_ok-header.was ∙ c.check.ensures) (rules_impossible _ _ _ _ _ c.in-Some.ensures c.reach.ensures c.saturating_sub-held.ensures (iff_false c.has.ensures c.if-has.false))
