-- `session::print` meets its contract. Assumes nothing.
use mathlib.Core.Path.{sym, ap, ◌∙◌}
use Rattle.std.specs.Prelude.{Ok}
use Rattle.form.specs.declared.Checked.{Checked}
use Rattle.session.proofs.Shows.{prints_trace}
use Rattle.session.proofs.print.Goals as goal

pub returns-in-Ok-Traced : goal.returns-in-Ok-Traced
returns-in-Ok-Traced c = prints_trace _ _ _ _ _ (sym (c.in-Ok-Traced.is ∙ ap (λ (x : Checked). Ok x) c.in-Ok-Traced.field-0-is) ∙ c.check.ensures) c.part.ensures c.rule.ensures
