-- `text::Page::failure` meets its contract. Assumes nothing.
use mathlib.Core.Path.{ap, ◌∙◌}
use Rattle.card.specs.declared.Failure.{Failure}
use Rattle.card.specs.Answers.{failed}
use Rattle.text.specs.Answers.{said_of}
use Rattle.text.proofs.Prints.{same_text}
use Rattle.text.proofs.Saids.{said_interrupted, said_refused}
use Rattle.text.proofs.Page.failure.Goals as goal

pub returns-in-Interrupted : goal.returns-in-Interrupted
returns-in-Interrupted c = same_text _ _ _ _ c.say.ensures (ap (λ (f : Failure). said_of (failed f)) c.in-Interrupted.is ∙ said_interrupted)

pub returns-in-Refused : goal.returns-in-Refused
returns-in-Refused c = same_text _ _ _ _ c.say_number-in-Refused.ensures (ap (λ (f : Failure). said_of (failed f)) c.in-Refused.is ∙ said_refused _)
