use Rattle.std.proofs.Common.{sym, ◌∙◌}
use Rattle.effsan_top.proofs.Outcomes.{not_five}
use Rattle.effsan_top.proofs.still.written.Goals as goal

pub returns-in-Ok-clause-cause : goal.returns-in-Ok-clause-cause
returns-in-Ok-clause-cause g c five = absurd (not_five c.args.answer.run.endings (sym c.status_of_run.ensures ∙ five))

pub returns-in-Ok-clause-told : goal.returns-in-Ok-clause-told
returns-in-Ok-clause-told g c five = absurd (not_five c.args.answer.run.endings (sym c.status_of_run.ensures ∙ five))

pub returns-clause-whole : goal.returns-clause-whole
returns-clause-whole g c is = absurd (not_five c.args.answer.run.endings (sym is ∙ c.status.ensures))

pub returns-clause-silent : goal.returns-clause-silent
returns-clause-silent g c is = absurd (not_five c.args.answer.run.endings (sym is ∙ c.status.ensures))
