use Rattle.std.proofs.Common.{sym, ◌∙◌}
use Rattle.static_rules.specs.Expressions.{promoted_all}
use Rattle.call_steps.proofs.Promotions.{kinds_are}
use Rattle.call_steps.proofs.printing.fits.Goals as goal

pub returns : goal.returns
returns c line xs is =
    c.fit.ensures (promoted_all line xs) (kinds_are line xs c.args.arguments.now is ∙ sym c.as_slice.ensures)
