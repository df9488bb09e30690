use Rattle.std.proofs.Common.{◌∙◌, sym, subst}
use Rattle.whole_numbers.specs.Types.{IsValue, int}
use Rattle.whole_numbers.proofs.Tables.{truth_word, bool_kept}
use Rattle.whole_numbers.proofs.arithmetic.truth.Goals as goal

pub returns-clause-value : goal.returns-clause-value
returns-clause-value c = c.from.ensures ∙ sym (truth_word c.args.holds)

pub returns-clause-kept : goal.returns-clause-kept
returns-clause-kept c = subst (IsValue int) (sym c.from.ensures) (bool_kept c.args.holds)
