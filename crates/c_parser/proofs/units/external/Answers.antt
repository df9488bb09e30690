use Rattle.std.proofs.Common.{rules, arith}
use Rattle.std.proofs.lemmas.Grind.{common_steps}
use Rattle.c_parser.proofs.UnitSteps.{external_read}
use Rattle.c_parser.proofs.units.external.Goals as goal

pub returns-in_err-specs : goal.returns-in_err-specs
returns-in_err-specs c = external_read _ _ _ (first_of (search rules, grind (arith, common_steps)))

pub returns-then-sees_mark : goal.returns-then-sees_mark
returns-then-sees_mark c = external_read _ _ _ (first_of (search rules, grind (arith, common_steps)))

pub returns-in_err-first : goal.returns-in_err-first
returns-in_err-first c = external_read _ _ _ (first_of (search rules, grind (arith, common_steps)))

pub returns-in_err-body : goal.returns-in_err-body
returns-in_err-body c = external_read _ _ _ (first_of (search rules, grind (arith, common_steps)))

pub returns-then-sees_mark-2 : goal.returns-then-sees_mark-2
returns-then-sees_mark-2 c = external_read _ _ _ (first_of (search rules, grind (arith, common_steps)))

pub returns-in_err-declarators : goal.returns-in_err-declarators
returns-in_err-declarators c = external_read _ _ _ (first_of (search rules, grind (arith, common_steps)))

pub returns : goal.returns
returns c = external_read _ _ _ (first_of (search rules, grind (arith, common_steps)))
