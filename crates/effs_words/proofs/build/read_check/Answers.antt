use Rattle.std.proofs.Common.{arith, inl}
use Rattle.std.specs.Prelude.{string_bytes}
use Rattle.std.proofs.lemmas.Grind.{common_steps}
use Rattle.effs_words.proofs.Shapes.{check_alone, check_more}
use Rattle.effs_words.proofs.build.read_check.Goals as goal

pub returns-then-is_empty : goal.returns-then-is_empty
returns-then-is_empty c = λ word named. check_alone string_bytes word c.args.words.now (grind (arith, common_steps)) named

pub returns-else-is_empty : goal.returns-else-is_empty
returns-else-is_empty c = λ word named. inl (check_more string_bytes word c.args.words.now (grind (arith, common_steps)) named)
