use Rattle.call_steps.proofs.Orders.{argument_behind}
use Rattle.call_steps.proofs.laws.law_arguments.Goals as goal

pub returns : goal.returns
returns c = argument_behind
