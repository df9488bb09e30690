use Rattle.tree_walk.proofs.Workers.{worked_out}
use Rattle.tree_walk.proofs.running.worker.Goals as goal

pub returns-clause-worked : goal.returns-clause-worked
returns-clause-worked c =
    let new = c.in_ok-walk.ensures {u = tt} in
    (worked_out c.in_ok-walk.walk c.statement-left.new.self c.args.turns c.args.function.now c.statement-left.result c.in_ok-ending.ending
    (record { variables = new.variables; text = new.text; left = new.left; heaps = new.heaps }) c.statement-left.ensures.walks (c.in_ok-ending.ensures {u = tt})).worked

pub returns-clause-alone : goal.returns-clause-alone
returns-clause-alone c =
    let new = c.in_ok-walk.ensures {u = tt} in
    (worked_out c.in_ok-walk.walk c.statement-left.new.self c.args.turns c.args.function.now c.statement-left.result c.in_ok-ending.ending
    (record { variables = new.variables; text = new.text; left = new.left; heaps = new.heaps }) c.statement-left.ensures.walks (c.in_ok-ending.ensures {u = tt})).alone
