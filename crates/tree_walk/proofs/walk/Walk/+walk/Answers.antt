use Rattle.std.proofs.Common.{◌≡◌, refl, length, Err, ap, sym, ◌∙◌, subst, arith}
use Rattle.std.specs.Prelude.{take}
use Rattle.std.proofs.lemmas.Result.{err_from_is_err_and}
use Rattle.plain_meaning.specs.declared.tree.Statement.TheVariants as s
use Rattle.plain_meaning.specs.Meaning.{statement}
use Rattle.tree_walk.specs.Steps.{Walks}
use Rattle.tree_walk.proofs.Passing.{in_words}
use Rattle.tree_walk.proofs.Loops.{block_more, block_stops, block_ends, loop_begins, loop_spent, loop_test_stops, loop_leaves, loop_stops, loop_again}
use Rattle.tree_walk.proofs.Branches.{if_true, if_false, if_stops, either_true, either_false, either_stops}
use Rattle.tree_walk.proofs.walk.Walk.+walk.Goals as goal

pub block-returns-in_err-statement-clause-walks : goal.block-returns-in_err-statement-clause-walks
block-returns-in_err-statement-clause-walks t c =
    let p = err_from_is_err_and c.from_residual.result c.from_residual.ensures.1 in
    let here = c.loop-statement.self in
    let new = c.statement.new.self in
    rw (p.1, p.2)
    (block_stops c.args.self.now here new c.args.all.now c.loop-statement.statement-index c.statement-item.result c.in_err-statement.field-0.0
    c.loop-statement-test.true c.statement-item.is c.loop-statement.invariant (c.in_err-statement.ensures {u = tt}).walks)

pub block-loop-statement-preserved : goal.block-loop-statement-preserved
block-loop-statement-preserved t c =
    block_more c.args.self.now c.loop-statement.self c.statement.new.self c.args.all.now c.loop-statement.statement-index c.statement-item.result c.in_ok-statement.field-0
    c.loop-statement-test.true c.statement-item.is c.loop-statement.invariant (c.in_ok-statement.ensures {u = tt}).walks (c.in_ok-statement.ensures {u = tt}).fewer.left

pub block-returns-clause-walks : goal.block-returns-clause-walks
block-returns-clause-walks t c =
    let here = c.loop-statement.self in
    let outside : c.len-outside.result ≡ length c.args.self.now.variables.items = omega (arith, c.args.self.now.variables.ok.0) in
    block_ends c.args.self.now here (record here { variables = c.truncate.new.self }) c.args.all.now c.loop-statement.statement-index c.loop-statement-test.false
    c.loop-statement.invariant refl (c.truncate.ensures.items ∙ ap (λ at. take at here.variables.items) outside)

pub repeat-loop-self-init : goal.repeat-loop-self-init
repeat-loop-self-init t c = loop_begins c.args.self.now c.args.line c.args.test.now c.args.body.now

pub repeat-returns-in_err-turn-clause-walks : goal.repeat-returns-in_err-turn-clause-walks
repeat-returns-in_err-turn-clause-walks t c =
    let p = err_from_is_err_and c.from_residual.result c.from_residual.ensures.1 in
    rw (p.1, p.2)
    (loop_spent c.args.self.now c.loop-self.self c.turn.new.self c.args.line c.args.test.now c.args.body.now c.in_err-turn.field-0.0
    c.loop-self.invariant (c.in_err-turn.ensures {u = tt}).leads)

pub repeat-returns-in_err-holds-clause-walks : goal.repeat-returns-in_err-holds-clause-walks
repeat-returns-in_err-holds-clause-walks t c =
    let p = err_from_is_err_and c.from_residual-in_err-holds.result c.from_residual-in_err-holds.ensures.1 in
    let turn = c.in_ok-turn.ensures {u = tt} in
    rw (p.1, p.2)
    (loop_test_stops c.args.self.now c.loop-self.self c.turn.new.self c.holds.new.self c.args.line c.args.test.now c.args.body.now c.in_err-holds.field-0.0
    c.loop-self.invariant (record { is = turn.after; taken = turn.taken; leads = turn.leads }) (c.in_err-holds.ensures {u = tt}).leads)

pub repeat-returns-then-not-holds-clause-walks : goal.repeat-returns-then-not-holds-clause-walks
repeat-returns-then-not-holds-clause-walks t c =
    let turn = c.in_ok-turn.ensures {u = tt} in
    let value = c.in_ok-holds.ensures {u = tt} in
    loop_leaves c.args.self.now c.loop-self.self c.turn.new.self c.holds.new.self c.args.line c.args.test.now c.args.body.now c.in_ok-holds.holds
    c.loop-self.invariant (record { is = turn.after; taken = turn.taken; leads = turn.leads }) (record { leads = value.leads; kept = value.kept }) c.if-not-holds.true

pub repeat-returns-in_err-statement-clause-walks : goal.repeat-returns-in_err-statement-clause-walks
repeat-returns-in_err-statement-clause-walks t c =
    let p = err_from_is_err_and c.from_residual-in_err-statement.result c.from_residual-in_err-statement.ensures.1 in
    let turn = c.in_ok-turn.ensures {u = tt} in
    let value = c.in_ok-holds.ensures {u = tt} in
    rw (p.1, p.2)
    (loop_stops c.args.self.now c.loop-self.self c.turn.new.self c.holds.new.self c.statement.new.self c.args.line c.args.test.now c.args.body.now c.in_ok-holds.holds
    c.in_err-statement.field-0.0 c.loop-self.invariant (record { is = turn.after; taken = turn.taken; leads = turn.leads })
    (record { leads = value.leads; kept = value.kept }) c.if-not-holds.false (c.in_err-statement.ensures {u = tt}).walks)

pub repeat-loop-self-preserved : goal.repeat-loop-self-preserved
repeat-loop-self-preserved t c =
    let turn = c.in_ok-turn.ensures {u = tt} in
    let value = c.in_ok-holds.ensures {u = tt} in
    let body = c.in_ok-statement.ensures {u = tt} in
    loop_again c.args.self.now c.loop-self.self c.turn.new.self c.holds.new.self c.statement.new.self c.args.line c.args.test.now c.args.body.now c.in_ok-holds.holds
    c.in_ok-statement.field-0 c.loop-self.invariant (record { is = turn.after; taken = turn.taken; leads = turn.leads })
    (record { leads = value.leads; kept = value.kept }) c.if-not-holds.false body.walks body.fewer.left

pub statement-returns-in-Block-clause-walks : goal.statement-returns-in-Block-clause-walks
statement-returns-in-Block-clause-walks t c =
    subst (λ x. Walks c.args.self.now x c.block.result c.block.new.self) (ap s.Block c.as_slice.ensures ∙ sym c.in-Block.is) c.block.ensures.walks

pub statement-returns-in-While-clause-walks : goal.statement-returns-in-While-clause-walks
statement-returns-in-While-clause-walks t c =
    subst (λ x. Walks c.args.self.now x c.repeat.result c.repeat.new.self)
    (ap (s.While c.in-While.line c.in-While.test) c.get-in-While.ensures ∙ sym c.in-While.is) c.repeat.ensures.walks

pub statement-returns-in_err-holds-in-If-clause-walks : goal.statement-returns-in_err-holds-in-If-clause-walks
statement-returns-in_err-holds-in-If-clause-walks t c =
    let p = err_from_is_err_and c.from_residual.result c.from_residual.ensures.1 in
    let why = c.in_err-holds-in-If.field-0.0 in
    rw (p.1, p.2)
    (subst (λ x. Walks c.args.self.now x (Err why) c.holds.new.self) (sym c.in-If.is)
    (if_stops c.args.self.now c.holds.new.self c.in-If.line c.in-If.test c.in-If.then why (c.in_err-holds-in-If.ensures {u = tt}).leads))

pub statement-returns-then-holds-clause-walks : goal.statement-returns-then-holds-clause-walks
statement-returns-then-holds-clause-walks t c =
    let value = c.in_ok-holds-in-If.ensures {u = tt} in
    subst (λ x. Walks c.args.self.now x c.statement.result c.statement.new.self) (ap (s.If c.in-If.line c.in-If.test) c.get.ensures ∙ sym c.in-If.is)
    (if_true c.args.self.now c.holds.new.self c.statement.new.self c.in-If.line c.in-If.test c.get.result.now c.in_ok-holds-in-If.holds c.statement.result
    (record { leads = value.leads; kept = value.kept }) c.if-holds.true c.statement.ensures.walks)

pub statement-returns-else-holds-clause-walks : goal.statement-returns-else-holds-clause-walks
statement-returns-else-holds-clause-walks t c = λ n le next.
    let walk = c.args.self.now in
    let value = c.in_ok-holds-in-If.ensures {u = tt} in
    in_words (statement n c.args.statement.now walk.variables.items next) (ap (λ x. statement n x walk.variables.items next) c.in-If.is)
    (if_false walk c.holds.new.self c.in-If.line c.in-If.test c.in-If.then c.in_ok-holds-in-If.holds (record { leads = value.leads; kept = value.kept }) c.if-holds.false n le next)

pub statement-returns-in_err-holds-in-IfElse-clause-walks : goal.statement-returns-in_err-holds-in-IfElse-clause-walks
statement-returns-in_err-holds-in-IfElse-clause-walks t c =
    let p = err_from_is_err_and c.from_residual-in_err-holds-in-IfElse.result c.from_residual-in_err-holds-in-IfElse.ensures.1 in
    let why = c.in_err-holds-in-IfElse.field-0.0 in
    rw (p.1, p.2)
    (subst (λ y. Walks c.args.self.now y (Err why) c.holds-in-IfElse.new.self) (sym c.in-IfElse.is)
    (either_stops c.args.self.now c.holds-in-IfElse.new.self c.in-IfElse.line c.in-IfElse.test c.in-IfElse.then c.in-IfElse.otherwise why (c.in_err-holds-in-IfElse.ensures {u = tt}).leads))

pub statement-returns-then-holds-2-clause-walks : goal.statement-returns-then-holds-2-clause-walks
statement-returns-then-holds-2-clause-walks t c =
    let value = c.in_ok-holds-in-IfElse.ensures {u = tt} in
    subst (λ x. Walks c.args.self.now x c.statement-then-holds-2.result c.statement-then-holds-2.new.self)
    (ap (λ y. s.IfElse c.in-IfElse.line c.in-IfElse.test y c.in-IfElse.otherwise) c.get-then-holds-2.ensures ∙ sym c.in-IfElse.is)
    (either_true c.args.self.now c.holds-in-IfElse.new.self c.statement-then-holds-2.new.self c.in-IfElse.line c.in-IfElse.test c.get-then-holds-2.result.now c.in-IfElse.otherwise
    c.in_ok-holds-in-IfElse.holds c.statement-then-holds-2.result (record { leads = value.leads; kept = value.kept }) c.if-holds-2.true c.statement-then-holds-2.ensures.walks)

pub statement-returns-else-holds-2-clause-walks : goal.statement-returns-else-holds-2-clause-walks
statement-returns-else-holds-2-clause-walks t c =
    let value = c.in_ok-holds-in-IfElse.ensures {u = tt} in
    subst (λ x. Walks c.args.self.now x c.statement-in-IfElse.result c.statement-in-IfElse.new.self)
    (ap (s.IfElse c.in-IfElse.line c.in-IfElse.test c.in-IfElse.then) c.get-in-IfElse.ensures ∙ sym c.in-IfElse.is)
    (either_false c.args.self.now c.holds-in-IfElse.new.self c.statement-in-IfElse.new.self c.in-IfElse.line c.in-IfElse.test c.in-IfElse.then c.get-in-IfElse.result.now
    c.in_ok-holds-in-IfElse.holds c.statement-in-IfElse.result (record { leads = value.leads; kept = value.kept }) c.if-holds-2.false c.statement-in-IfElse.ensures.walks)
