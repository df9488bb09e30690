use Rattle.std.proofs.Common.{sym, ◌∙◌, arith}
use Rattle.c_lexer.proofs.Runs.{comment_step, comment_stop, comment_over, shifted_none}
use Rattle.c_lexer.proofs.comments.comment_len.Goals as goal

pub loop-i-init : goal.loop-i-init
loop-i-init c = shifted_none _

pub loop-i-preserved : goal.loop-i-preserved
loop-i-preserved c = comment_step c.loop-i.star c.loop-i.i c.args.s.now c.loop-i-test.true (sym c.ends.ensures ∙ c.if-ends.false) ∙ c.loop-i.invariant

pub returns-then-ends-clause-value : goal.returns-then-ends-clause-value
returns-then-ends-clause-value c =
    sym (comment_stop c.loop-i.star c.loop-i.i c.args.s.now c.loop-i-test.true (sym c.ends.ensures ∙ c.if-ends.true)) ∙ c.loop-i.invariant

pub returns-clause-value : goal.returns-clause-value
returns-clause-value c = sym (comment_over c.loop-i.star c.loop-i.i c.args.s.now (omega arith)) ∙ c.loop-i.invariant
