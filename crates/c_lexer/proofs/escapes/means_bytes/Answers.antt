use Rattle.std.proofs.Common.{arith}
use Rattle.c_lexer.proofs.Decodings.{means_step, means_stop, means_end}
use Rattle.c_lexer.proofs.escapes.means_bytes.Goals as goal

pub loop-at-preserved : goal.loop-at-preserved
loop-at-preserved c = record {
  within = (let within = c.in-Some.ensures.within in omega arith);
  same = means_step c.args.s.now c.loop-at.at c.in-Some.field-0-0 c.in-Some.len c.in-Some.ensures.value c.loop-at.invariant.same;
}

pub returns-in_default : goal.returns-in_default
returns-in_default c = means_stop c.args.s.now c.loop-at.at c.loop-at-test.true c.in_default.ensures.value c.loop-at.invariant.same

pub returns : goal.returns
returns c = means_end c.args.s.now c.loop-at.at c.loop-at-test.false c.loop-at.invariant.same
