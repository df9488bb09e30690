use Rattle.std.proofs.Common.{length, ap, below_more, arith}
use Rattle.plain_meaning.proofs.NamesLemmas.{found_here, named_here, other_here, has_none}
use Rattle.plain_meaning.proofs.names.find_entry.Goals as goal

pub returns-then-eq : goal.returns-then-eq
returns-then-eq c =
    let f = c.function-item.result in
    let found = found_here c.args.program.now _ c.loop-number.number f c.as_slice-function-items.ensures c.loop-number-test.true c.function-item.is in
    record {
      named = named_here c.args.program.now c.loop-number.number f c.bytes.result.now c.args.name.now found c.bytes.ensures c.if-eq.ensures;
      first = c.loop-number.invariant;
    }

pub loop-number-preserved : goal.loop-number-preserved
loop-number-preserved c =
    let f = c.function-item.result in
    let found = found_here c.args.program.now _ c.loop-number.number f c.as_slice-function-items.ensures c.loop-number-test.true c.function-item.is in
    below_more _ _ c.loop-number.invariant (other_here c.args.program.now c.loop-number.number f c.bytes.result.now c.args.name.now found c.bytes.ensures c.if-eq.ensures)

pub returns : goal.returns
returns c =
    has_none c.args.program.now c.args.name.now c.loop-number.number
    (omega (arith, ap length c.as_slice-function-items.ensures, c.loop-number-test.false)) c.loop-number.invariant
