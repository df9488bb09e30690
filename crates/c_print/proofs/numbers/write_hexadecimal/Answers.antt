use Rattle.std.proofs.Common.{arith, length-set, ◌∙◌}
use Rattle.c_print.proofs.Hexadecimal.{begins, room, goes, ends}
use Rattle.c_print.proofs.numbers.write_hexadecimal.Goals as goal

pub loop-rest-init : goal.loop-rest-init
loop-rest-init c = (omega arith, c.told-out, c.ranges.n.fits, begins c.args.n c.args.out.now c.told-out)

pub loop-rest-preserved : goal.loop-rest-preserved
loop-rest-preserved c =
    let l = c.loop-rest in
    let some = room l.start l.rest l.invariant.2 c.loop-rest-test.true in (
      omega arith,
      length-set l.out l.start c.hex_digit.result ∙ l.invariant.1,
      some.1,
      goes l.out l.start l.rest c.args.n c.hex_digit.result (omega arith) some.0 c.loop-rest-test.true
          (c.hex_digit.ensures) l.invariant.3,
    )

pub returns-clause-value : goal.returns-clause-value
returns-clause-value c =
    let l = c.loop-rest in
    ends l.out l.start l.rest c.args.n c.hex_digit-2.result (omega arith)
    (omega arith) c.hex_digit-2.ensures l.invariant.3
