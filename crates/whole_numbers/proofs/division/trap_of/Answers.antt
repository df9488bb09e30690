use Rattle.std.proofs.Common.{sym}
use Rattle.whole_numbers.proofs.Traps.{by_zero, least_by_minus_one, not_least, not_minus_one, not_signed}
use Rattle.whole_numbers.proofs.division.trap_of.Goals as goal
use Rattle.whole_numbers.proofs.division.trap_of.Goals.{else-kind-via-then-kind+then-left-least+else-right-eq-MINUS_ONE, else-kind-via-then-kind+else-left-least, else-kind-via-else-kind}

pub returns-then-right-eq0-clause-value : goal.returns-then-right-eq0-clause-value
returns-then-right-eq0-clause-value c =
    sym (by_zero c.args.kind c.args.left c.args.right c.ranges.right.fits c.if-right-eq0.true)

pub returns-then-right-eq-MINUS_ONE-clause-value : goal.returns-then-right-eq-MINUS_ONE-clause-value
returns-then-right-eq-MINUS_ONE-clause-value c =
    sym (least_by_minus_one c.args.kind.width c.args.kind.signed c.args.left c.args.right c.mask.result
    c.ranges.right.fits c.ranges.left.fits
    c.mask.ensures c.if-kind.true c.if-right-eq0.false c.if-left-least.true c.if-right-eq-MINUS_ONE.true)

pub returns-clause-value : goal.returns-clause-value
returns-clause-value c =
    let w = c.args.kind.width in
    let s = c.args.kind.signed in
    let l = c.args.left in
    let r = c.args.right in
    let q = c.ranges.right.fits in
    let some = c.if-right-eq0.false in
    elim c.else-kind.branch [
      | else-kind-via-then-kind+then-left-least+else-right-eq-MINUS_ONE b ↦
          sym (not_minus_one w s l r q b.if-kind.true some b.if-right-eq-MINUS_ONE.false)
      | else-kind-via-then-kind+else-left-least b ↦
          sym (not_least w s l r c.mask.result q c.ranges.left.fits c.mask.ensures b.if-kind.true some
          b.if-left-least.false)
      | else-kind-via-else-kind b ↦ sym (not_signed w s l r q b.if-kind.false some)
    ]
