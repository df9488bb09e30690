use Rattle.std.proofs.Common.{◌≡◌, ◌<◌, ◌≤◌, false, length, get_or, arith, ap, sym, ◌∙◌}
use Rattle.operand_plans.specs.Formats.{is_plain}
use Rattle.operand_plans.proofs.Formats.{kinds_fit, fit_kinds, at_end, no_argument, not_printed}
use Rattle.static_rules.specs.Calls as spec
use Rattle.operand_plans.proofs.calls.fit.Goals.{then-used-kinds-via-then-used-kinds, then-used-kinds-via-else-used-kinds+then-not-prints}
use Rattle.operand_plans.proofs.calls.fit.Goals as goal

pub returns-then-used-kinds : goal.returns-then-used-kinds
returns-then-used-kinds c xs e =
    let types = c.args.types.now in
    let parts = c.args.parts.now in
    let kinds = c.args.kinds.now in
    let at = c.loop-part in
    let rest = ap (kinds_fit types parts) (sym e) ∙ fit_kinds types parts xs in
    let other : is_plain c.part-item.result ≡ false = sym c.is_plain.ensures ∙ c.if-is_plain.false in
    elim c.then-used-kinds.branch [
      | then-used-kinds-via-then-used-kinds w ↦
          let all : length kinds ≤ at.used = omega (arith, w.if-used-kinds.true) in
          sym (no_argument types parts kinds at.part-index at.used c.part-item.result c.loop-part-test.true c.part-item.is
          other all)
          ∙ sym at.invariant.0 ∙ rest
      | then-used-kinds-via-else-used-kinds+then-not-prints w ↦
          let some : at.used < length kinds = omega (arith, at.invariant.1, w.if-used-kinds.false) in
          let none : spec.prints types c.part-item.result (get_or kinds at.used 0) ≡ false =
          sym w.prints.ensures ∙ w.if-not-prints.true in
          sym (not_printed types parts kinds at.part-index at.used c.part-item.result 0 c.loop-part-test.true
          c.part-item.is other some none) ∙ sym at.invariant.0 ∙ rest
    ]

pub returns : goal.returns
returns c xs e =
    let types = c.args.types.now in
    let parts = c.args.parts.now in
    let kinds = c.args.kinds.now in
    let at = c.loop-part in
    at_end types parts kinds at.part-index at.used c.loop-part-test.false at.invariant.1
    ∙ sym at.invariant.0 ∙ ap (kinds_fit types parts) (sym e) ∙ fit_kinds types parts xs
