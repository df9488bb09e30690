use Rattle.std.proofs.Common.{sym, subst, arith}
use Rattle.whole_numbers.specs.Types.{IsValue}
use Rattle.whole_numbers.proofs.Words.{extended_high, extended_low, wrapped_kept}
use Rattle.whole_numbers.proofs.values.extended.Goals as goal
use Rattle.whole_numbers.proofs.values.extended.Goals.{else-kind-via-then-kind+else-low-mask, else-kind-via-else-kind}

pub returns-then-low-mask-clause-value : goal.returns-then-low-mask-clause-value
returns-then-low-mask-clause-value c =
    extended_high c.args.kind.width c.args.kind.signed c.args.word c.mask-mask.result c.if-kind.true
    c.mask-mask.ensures c.if-low-mask.true

pub returns-then-low-mask-clause-kept : goal.returns-then-low-mask-clause-kept
returns-then-low-mask-clause-kept c =
    subst (IsValue c.args.kind) (sym (returns-then-low-mask-clause-value c)) (wrapped_kept c.args.kind _)

pub returns-else-kind-clause-value : goal.returns-else-kind-clause-value
returns-else-kind-clause-value c =
    extended_low c.args.kind.width c.args.kind.signed c.args.word c.mask-mask.result c.mask-mask.ensures
    (elim c.else-kind.branch [
      | else-kind-via-then-kind+else-low-mask w ↦ (λ s. omega arith)
      | else-kind-via-else-kind w ↦ (λ s. cc)
    ])

pub returns-else-kind-clause-kept : goal.returns-else-kind-clause-kept
returns-else-kind-clause-kept c =
    subst (IsValue c.args.kind) (sym (returns-else-kind-clause-value c)) (wrapped_kept c.args.kind _)
