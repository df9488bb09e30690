use Rattle.std.proofs.Common.{◌+◌, drop, sym, ap, ◌∙◌, arith}
use Rattle.c_lexer.specs.Scan.{closing_quote}
use Rattle.c_lexer.proofs.Runs.{shifted, closing_step, closing_stop, closing_open, closing_over, shifted_none}
use Rattle.c_lexer.proofs.quotes.closing_quote.Goals as goal

pub loop-i-init : goal.loop-i-init
loop-i-init c = shifted_none _

pub loop-i-preserved : goal.loop-i-preserved
loop-i-preserved c =
    let next = c.stands_free-escaped.ensures in
    ap (λ held. shifted (c.loop-i.i + 1) (closing_quote c.args.quote held (drop (c.loop-i.i + 1) c.args.s.now))) next
    ∙ closing_step c.args.quote c.loop-i.escaped c.loop-i.i c.args.s.now c.loop-i-test.true (sym c.is_line_end.ensures ∙ c.if-is_line_end.false) (sym c.stands_free.ensures ∙ c.if-stands_free.false)
    ∙ c.loop-i.invariant

pub returns-then-is_line_end-clause-value : goal.returns-then-is_line_end-clause-value
returns-then-is_line_end-clause-value c =
    sym (closing_open c.args.quote c.loop-i.escaped c.loop-i.i c.args.s.now c.loop-i-test.true (sym c.is_line_end.ensures ∙ c.if-is_line_end.true)) ∙ c.loop-i.invariant

pub returns-then-stands_free-clause-value : goal.returns-then-stands_free-clause-value
returns-then-stands_free-clause-value c =
    sym (closing_stop c.args.quote c.loop-i.escaped c.loop-i.i c.args.s.now c.loop-i-test.true (sym c.is_line_end.ensures ∙ c.if-is_line_end.false) (sym c.stands_free.ensures ∙ c.if-stands_free.true)) ∙ c.loop-i.invariant

pub returns-clause-value : goal.returns-clause-value
returns-clause-value c = sym (closing_over c.args.quote c.loop-i.escaped c.loop-i.i c.args.s.now (omega arith)) ∙ c.loop-i.invariant
