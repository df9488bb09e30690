use Rattle.std.proofs.Common.{◌≡◌, ◌+◌, ◌-◌, ◌∙◌, true, false, List, sym, subst, length, rules, arith}
use Rattle.std.proofs.lemmas.Grind.{common_steps}
use Rattle.c_tokens.specs.declared.token.Token.{Token}
use Rattle.c_tokens.specs.declared.kind.Mark.TheVariants as mark
use Rattle.grammar_descent.specs.AllReaders.{readers}
use Rattle.grammar_descent.specs.Reading.{mark_at}
use Rattle.grammar_descent.specs.StatementSteps as step
use Rattle.token_reader.proofs.Turns.{one_more, no_more}
use Rattle.token_reader.proofs.Reading.{found, none}
use Rattle.c_parser.proofs.StatementSteps as s
use Rattle.c_parser.proofs.statements.Parts.items.Goals as goal

pub returns-then-sees_mark : goal.returns-then-sees_mark
returns-then-sees_mark g c =
    let text = c.args.reader.now.text in
    let ts = c.args.reader.now.tokens in
    let inner = step.statement text ts (readers text ts) c.args.depth in
    let e = one_more (λ n. step.items text ts (readers text ts) c.args.depth inner n c.loop-turn.found c.loop-turn.reader.state) _ c.loop-turn._turn c.loop-turn-test.true c.loop-turn.invariant.same in
    let a = subst (λ (l : List Token). mark_at l c.loop-turn.reader.state.at mark.RightBrace ≡ true) c.loop-turn.invariant.tokens (sym c.sees_mark.ensures.value ∙ c.if-sees_mark.true) in
    let ends = s.items-end text ts (readers text ts) c.args.depth inner (length ts - (c.loop-turn._turn + 1)) c.loop-turn.found c.loop-turn.reader.state a in
    first_of (search rules, grind (arith, common_steps))

pub returns-in_err-item : goal.returns-in_err-item
returns-in_err-item g c =
    let text = c.args.reader.now.text in
    let ts = c.args.reader.now.tokens in
    let inner = step.statement text ts (readers text ts) c.args.depth in
    let e = one_more (λ n. step.items text ts (readers text ts) c.args.depth inner n c.loop-turn.found c.loop-turn.reader.state) _ c.loop-turn._turn c.loop-turn-test.true c.loop-turn.invariant.same in
    let a = subst (λ (l : List Token). mark_at l c.loop-turn.reader.state.at mark.RightBrace ≡ false) c.loop-turn.invariant.tokens (sym c.sees_mark.ensures.value ∙ c.if-sees_mark.false) in
    let gone = none (λ text ts. step.item_of text ts (readers text ts) c.args.depth (step.statement text ts (readers text ts) c.args.depth)) c.args.reader.now c.loop-turn.reader c.item.new.reader
    c.in_err-item.field-0.0 c.loop-turn.invariant.text c.loop-turn.invariant.tokens c.in_err-item.ensures in
    let fails = s.items-none text ts (readers text ts) c.args.depth inner (length ts - (c.loop-turn._turn + 1)) c.loop-turn.found c.loop-turn.reader.state a in
    first_of (search rules, grind (arith, common_steps))

pub loop-turn-preserved : goal.loop-turn-preserved
loop-turn-preserved g c =
    let text = c.args.reader.now.text in
    let ts = c.args.reader.now.tokens in
    let inner = step.statement text ts (readers text ts) c.args.depth in
    let e = one_more (λ n. step.items text ts (readers text ts) c.args.depth inner n c.loop-turn.found c.loop-turn.reader.state) _ c.loop-turn._turn c.loop-turn-test.true c.loop-turn.invariant.same in
    let a = subst (λ (l : List Token). mark_at l c.loop-turn.reader.state.at mark.RightBrace ≡ false) c.loop-turn.invariant.tokens (sym c.sees_mark.ensures.value ∙ c.if-sees_mark.false) in
    let next = found (λ text ts. step.item_of text ts (readers text ts) c.args.depth (step.statement text ts (readers text ts) c.args.depth)) c.args.reader.now c.loop-turn.reader c.item.new.reader
    c.in_ok-item.field-0 c.loop-turn.invariant.text c.loop-turn.invariant.tokens c.in_ok-item.ensures in
    let more = s.items-more text ts (readers text ts) c.args.depth inner (length ts - (c.loop-turn._turn + 1)) c.loop-turn.found c.loop-turn.reader.state c.item.new.reader.state
    c.in_ok-item.field-0 a next in
    first_of (search rules, grind (arith, common_steps))

pub returns : goal.returns
returns g c =
    let text = c.args.reader.now.text in
    let ts = c.args.reader.now.tokens in
    let inner = step.statement text ts (readers text ts) c.args.depth in
    let e = no_more (λ n. step.items text ts (readers text ts) c.args.depth inner n c.loop-turn.found c.loop-turn.reader.state) _ c.loop-turn._turn c.loop-turn-test.false c.loop-turn.invariant.same in
    let over = s.items-over text ts (readers text ts) c.args.depth inner c.loop-turn.found c.loop-turn.reader.state in
    first_of (search rules, grind (arith, common_steps))
