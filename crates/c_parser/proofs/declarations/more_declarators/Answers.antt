use Rattle.std.proofs.Common.{◌≡◌, ◌+◌, ◌-◌, ◌∙◌, true, false, List, sym, subst, length, rules, arith}
use Rattle.std.proofs.lemmas.Grind.{common_steps}
use Rattle.c_tokens.specs.declared.token.Token.{Token}
use Rattle.c_tokens.specs.declared.kind.Mark.TheVariants as mark
use Rattle.grammar_descent.specs.AllReaders.{readers}
use Rattle.grammar_descent.specs.Reading.{mark_at}
use Rattle.grammar_descent.specs.InitialiserSteps as step
use Rattle.token_reader.proofs.Turns.{one_more, no_more}
use Rattle.c_parser.proofs.DeclarationSteps as s
use Rattle.c_parser.proofs.declarations.more_declarators.Goals as goal

pub returns-in_err-expect : goal.returns-in_err-expect
returns-in_err-expect c =
    let ts = c.args.reader.now.tokens in
    let all = readers c.args.reader.now.text ts in
    let e = one_more (λ n. step.more_declarators ts all c.args.depth c.args.kind n c.loop-turn.found c.loop-turn.reader.state) _ c.loop-turn._turn c.loop-turn-test.true c.loop-turn.invariant.same in
    let a = subst (λ (l : List Token). mark_at l c.loop-turn.reader.state.at mark.Comma ≡ false) c.loop-turn.invariant.tokens (sym c.sees_mark.ensures.value ∙ c.if-sees_mark.false) in
    let b = subst (λ (l : List Token). mark_at l c.loop-turn.reader.state.at mark.Semicolon ≡ false) c.loop-turn.invariant.tokens c.in_err-expect.ensures.err.0 in
    let fails = s.more_declarators-open ts all c.args.depth c.args.kind (length ts - (c.loop-turn._turn + 1)) c.loop-turn.found c.loop-turn.reader.state a b in
    first_of (search rules, grind (arith, common_steps))

pub returns-else-sees_mark : goal.returns-else-sees_mark
returns-else-sees_mark c =
    let ts = c.args.reader.now.tokens in
    let all = readers c.args.reader.now.text ts in
    let e = one_more (λ n. step.more_declarators ts all c.args.depth c.args.kind n c.loop-turn.found c.loop-turn.reader.state) _ c.loop-turn._turn c.loop-turn-test.true c.loop-turn.invariant.same in
    let a = subst (λ (l : List Token). mark_at l c.loop-turn.reader.state.at mark.Comma ≡ false) c.loop-turn.invariant.tokens (sym c.sees_mark.ensures.value ∙ c.if-sees_mark.false) in
    let b = subst (λ (l : List Token). mark_at l c.loop-turn.reader.state.at mark.Semicolon ≡ true) c.loop-turn.invariant.tokens c.in_ok-expect.ensures.ok.0 in
    let ends = s.more_declarators-end ts all c.args.depth c.args.kind (length ts - (c.loop-turn._turn + 1)) c.loop-turn.found c.loop-turn.reader.state a b in
    first_of (search rules, grind (arith, common_steps))

pub returns-in_err-init_declarator : goal.returns-in_err-init_declarator
returns-in_err-init_declarator c =
    let ts = c.args.reader.now.tokens in
    let all = readers c.args.reader.now.text ts in
    let e = one_more (λ n. step.more_declarators ts all c.args.depth c.args.kind n c.loop-turn.found c.loop-turn.reader.state) _ c.loop-turn._turn c.loop-turn-test.true c.loop-turn.invariant.same in
    let a = subst (λ (l : List Token). mark_at l c.loop-turn.reader.state.at mark.Comma ≡ true) c.loop-turn.invariant.tokens (sym c.sees_mark.ensures.value ∙ c.if-sees_mark.true) in
    let fails = s.more_declarators-none ts all c.args.depth c.args.kind (length ts - (c.loop-turn._turn + 1)) c.loop-turn.found c.loop-turn.reader.state a in
    first_of (search rules, grind (arith, common_steps))

pub loop-turn-preserved : goal.loop-turn-preserved
loop-turn-preserved c =
    let ts = c.args.reader.now.tokens in
    let all = readers c.args.reader.now.text ts in
    let e = one_more (λ n. step.more_declarators ts all c.args.depth c.args.kind n c.loop-turn.found c.loop-turn.reader.state) _ c.loop-turn._turn c.loop-turn-test.true c.loop-turn.invariant.same in
    let a = subst (λ (l : List Token). mark_at l c.loop-turn.reader.state.at mark.Comma ≡ true) c.loop-turn.invariant.tokens (sym c.sees_mark.ensures.value ∙ c.if-sees_mark.true) in
    let more = s.more_declarators-more ts all c.args.depth c.args.kind (length ts - (c.loop-turn._turn + 1)) c.loop-turn.found c.loop-turn.reader.state c.init_declarator.new.reader.state
    c.in_ok-init_declarator.field-0 a in
    first_of (search rules, grind (arith, common_steps))

pub returns : goal.returns
returns c =
    let ts = c.args.reader.now.tokens in
    let all = readers c.args.reader.now.text ts in
    let e = no_more (λ n. step.more_declarators ts all c.args.depth c.args.kind n c.loop-turn.found c.loop-turn.reader.state) _ c.loop-turn._turn c.loop-turn-test.false c.loop-turn.invariant.same in
    let over = s.more_declarators-over ts all c.args.depth c.args.kind c.loop-turn.found c.loop-turn.reader.state in
    first_of (search rules, grind (arith, common_steps))
