use Rattle.std.proofs.Common.{◌≡◌, ◌∙◌, ap, true, rules, arith}
use Rattle.std.proofs.lemmas.Grind.{common_steps}
use Rattle.c_tokens.specs.declared.kind.Keyword.TheVariants as word
use Rattle.grammar_descent.specs.AllReaders.{readers}
use Rattle.grammar_descent.specs.Reading.{State, past, word_at}
use Rattle.grammar_descent.specs.StatementSteps as step
use Rattle.grammar_descent.specs.StatementSteps.{back}
use Rattle.token_reader.specs.Input.{Input}
use Rattle.token_reader.proofs.Reading.{found, none}
use Rattle.c_parser.proofs.StatementSteps.{do_statement-testless, do_statement-open, do_statement-found}
use Rattle.c_parser.proofs.Closings.{after_statement, after_condition}
use Rattle.c_parser.proofs.statements.Parts.read_do.Goals as goal

pub returns-in_err-test : goal.returns-in_err-test
returns-in_err-test g c =
    let text = c.args.reader.now.text in
    let ts = c.args.reader.now.tokens in
    let depth = c.args.self.now.depth in
    let inner = step.statement text ts (readers text ts) depth in
    let exact = c.law_readers.ensures.phrases text ts in
    let s = c.args.reader.now.state in
    let passed : c.pass.new.self.state ≡ past s 1 = ap (λ (i : Input). i.state) c.pass.ensures in
    let passed_text : c.pass.new.self.text ≡ text = ap (λ (i : Input). i.text) c.pass.ensures in
    let passed_tokens : c.pass.new.self.tokens ≡ ts = ap (λ (i : Input). i.tokens) c.pass.ensures in
    let passed_texts : c.pass.new.self.texts ≡ c.args.reader.now.texts = ap (λ (i : Input). i.texts) c.pass.ensures in
    let body = found (λ text ts. step.statement text ts (readers text ts) depth) c.args.reader.now c.pass.new.self c.inner.new.reader c.in_ok-body.body passed_text passed_tokens c.in_ok-body.ensures in
    let closing = after_statement text ts (readers text ts) exact depth s.scope c.pass.new.self.state c.inner.new.reader.state c.in_ok-body.body (ap (λ (i : Input). i.state.scope) c.pass.ensures) body in
    let closed : c.close.new.self.state ≡ back s c.inner.new.reader.state = grind (arith, common_steps) in
    let closed_text : c.close.new.self.text ≡ text = ap (λ (i : Input). i.text) c.close.ensures ∙ c.inner.ensures.text ∙ passed_text in
    let closed_tokens : c.close.new.self.tokens ≡ ts = ap (λ (i : Input). i.tokens) c.close.ensures ∙ c.inner.ensures.tokens ∙ passed_tokens in
    let closed_texts : c.close.new.self.texts ≡ c.args.reader.now.texts = ap (λ (i : Input). i.texts) c.close.ensures ∙ c.inner.ensures.texts ∙ passed_texts in
    let sees : word_at ts c.inner.new.reader.state.at word.While ≡ true = grind (arith, common_steps) in
    let gone = none (λ text ts. step.condition text ts (readers text ts) depth) c.args.reader.now c.close.new.self c.condition.new.reader c.in_err-test.field-0.0 closed_text closed_tokens c.in_err-test.ensures in
    let fails = do_statement-testless text ts (readers text ts) depth inner s c.pass.new.self.state c.inner.new.reader.state c.close.new.self.state c.in_ok-body.body passed body sees closed in
    first_of (search rules, grind (arith, common_steps))

pub returns-in_err-expect : goal.returns-in_err-expect
returns-in_err-expect g c =
    let text = c.args.reader.now.text in
    let ts = c.args.reader.now.tokens in
    let depth = c.args.self.now.depth in
    let inner = step.statement text ts (readers text ts) depth in
    let exact = c.law_readers.ensures.phrases text ts in
    let s = c.args.reader.now.state in
    let passed : c.pass.new.self.state ≡ past s 1 = ap (λ (i : Input). i.state) c.pass.ensures in
    let passed_text : c.pass.new.self.text ≡ text = ap (λ (i : Input). i.text) c.pass.ensures in
    let passed_tokens : c.pass.new.self.tokens ≡ ts = ap (λ (i : Input). i.tokens) c.pass.ensures in
    let passed_texts : c.pass.new.self.texts ≡ c.args.reader.now.texts = ap (λ (i : Input). i.texts) c.pass.ensures in
    let body = found (λ text ts. step.statement text ts (readers text ts) depth) c.args.reader.now c.pass.new.self c.inner.new.reader c.in_ok-body.body passed_text passed_tokens c.in_ok-body.ensures in
    let closing = after_statement text ts (readers text ts) exact depth s.scope c.pass.new.self.state c.inner.new.reader.state c.in_ok-body.body (ap (λ (i : Input). i.state.scope) c.pass.ensures) body in
    let closed : c.close.new.self.state ≡ back s c.inner.new.reader.state = grind (arith, common_steps) in
    let closed_text : c.close.new.self.text ≡ text = ap (λ (i : Input). i.text) c.close.ensures ∙ c.inner.ensures.text ∙ passed_text in
    let closed_tokens : c.close.new.self.tokens ≡ ts = ap (λ (i : Input). i.tokens) c.close.ensures ∙ c.inner.ensures.tokens ∙ passed_tokens in
    let closed_texts : c.close.new.self.texts ≡ c.args.reader.now.texts = ap (λ (i : Input). i.texts) c.close.ensures ∙ c.inner.ensures.texts ∙ passed_texts in
    let sees : word_at ts c.inner.new.reader.state.at word.While ≡ true = grind (arith, common_steps) in
    let test = found (λ text ts. step.condition text ts (readers text ts) depth) c.args.reader.now c.close.new.self c.condition.new.reader c.in_ok-test.test closed_text closed_tokens c.in_ok-test.ensures in
    let fails = do_statement-open text ts (readers text ts) depth inner s c.pass.new.self.state c.inner.new.reader.state c.close.new.self.state c.condition.new.reader.state c.in_ok-body.body c.in_ok-test.test passed body sees closed test in
    first_of (search rules, grind (arith, common_steps))

pub returns : goal.returns
returns g c =
    let text = c.args.reader.now.text in
    let ts = c.args.reader.now.tokens in
    let depth = c.args.self.now.depth in
    let inner = step.statement text ts (readers text ts) depth in
    let exact = c.law_readers.ensures.phrases text ts in
    let s = c.args.reader.now.state in
    let passed : c.pass.new.self.state ≡ past s 1 = ap (λ (i : Input). i.state) c.pass.ensures in
    let passed_text : c.pass.new.self.text ≡ text = ap (λ (i : Input). i.text) c.pass.ensures in
    let passed_tokens : c.pass.new.self.tokens ≡ ts = ap (λ (i : Input). i.tokens) c.pass.ensures in
    let passed_texts : c.pass.new.self.texts ≡ c.args.reader.now.texts = ap (λ (i : Input). i.texts) c.pass.ensures in
    let body = found (λ text ts. step.statement text ts (readers text ts) depth) c.args.reader.now c.pass.new.self c.inner.new.reader c.in_ok-body.body passed_text passed_tokens c.in_ok-body.ensures in
    let closing = after_statement text ts (readers text ts) exact depth s.scope c.pass.new.self.state c.inner.new.reader.state c.in_ok-body.body (ap (λ (i : Input). i.state.scope) c.pass.ensures) body in
    let closed : c.close.new.self.state ≡ back s c.inner.new.reader.state = grind (arith, common_steps) in
    let closed_text : c.close.new.self.text ≡ text = ap (λ (i : Input). i.text) c.close.ensures ∙ c.inner.ensures.text ∙ passed_text in
    let closed_tokens : c.close.new.self.tokens ≡ ts = ap (λ (i : Input). i.tokens) c.close.ensures ∙ c.inner.ensures.tokens ∙ passed_tokens in
    let closed_texts : c.close.new.self.texts ≡ c.args.reader.now.texts = ap (λ (i : Input). i.texts) c.close.ensures ∙ c.inner.ensures.texts ∙ passed_texts in
    let sees : word_at ts c.inner.new.reader.state.at word.While ≡ true = grind (arith, common_steps) in
    let test = found (λ text ts. step.condition text ts (readers text ts) depth) c.args.reader.now c.close.new.self c.condition.new.reader c.in_ok-test.test closed_text closed_tokens c.in_ok-test.ensures in
    let back_again = after_condition text ts (readers text ts) exact depth s.scope c.close.new.self.state c.condition.new.reader.state c.in_ok-test.test (ap (λ (x : State). x.scope) closed) test in
    let all = do_statement-found text ts (readers text ts) depth inner s c.pass.new.self.state c.inner.new.reader.state c.close.new.self.state c.condition.new.reader.state c.in_ok-body.body c.in_ok-test.test passed body sees closed test in
    first_of (search rules, grind (arith, common_steps))
