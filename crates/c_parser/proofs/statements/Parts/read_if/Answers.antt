use Rattle.std.proofs.Common.{◌≡◌, ap, refl, true, rules, arith}
use Rattle.std.proofs.lemmas.Grind.{common_steps}
use Rattle.c_tokens.specs.declared.kind.Keyword.TheVariants as word
use Rattle.grammar_descent.specs.AllReaders.{readers}
use Rattle.grammar_descent.specs.Reading.{State, past, word_at}
use Rattle.grammar_descent.specs.StatementSteps as step
use Rattle.grammar_descent.specs.StatementSteps.{back}
use Rattle.token_reader.proofs.Reading.{found, none}
use Rattle.c_parser.proofs.StatementSteps.{if_statement-none, if_statement-both}
use Rattle.c_parser.proofs.Closings.{after_statement, after_body}
use Rattle.c_parser.proofs.statements.Parts.read_if.Goals as goal

pub returns-then-not-sees_word : goal.returns-then-not-sees_word
unfolding step.if_statement step.else_after
returns-then-not-sees_word g c =
    let text = c.args.reader.now.text in
    let ts = c.args.reader.now.tokens in
    let depth = c.args.self.now.depth in
    let inner = step.statement text ts (readers text ts) depth in
    let exact = c.law_readers.ensures.phrases text ts in
    let s = c.args.reader.now.state in
    let test = found (λ text ts. step.condition text ts (readers text ts) depth) c.args.reader.now c.args.reader.now c.condition.new.reader c.in_ok-test.test (refl) (refl) c.in_ok-test.ensures in
    let first = found (λ text ts. step.statement text ts (readers text ts) depth) c.args.reader.now c.condition.new.reader c.inner.new.reader c.in_ok-then.then (c.condition.ensures.text) (c.condition.ensures.tokens) c.in_ok-then.ensures in
    let closing = after_body text ts (readers text ts) exact depth s c.condition.new.reader.state c.condition.new.reader.state c.inner.new.reader.state c.in_ok-test.test c.in_ok-then.then test refl first in
    first_of (search rules, grind (arith, common_steps))

pub returns-in_err-otherwise : goal.returns-in_err-otherwise
returns-in_err-otherwise g c =
    let text = c.args.reader.now.text in
    let ts = c.args.reader.now.tokens in
    let depth = c.args.self.now.depth in
    let inner = step.statement text ts (readers text ts) depth in
    let exact = c.law_readers.ensures.phrases text ts in
    let s = c.args.reader.now.state in
    let test = found (λ text ts. step.condition text ts (readers text ts) depth) c.args.reader.now c.args.reader.now c.condition.new.reader c.in_ok-test.test (refl) (refl) c.in_ok-test.ensures in
    let first = found (λ text ts. step.statement text ts (readers text ts) depth) c.args.reader.now c.condition.new.reader c.inner.new.reader c.in_ok-then.then (c.condition.ensures.text) (c.condition.ensures.tokens) c.in_ok-then.ensures in
    let closing = after_statement text ts (readers text ts) exact depth c.condition.new.reader.state.scope c.condition.new.reader.state c.inner.new.reader.state c.in_ok-then.then refl first in
    let again : c.pass.new.self.state ≡ past (back c.condition.new.reader.state c.inner.new.reader.state) 1 = grind (arith, common_steps) in
    let again_text : c.pass.new.self.text ≡ text = grind (arith, common_steps) in
    let again_tokens : c.pass.new.self.tokens ≡ ts = grind (arith, common_steps) in
    let sees : word_at ts c.inner.new.reader.state.at word.Else ≡ true = grind (arith, common_steps) in
    let gone = none (λ text ts. step.statement text ts (readers text ts) depth) c.args.reader.now c.pass.new.self c.inner-2.new.reader c.in_err-otherwise.field-0.0 again_text again_tokens c.in_err-otherwise.ensures in
    let fails = if_statement-none text ts (readers text ts) depth inner s c.condition.new.reader.state c.inner.new.reader.state c.pass.new.self.state c.in_ok-test.test c.in_ok-then.then test first sees again in
    first_of (search rules, grind (arith, common_steps))

pub returns : goal.returns
returns g c =
    let text = c.args.reader.now.text in
    let ts = c.args.reader.now.tokens in
    let depth = c.args.self.now.depth in
    let inner = step.statement text ts (readers text ts) depth in
    let exact = c.law_readers.ensures.phrases text ts in
    let s = c.args.reader.now.state in
    let test = found (λ text ts. step.condition text ts (readers text ts) depth) c.args.reader.now c.args.reader.now c.condition.new.reader c.in_ok-test.test (refl) (refl) c.in_ok-test.ensures in
    let first = found (λ text ts. step.statement text ts (readers text ts) depth) c.args.reader.now c.condition.new.reader c.inner.new.reader c.in_ok-then.then (c.condition.ensures.text) (c.condition.ensures.tokens) c.in_ok-then.ensures in
    let closing = after_statement text ts (readers text ts) exact depth c.condition.new.reader.state.scope c.condition.new.reader.state c.inner.new.reader.state c.in_ok-then.then refl first in
    let again : c.pass.new.self.state ≡ past (back c.condition.new.reader.state c.inner.new.reader.state) 1 = grind (arith, common_steps) in
    let again_text : c.pass.new.self.text ≡ text = grind (arith, common_steps) in
    let again_tokens : c.pass.new.self.tokens ≡ ts = grind (arith, common_steps) in
    let sees : word_at ts c.inner.new.reader.state.at word.Else ≡ true = grind (arith, common_steps) in
    let other = found (λ text ts. step.statement text ts (readers text ts) depth) c.args.reader.now c.pass.new.self c.inner-2.new.reader c.in_ok-otherwise.otherwise again_text again_tokens c.in_ok-otherwise.ensures in
    let ending = after_body text ts (readers text ts) exact depth s c.condition.new.reader.state c.pass.new.self.state c.inner-2.new.reader.state c.in_ok-test.test c.in_ok-otherwise.otherwise test (ap (λ (x : State). x.scope) again) other in
    let all = if_statement-both text ts (readers text ts) depth inner s c.condition.new.reader.state c.inner.new.reader.state c.pass.new.self.state c.inner-2.new.reader.state c.in_ok-test.test c.in_ok-then.then c.in_ok-otherwise.otherwise test first sees again other in
    first_of (search rules, grind (arith, common_steps))
