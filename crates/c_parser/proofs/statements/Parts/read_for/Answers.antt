use Rattle.std.proofs.Common.{refl, rules, arith}
use Rattle.std.proofs.lemmas.Grind.{common_steps}
use Rattle.grammar_descent.specs.AllReaders.{readers}
use Rattle.grammar_descent.specs.StatementSteps as step
use Rattle.c_parser.specs.ForHeader as h
use Rattle.token_reader.proofs.Reading.{found, none}
use Rattle.c_parser.proofs.StatementSteps.{for_statement-headless, for_statement-none, for_statement-found}
use Rattle.c_parser.proofs.Closings.{after_loop}
use Rattle.c_parser.proofs.statements.Parts.read_for.Goals as goal

pub returns-in_err-header : goal.returns-in_err-header
returns-in_err-header g c =
    let text = c.args.reader.now.text in
    let ts = c.args.reader.now.tokens in
    let depth = c.args.self.now.depth in
    let inner = step.statement text ts (readers text ts) depth in
    let gone = none (λ text ts. h.for_header text ts (readers text ts) depth) c.args.reader.now c.args.reader.now c.for_header.new.reader c.in_err-header.field-0.0 (refl) (refl) c.in_err-header.ensures in
    let fails = for_statement-headless text ts (readers text ts) depth inner c.args.reader.now.state in
    first_of (search rules, grind (arith, common_steps))

pub returns-in_err-body : goal.returns-in_err-body
returns-in_err-body g c =
    let text = c.args.reader.now.text in
    let ts = c.args.reader.now.tokens in
    let depth = c.args.self.now.depth in
    let inner = step.statement text ts (readers text ts) depth in
    let header = found (λ text ts. h.for_header text ts (readers text ts) depth) c.args.reader.now c.args.reader.now c.for_header.new.reader c.in_ok-header.header (refl) (refl) c.in_ok-header.ensures in
    let gone = none (λ text ts. step.statement text ts (readers text ts) depth) c.args.reader.now c.for_header.new.reader c.inner.new.reader c.in_err-body.field-0.0 (c.for_header.ensures.text) (c.for_header.ensures.tokens) c.in_err-body.ensures in
    let fails = for_statement-none text ts (readers text ts) depth inner c.args.reader.now.state c.for_header.new.reader.state c.in_ok-header.header header in
    first_of (search rules, grind (arith, common_steps))

pub returns : goal.returns
returns g c =
    let text = c.args.reader.now.text in
    let ts = c.args.reader.now.tokens in
    let depth = c.args.self.now.depth in
    let exact = c.law_readers.ensures.phrases text ts in
    let header = found (λ text ts. h.for_header text ts (readers text ts) depth) c.args.reader.now c.args.reader.now c.for_header.new.reader c.in_ok-header.header (refl) (refl) c.in_ok-header.ensures in
    let body = found (λ text ts. step.statement text ts (readers text ts) depth) c.args.reader.now c.for_header.new.reader c.inner.new.reader c.in_ok-body.body (c.for_header.ensures.text) (c.for_header.ensures.tokens) c.in_ok-body.ensures in
    let back = after_loop text ts (readers text ts) exact depth c.args.reader.now.state c.for_header.new.reader.state c.inner.new.reader.state c.in_ok-header.header c.in_ok-body.body header body in
    let all = for_statement-found text ts (readers text ts) depth (step.statement text ts (readers text ts) depth) c.args.reader.now.state c.for_header.new.reader.state c.inner.new.reader.state c.in_ok-header.header c.in_ok-body.body header body in
    first_of (search rules, grind (arith, common_steps))
