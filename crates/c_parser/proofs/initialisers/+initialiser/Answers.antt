use Rattle.std.proofs.Common.{◌+◌, ◌-◌, ◌∙◌, sym, length, rules, arith}
use Rattle.std.proofs.lemmas.Grind.{common_steps}
use Rattle.grammar_descent.specs.AllReaders.{readers}
use Rattle.grammar_descent.specs.InitialiserSteps as step
use Rattle.c_parser.specs.ListEnd.{list_end}
use Rattle.token_reader.specs.Input.{Reads}
use Rattle.token_reader.proofs.Turns.{one_more, no_more}
use Rattle.token_reader.proofs.Reading.{found, none}
use Rattle.token_reader.proofs.Refusals.{same_reads}
use Rattle.c_parser.proofs.InitialiserSteps as s
use Rattle.c_parser.proofs.initialisers.+initialiser.Goals as goal

pub initialiser-returns-then-depth-eq0 : goal.initialiser-returns-then-depth-eq0
initialiser-returns-then-depth-eq0 t c =
    let text = c.args.reader.now.text in
    let ts = c.args.reader.now.tokens in
    let e = s.initialiser-least ts (readers text ts) c.args.depth c.args.reader.now.state (sym c.sees_mark.ensures.value ∙ c.if-sees_mark.true) (omega arith) in
    first_of (search rules, grind (arith, common_steps))

pub initialiser-returns-else-depth-eq0 : goal.initialiser-returns-else-depth-eq0
initialiser-returns-else-depth-eq0 t c =
    let text = c.args.reader.now.text in
    let ts = c.args.reader.now.tokens in
    let e = s.initialiser-braces ts (readers text ts) c.args.depth c.args.reader.now.state (sym c.sees_mark.ensures.value ∙ c.if-sees_mark.true) (omega arith) in
    let read : Reads (λ text ts. step.initialiser ts (readers text ts) c.args.depth) c.args.reader.now c.braces-found.result c.braces-found.new.reader = record {
      answer = rw e c.braces-found.ensures.answer;
      text = c.braces-found.ensures.text;
      tokens = c.braces-found.ensures.tokens;
      texts = c.braces-found.ensures.texts;
    } in
    same_reads (λ text ts. step.initialiser ts (readers text ts) c.args.depth) c.args.reader.now c.braces-found.new.reader c.braces-found.result c.refused_at.result c.refused_at.ensures.same read

pub initialiser-returns-else-sees_mark : goal.initialiser-returns-else-sees_mark
initialiser-returns-else-sees_mark t c =
    let text = c.args.reader.now.text in
    let ts = c.args.reader.now.tokens in
    record {
      answer = rw (s.initialiser-value ts (readers text ts) c.args.depth c.args.reader.now.state (sym c.sees_mark.ensures.value ∙ c.if-sees_mark.false)) c.value.ensures.answer;
      text = c.value.ensures.text;
      tokens = c.value.ensures.tokens;
      texts = c.value.ensures.texts;
    }

pub initialisers-returns-in_err-initialiser : goal.initialisers-returns-in_err-initialiser
initialisers-returns-in_err-initialiser t c =
    let text = c.args.reader.now.text in
    let ts = c.args.reader.now.tokens in
    let inner = step.initialiser ts (readers text ts) c.args.depth in
    let e = one_more (λ n. step.initialisers ts (readers text ts) inner n c.loop-turn.found c.loop-turn.reader.state) _ c.loop-turn._turn c.loop-turn-test.true c.loop-turn.invariant.same in
    let gone = none (λ text ts. step.initialiser ts (readers text ts) c.args.depth) c.args.reader.now c.loop-turn.reader c.initialiser.new.reader c.in_err-initialiser.field-0.0
    c.loop-turn.invariant.text c.loop-turn.invariant.tokens c.in_err-initialiser.ensures in
    let fails = s.initialisers-none ts (readers text ts) inner (length ts - (c.loop-turn._turn + 1)) c.loop-turn.found c.loop-turn.reader.state in
    first_of (search rules, grind (arith, common_steps))

pub initialisers-returns-in_err-read_list_end : goal.initialisers-returns-in_err-read_list_end
initialisers-returns-in_err-read_list_end t c =
    let text = c.args.reader.now.text in
    let ts = c.args.reader.now.tokens in
    let inner = step.initialiser ts (readers text ts) c.args.depth in
    let e = one_more (λ n. step.initialisers ts (readers text ts) inner n c.loop-turn.found c.loop-turn.reader.state) _ c.loop-turn._turn c.loop-turn-test.true c.loop-turn.invariant.same in
    let next = found (λ text ts. step.initialiser ts (readers text ts) c.args.depth) c.args.reader.now c.loop-turn.reader c.initialiser.new.reader c.in_ok-initialiser.field-0
    c.loop-turn.invariant.text c.loop-turn.invariant.tokens c.in_ok-initialiser.ensures in
    let gone = none (λ text ts. list_end ts) c.args.reader.now c.initialiser.new.reader c.read_list_end.new.reader c.in_err-read_list_end.field-0.0
    (c.initialiser.ensures.text ∙ c.loop-turn.invariant.text) (c.initialiser.ensures.tokens ∙ c.loop-turn.invariant.tokens) c.in_err-read_list_end.ensures in
    let fails = s.initialisers-fail ts (readers text ts) inner (length ts - (c.loop-turn._turn + 1)) c.loop-turn.found c.loop-turn.reader.state c.initialiser.new.reader.state c.in_ok-initialiser.field-0 next in
    first_of (search rules, grind (arith, common_steps))

pub initialisers-returns-then-branch : goal.initialisers-returns-then-branch
initialisers-returns-then-branch t c =
    let text = c.args.reader.now.text in
    let ts = c.args.reader.now.tokens in
    let inner = step.initialiser ts (readers text ts) c.args.depth in
    let e = one_more (λ n. step.initialisers ts (readers text ts) inner n c.loop-turn.found c.loop-turn.reader.state) _ c.loop-turn._turn c.loop-turn-test.true c.loop-turn.invariant.same in
    let next = found (λ text ts. step.initialiser ts (readers text ts) c.args.depth) c.args.reader.now c.loop-turn.reader c.initialiser.new.reader c.in_ok-initialiser.field-0
    c.loop-turn.invariant.text c.loop-turn.invariant.tokens c.in_ok-initialiser.ensures in
    let ends = found (λ text ts. list_end ts) c.args.reader.now c.initialiser.new.reader c.read_list_end.new.reader c.in_ok-read_list_end.field-0
    (c.initialiser.ensures.text ∙ c.loop-turn.invariant.text) (c.initialiser.ensures.tokens ∙ c.loop-turn.invariant.tokens) c.in_ok-read_list_end.ensures in
    let all = s.initialisers-end ts (readers text ts) inner (length ts - (c.loop-turn._turn + 1)) c.loop-turn.found c.loop-turn.reader.state c.initialiser.new.reader.state c.read_list_end.new.reader.state
    c.in_ok-initialiser.field-0 next in
    first_of (search rules, grind (arith, common_steps))

pub initialisers-loop-turn-preserved : goal.initialisers-loop-turn-preserved
initialisers-loop-turn-preserved t c =
    let text = c.args.reader.now.text in
    let ts = c.args.reader.now.tokens in
    let inner = step.initialiser ts (readers text ts) c.args.depth in
    let e = one_more (λ n. step.initialisers ts (readers text ts) inner n c.loop-turn.found c.loop-turn.reader.state) _ c.loop-turn._turn c.loop-turn-test.true c.loop-turn.invariant.same in
    let next = found (λ text ts. step.initialiser ts (readers text ts) c.args.depth) c.args.reader.now c.loop-turn.reader c.initialiser.new.reader c.in_ok-initialiser.field-0
    c.loop-turn.invariant.text c.loop-turn.invariant.tokens c.in_ok-initialiser.ensures in
    let ends = found (λ text ts. list_end ts) c.args.reader.now c.initialiser.new.reader c.read_list_end.new.reader c.in_ok-read_list_end.field-0
    (c.initialiser.ensures.text ∙ c.loop-turn.invariant.text) (c.initialiser.ensures.tokens ∙ c.loop-turn.invariant.tokens) c.in_ok-read_list_end.ensures in
    let all = s.initialisers-more ts (readers text ts) inner (length ts - (c.loop-turn._turn + 1)) c.loop-turn.found c.loop-turn.reader.state c.initialiser.new.reader.state c.read_list_end.new.reader.state
    c.in_ok-initialiser.field-0 next in
    first_of (search rules, grind (arith, common_steps))

pub initialisers-returns : goal.initialisers-returns
initialisers-returns t c =
    let text = c.args.reader.now.text in
    let ts = c.args.reader.now.tokens in
    let inner = step.initialiser ts (readers text ts) c.args.depth in
    let e = no_more (λ n. step.initialisers ts (readers text ts) inner n c.loop-turn.found c.loop-turn.reader.state) _ c.loop-turn._turn c.loop-turn-test.false c.loop-turn.invariant.same in
    let over = s.initialisers-over ts (readers text ts) inner c.loop-turn.found c.loop-turn.reader.state in
    first_of (search rules, grind (arith, common_steps))
