use Rattle.grammar_descent.specs.AllReaders.{readers}
use Rattle.grammar_descent.specs.StatementSteps as step
use Rattle.c_parser.proofs.OtherWords.{by_other_word}
use Rattle.c_parser.proofs.statements.Parts.statement_by_word.Goals as goal

pub returns-in_default : goal.returns-in_default
returns-in_default g c =
    let text = c.args.reader.now.text in
    let ts = c.args.reader.now.tokens in
    let depth = c.args.self.now.depth in
    let other = by_other_word text ts (readers text ts) depth (step.statement text ts (readers text ts) depth) (step.block text ts (readers text ts) depth) c.args.reader.now.state _
    c.in_default.not-If c.in_default.not-While c.in_default.not-Do c.in_default.not-For c.in_default.not-Switch c.in_default.not-Case c.in_default.not-Default
    c.in_default.not-Break c.in_default.not-Continue c.in_default.not-Return in
    record {
      answer = rw other c.expression_statement.ensures.answer;
      text = c.expression_statement.ensures.text;
      tokens = c.expression_statement.ensures.tokens;
      texts = c.expression_statement.ensures.texts;
    }

pub returns-in-Default : goal.returns-in-Default
unfolding step.word_before
returns-in-Default g c = record { answer = rw (c.in-Default.is) c.default_label.ensures.answer; text = c.default_label.ensures.text; tokens = c.default_label.ensures.tokens; texts = c.default_label.ensures.texts }

pub returns-in-Break : goal.returns-in-Break
unfolding step.word_before
returns-in-Break g c = record { answer = rw (c.in-Break.is) c.break_statement.ensures.answer; text = c.break_statement.ensures.text; tokens = c.break_statement.ensures.tokens; texts = c.break_statement.ensures.texts }

pub returns-in-Continue : goal.returns-in-Continue
unfolding step.word_before
returns-in-Continue g c = record { answer = rw (c.in-Continue.is) c.continue_statement.ensures.answer; text = c.continue_statement.ensures.text; tokens = c.continue_statement.ensures.tokens; texts = c.continue_statement.ensures.texts }
