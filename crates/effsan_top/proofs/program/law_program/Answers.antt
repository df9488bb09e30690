use Rattle.std.proofs.Common.{ℕ, List}
use Rattle.effsan_top.proofs.OneOrOther.{Laws, one_program, never_both, one_fault, program_or_fault}
use Rattle.effsan_top.proofs.program.law_program.Goals as goal

pub returns : goal.returns
returns c =
    let laws : (text : List ℕ) → Laws text = λ text. record {
      one_list = c.law_tokens.ensures.one_list text;
      not_both = c.law_tokens.ensures.not_both text;
      one_reason = c.law_tokens.ensures.one_reason text;
      lexed = c.law_tokens.ensures.one_of_both text;
      strings = c.law_strings.ensures.some text;
      one_expansion = c.law_expanded.ensures.one_list text;
      never_stopped = c.law_expanded.ensures.not_both text;
      one_stop = c.law_expanded.ensures.one_reason text;
      expanded = c.law_expanded.ensures.one_of_both text;
      drawn = c.law_expanded.ensures.drawn text;
      read = c.law_readers.ensures.unit text;
      one_unit = c.law_derivation.ensures.unit text;
      one_form = c.law_form.ensures;
    } in
    record {
      one_program = λ text. one_program text (laws text);
      never_both = λ text. never_both text (laws text);
      one_fault = λ text. one_fault text (laws text);
      program_or_fault = λ text. program_or_fault text (laws text);
    }
