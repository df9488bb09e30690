-- The rules of a call over the syntax tree, cut where the arguments are read.
use Rattle.std.specs.Prelude.{◌≡◌, ℕ, List, [], Option}
use Rattle.c_grammar.specs.declared.phrases.Expression.{Expression}
use Rattle.c_grammar.specs.declared.phrases.TypePhrase.{TypePhrase}
use Rattle.static_rules.specs.Answers.{Answer, ◌>>=◌, each}
use Rattle.static_rules.specs.Calls.{taken_by}
use Rattle.static_rules.specs.Expressions as rule
use Rattle.static_rules.specs.Source.{Source}
use Rattle.static_rules.specs.declared.judged.Judged.{Judged}
use Rattle.static_rules.specs.declared.judged.Operand.{Operand}
use Rattle.static_rules.specs.declared.states.DeclaredFunction.{DeclaredFunction}
use Rattle.static_rules.specs.declared.states.Made.{Made}
use Rattle.static_rules.specs.declared.states.State.{State}
use Rattle.static_rules.specs.declared.states.Where.{Where}
use Rattle.static_rules.specs.declared.symbols.BuiltIn.{BuiltIn}
use Rattle.call_steps.specs.declared.callees.Callee.{Callee}
use Rattle.call_steps.specs.Tails.{callee_of, call_of_other, call_of_text, given_call, print_of_none}

module _ (source : Source) (type_phrase : Where → State → TypePhrase → Answer (Made × State))
    (inner : Where → State → Expression → Answer (Judged × State)) (w : Where) (here : ℕ) (s : State)
    (es : List Expression)
  where
    abbrev pub text_call : Answer Callee → Answer (Operand × State)
    text_call callee =
        callee >>= λ c. let types = rule.of_types source type_phrase inner c.parameters in
        rule.arguments source type_phrase inner w s types es >>= λ r. call_of_text w here c.result c.number r.1 r.0

    abbrev pub built_in_call : BuiltIn → Answer (Operand × State)
    built_in_call which =
        rule.arguments source type_phrase inner w s (taken_by which) es >>= λ r. given_call w here which r.1 r.0

    abbrev pub other_call : Answer (Operand × State)
    other_call = each (rule.operand_of source type_phrase inner w) s es >>= λ r. call_of_other w here

    -- what `Expressions` says of calls
    pub record Cuts : Type 0 where
      pub text : (named_at : ℕ) (f : Option DeclaredFunction) →
          rule.call_of source type_phrase inner w here named_at s f (rule.number_by source type_phrase inner f) es
          ≡ text_call (callee_of named_at f)
      pub given : (which : BuiltIn) → ¬ (taken_by which ≡ []) →
          rule.given_call source type_phrase inner w here s which es ≡ built_in_call which
      pub other : rule.call_of_other source type_phrase inner w here s es ≡ other_call
      pub no_format : rule.print_node source type_phrase inner w here s [] ≡ print_of_none w here s

abbrev pub AreCut : Type 0
AreCut =
    (source : Source) (type_phrase : Where → State → TypePhrase → Answer (Made × State))
    (inner : Where → State → Expression → Answer (Judged × State)) (w : Where) (here : ℕ) (s : State)
    (es : List Expression) → Cuts source type_phrase inner w here s es
