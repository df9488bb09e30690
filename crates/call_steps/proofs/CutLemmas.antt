-- The rules of a call over the syntax tree, cut where the arguments are read.
use Rattle.std.proofs.Common.{◌≡◌, refl, ℕ, List, [], Option, Some, None}
use Rattle.c_grammar.specs.declared.phrases.Expression.{Expression}
use Rattle.c_grammar.specs.declared.phrases.TypePhrase.{TypePhrase}
use Rattle.static_rules.specs.Answers.{Answer}
use Rattle.static_rules.specs.Calls.{taken_by}
use Rattle.static_rules.specs.Expressions as rule
use Rattle.static_rules.specs.Source.{Source}
use Rattle.static_rules.specs.declared.judged.Judged.{Judged}
use Rattle.static_rules.specs.declared.states.DeclaredFunction.{DeclaredFunction}
use Rattle.static_rules.specs.declared.states.Made.{Made}
use Rattle.static_rules.specs.declared.states.State.{State}
use Rattle.static_rules.specs.declared.states.Where.{Where}
use Rattle.static_rules.specs.declared.symbols.BuiltIn.{BuiltIn}
use Rattle.static_rules.specs.declared.symbols.BuiltIn.TheVariants as given
use Rattle.call_steps.specs.Cuts.{AreCut, built_in_call, text_call}
use Rattle.call_steps.specs.Tails.{callee_by, callee_of}

module _ (source : Source) (type_phrase : Where → State → TypePhrase → Answer (Made × State))
    (inner : Where → State → Expression → Answer (Judged × State)) (w : Where) (here : ℕ) (s : State)
    (es : List Expression)
  where
    text_by : (named_at : ℕ) (f : DeclaredFunction) (n : Option ℕ) →
        rule.call_of source type_phrase inner w here named_at s (Some f) n es
        ≡ text_call source type_phrase inner w here s es (callee_by named_at f n)
    text_by named_at f (Some n) = refl
    text_by named_at f None = refl

    text_cut : (named_at : ℕ) (f : Option DeclaredFunction) →
        rule.call_of source type_phrase inner w here named_at s f (rule.number_by source type_phrase inner f) es
        ≡ text_call source type_phrase inner w here s es (callee_of named_at f)
    text_cut named_at (Some f) = text_by named_at f f.number
    text_cut named_at None = refl

    given_cut : (which : BuiltIn) → ¬ (taken_by which ≡ []) →
        rule.given_call source type_phrase inner w here s which es
        ≡ built_in_call source type_phrase inner w here s es which
    given_cut given.Malloc takes = refl
    given_cut given.Calloc takes = refl
    given_cut given.Free takes = refl
    given_cut given.Memcpy takes = refl
    given_cut given.Memset takes = refl
    given_cut given.Strlen takes = refl
    given_cut given.Puts takes = refl
    given_cut given.Putchar takes = refl
    given_cut given.Printf takes = absurd (takes refl)
    given_cut given.AtomicFetchAdd takes = absurd (takes refl)

pub are_cut : AreCut
are_cut source type_phrase inner w here s es = record {
  text = text_cut source type_phrase inner w here s es;
  given = given_cut source type_phrase inner w here s es;
  other = refl;
  no_format = refl;
}
