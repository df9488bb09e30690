-- Expressions, specifiers and declarators lead to one another. Each is read over readers of what is nested in it.
use Rattle.std.specs.Prelude.{ℕ, alloc_error}
use Rattle.c_grammar.specs.declared.phrases.Declarator.{Declarator, out-Declarator}
use Rattle.c_grammar.specs.declared.phrases.Declarator.TheOpen.{Declarator-F}
use Rattle.c_grammar.specs.declared.phrases.Expression.{Expression}
use Rattle.c_grammar.specs.declared.phrases.Specs.{Specs}
use Rattle.c_grammar.specs.declared.phrases.TypePhrase.{TypePhrase, out-TypePhrase}
use Rattle.static_rules.specs.declared.judged.Judged.{Judged}
use Rattle.static_rules.specs.declared.faults.CheckKind.TheVariants as why
use Rattle.static_rules.specs.Answers.{Answer, ◌>>=◌, fault}
use Rattle.static_rules.specs.Layers.{DeclaratorLayer}
use Rattle.static_rules.specs.declared.states.State.{State}
use Rattle.declaration_rules.specs.Parts.{made}
use Rattle.declaration_rules.specs.declared.parts.Around.{Around}
use Rattle.declaration_rules.specs.declared.specifiers.Setting.{Setting}
use Rattle.declaration_rules.specs.declared.specifiers.Setting.TheVariants as specs_of
use Rattle.static_rules.specs.declared.states.Made.{Made}
use Rattle.static_rules.specs.declared.states.Where.{Where}

pub record Readers : Type 0 where
  pub expression : Where → State → Expression → Answer (Judged × State)
  pub specs : Setting → Where → State → Specs → Answer (Made × State)
  pub declarator : Where → State → Declarator → Answer (Around × State)

-- What no tree of the grammar is: nested too deep. Memory runs out there.
abbrev pub too_deep : {A : Type 0} → Answer A
too_deep = fault (why.Memory alloc_error) 0

-- The name of a type (C11 6.7.7).
unfoldable pub type_phrase : Readers → Where → State → TypePhrase → Answer (Made × State)
type_phrase inner w s phrase =
    inner.specs specs_of.TypeName w s (out-TypePhrase phrase).specs >>= λ base.
    inner.declarator w base.1 (out-TypePhrase phrase).declarator >>= λ a. made a.1 a.0.parts base.0

-- ---- the line of the first token

-- a declarator without a token has no line of its own
abbrev pub declarator_line_at : ℕ → DeclaratorLayer → ℕ
declarator_line_at otherwise (Declarator-F.Declarator::Name place) = place.line
declarator_line_at otherwise Declarator-F.Unnamed = otherwise
declarator_line_at otherwise (Declarator-F.Pointer place qualifiers within) = place.line
declarator_line_at otherwise (Declarator-F.Declarator::Parentheses place within) = place.line
declarator_line_at otherwise (Declarator-F.Array place within size) = place.line
declarator_line_at otherwise (Declarator-F.Function place within parameters) = place.line

unfoldable pub declarator_line : ℕ → Declarator → ℕ
declarator_line otherwise declarator = declarator_line_at otherwise (out-Declarator declarator)
