-- Declarators (C11 6.7.6): all that stands in one is read in the order of the text. The type is made of it behind that.
use Rattle.std.specs.Prelude.{ℕ, ◌==◌, ◌-◌, ◌^◌, min, ℤ, pos, negsuc, Bool, false, ◌||◌, [], ◌∷◌, ◌++◌, length, take, drop, Option}
use Rattle.std.specs.Prelude.{Some, None, is_some, Ok, if◌then◌else◌}
use Rattle.c_grammar.specs.declared.phrases.Expression.{Expression}
use Rattle.c_grammar.specs.declared.phrases.Declarator.{Declarator, out-Declarator}
use Rattle.c_grammar.specs.declared.phrases.Declarator.TheOpen.{Declarator-F}
use Rattle.c_grammar.specs.declared.phrases.Parameter.{Parameter, out-Parameter}
use Rattle.c_grammar.specs.declared.phrases.Specs.{Specs}
use Rattle.static_rules.specs.declared.faults.CheckKind.TheVariants as why
use Rattle.static_rules.specs.declared.faults.Feature.TheVariants as feature
use Rattle.static_rules.specs.Answers.{Answer, ◌>>=◌, fault, fault_if, all}
use Rattle.static_rules.specs.Layers.{DeclaratorLayer}
use Rattle.static_rules.specs.Predefined.{is_given}
use Rattle.static_rules.specs.Source.{Source, name_at}
use Rattle.static_rules.specs.States.{new_scope, closed, symbol_here, with_symbol}
use Rattle.static_rules.specs.declared.states.State.{State}
use Rattle.declaration_rules.specs.Parts.{around, made, adjusted}
use Rattle.declaration_rules.specs.Readers.{Readers, declarator_line}
use Rattle.declaration_rules.specs.declared.parts.Around.{Around}
use Rattle.declaration_rules.specs.declared.parts.DeclaredName.{DeclaredName}
use Rattle.declaration_rules.specs.declared.parts.Part.{Part}
use Rattle.declaration_rules.specs.declared.parts.Part.TheVariants as part
use Rattle.declaration_rules.specs.declared.specifiers.Setting.TheVariants as specs_of
use Rattle.static_rules.specs.declared.states.Made.{Made}
use Rattle.static_rules.specs.declared.states.Symbol.TheVariants as means
use Rattle.static_rules.specs.declared.states.Where.{Where}

-- An array has at least one element. A count that no object has is as good as any other such.
abbrev pub count_of : ℕ → ℤ → Answer ℕ
count_of here (pos n) = if n == 0 then fault (why.LeftOut feature.ArraySize) here else Ok (min n (2 ^ 32 - 1))
count_of here (negsuc n) = fault (why.LeftOut feature.ArraySize) here

module _ (source : Source) where
  -- a name that no declaration of the innermost scope may declare (C11 6.7p3), and a function that each text has
  unfoldable pub is_taken : Where → State → ℕ → Bool
  is_taken w s name = is_given source name || is_some (symbol_here w s name)

  -- ---- parameters (C11 6.7.6.3): the name is new among them, and is known behind its declarator

  abbrev pub is_taken_by : Where → State → Option DeclaredName → Bool
  is_taken_by w s (Some name) = is_taken w s name.number
  is_taken_by w s None = false

  -- Parameters are the next variables as long as their list is read. They get the line of the function's name with its body.
  abbrev pub with_parameter : ℕ × State → State
  with_parameter kind =
      record kind.1 { variables = kind.1.variables ++ record { kind = kind.0; line = 0; addressed = false } ∷ [] }

  abbrev pub parameter_named : Option DeclaredName → ℕ × State → State
  parameter_named (Some name) kind = with_symbol (with_parameter kind) name.number (means.Variable (length kind.1.variables))
  parameter_named None kind = with_parameter kind

  -- Of one declarator a name that is taken is told before its type.
  abbrev pub parameter_made : Where → ℕ → Made → Around × State → Answer State
  parameter_made w here base a =
      fault_if (is_taken_by w a.1 a.0.name) why.Redefined here >>= λ free. made a.1 a.0.parts base >>= λ type.
      adjusted here type.1 type.0 >>= λ kind. Ok (parameter_named a.0.name kind)

  module _ (constant : ℕ → Where → State → Expression → Answer (ℤ × State)) (inner : Readers) where
    abbrev pub parameter_of : Where → State → ℕ → Specs → Declarator → Answer State
    parameter_of w s line specs declarator =
        inner.specs specs_of.Parameter w s specs >>= λ base. inner.declarator w base.1 declarator >>= λ a.
        parameter_made w (declarator_line line declarator) base.0 a

    unfoldable pub parameter : Where → State → Parameter → Answer State
    parameter w s one =
        parameter_of w s (out-Parameter one).place.line (out-Parameter one).specs (out-Parameter one).declarator

    -- The scope of parameters ends with their list (C11 6.2.1p4).
    abbrev pub after_list : State → State → State
    after_list before s = record (closed before s) { variables = take (length before.variables) s.variables }

    abbrev pub with_list : ℕ → Around × State → State → Around × State
    with_list here a s = (
      around (part.Function here (record {
        variables = drop (length a.1.variables) s.variables;
        names = drop (length a.1.symbols) s.symbols;
        tags = drop (length a.1.tags) s.tags;
      })) a.0,
      after_list a.1 s,
    )

    -- ---- one level of a declarator

    abbrev pub with_part : Part → Around × State → Around × State
    with_part one a = (around one a.0, a.1)

    abbrev pub array_part : ℕ → Where → Around × State → Expression → Answer (Around × State)
    array_part here w a size =
        constant here w a.1 size >>= λ n. count_of here n.0 >>= λ count.
        Ok (with_part (part.Array here count) (a.0, n.1))

    abbrev pub declarator_at : Where → State → DeclaratorLayer → Answer (Around × State)
    -- NAME
    declarator_at w s (Declarator-F.Declarator::Name place) =
        Ok (record { name = Some (record { number = name_at source place.token; line = place.line }); parts = [] }, s)
    -- the name that is left out
    declarator_at w s Declarator-F.Unnamed = Ok (record { name = None; parts = [] }, s)
    -- `* declarator`
    declarator_at w s (Declarator-F.Pointer place qualifiers within) =
        inner.declarator w s within >>= λ a. Ok (with_part (part.Pointer place.line) a)
    -- `( declarator )`
    declarator_at w s (Declarator-F.Declarator::Parentheses place within) = inner.declarator w s within
    -- `declarator [ ]`
    declarator_at w s (Declarator-F.Array place within None) =
        inner.declarator w s within >>= λ a. Ok (with_part (part.OpenArray place.line) a)
    -- `declarator [ size ]`
    declarator_at w s (Declarator-F.Array place within (Some size)) =
        inner.declarator w s within >>= λ a. array_part place.line w a size
    -- `declarator ( parameters )`
    declarator_at w s (Declarator-F.Function place within parameters) =
        inner.declarator w s within >>= λ a. all (parameter (new_scope w a.1)) a.1 parameters >>= λ list.
        Ok (with_list place.line a list)

    -- A declarator: its name, and what stands around it.
    unfoldable pub declarator_by : Where → State → Declarator → Answer (Around × State)
    declarator_by w s declarator = declarator_at w s (out-Declarator declarator)
