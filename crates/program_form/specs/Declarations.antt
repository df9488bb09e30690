-- Declarations: `int NAME = value;`, and pointers to new or converted objects. A name is in scope in its own value.
use Rattle.std.specs.Prelude.{ℕ, List, [], ◌∷◌, ◌++◌, Option, Some, None, if◌then◌else◌}
use Rattle.c_grammar.specs.Limits.{max_depth}
use Rattle.c_grammar.specs.declared.phrases.Expression.{Expression}
use Rattle.c_grammar.specs.declared.phrases.Declarator.{Declarator}
use Rattle.c_grammar.specs.declared.statements.Initialiser.{Initialiser, out-Initialiser, Initialiser-F}
use Rattle.c_grammar.specs.declared.statements.Declaration.{Declaration}
use Rattle.plain_meaning.specs.declared.tree.Target.{Target}
use Rattle.plain_meaning.specs.declared.tree.Target.TheVariants as to
use Rattle.plain_meaning.specs.declared.tree.Statement.{Statement}
use Rattle.plain_meaning.specs.declared.tree.Statement.TheVariants as s
use Rattle.token_texts.specs.Texts.{Texts}
use Rattle.form_parts.specs.declared.sort.Sort.TheVariants as holds
use Rattle.form_parts.specs.Layers.{InitialiserLayer, ◌>>=◌, only}
use Rattle.form_parts.specs.Variables.{Variable, is_taken}
use Rattle.form_parts.specs.Types.{target, declared_name, after_star}
use Rattle.form_parts.specs.Pointers.{malloc, cast}
use Rattle.program_form.specs.Numbers.{number}

-- a statement, and the variables in scope after it
abbrev pub StatementAndScope : Type 0
StatementAndScope = Statement × List Variable

abbrev pub value_at : InitialiserLayer → Option Expression
value_at (Initialiser-F.Value e) = Some e
value_at _ = None

-- the value that an initialiser is, if it is no list in braces
unfoldable pub value_of : Initialiser → Option Expression
value_of initialiser = value_at (out-Initialiser initialiser)

module _ (texts : Texts) where
  -- the name, where it may be declared in a block whose variables begin at `start`
  abbrev pub new_name : ℕ → List Variable → ℕ → Option ℕ
  new_name start scope name = if is_taken texts start scope name then None else Some name

  -- `int NAME = value;`
  unfoldable pub number_declaration : ℕ → List Variable → ℕ → ℕ → Expression → Option StatementAndScope
  number_declaration start scope line name value = new_name start scope name >>= λ name.
      number texts max_depth (scope ++ (name, holds.Number) ∷ []) value >>= λ x.
      Some (s.Declaration line x, scope ++ (name, holds.Number) ∷ [])

  abbrev pub pointer_value_by : List Variable → ℕ → Target → Option ℕ → Expression → Option Statement
  pointer_value_by scope line target (Some size) value = Some (s.Allocation line target size)
  pointer_value_by scope line target None value =
      cast texts scope target value >>= λ source. Some (s.PointerDeclaration line target source)

  -- `malloc(SIZE)` or `(TARGET *)SOURCE`, as the value of a new pointer
  abbrev pub pointer_value : List Variable → ℕ → Target → Expression → Option Statement
  pointer_value scope line target value = pointer_value_by scope line target (malloc texts value) value

  -- `TARGET *NAME = malloc(SIZE);` or `TARGET *NAME = (TARGET *)SOURCE;`
  unfoldable pub pointer_declaration : ℕ → List Variable → ℕ → Target → ℕ → Expression → Option StatementAndScope
  pointer_declaration start scope line target name value = new_name start scope name >>= λ name.
      pointer_value (scope ++ (name, holds.Pointer target) ∷ []) line target value >>= λ made.
      Some (made, scope ++ (name, holds.Pointer target) ∷ [])

  -- a variable that is no pointer is an `int`
  abbrev pub plain_declaration : ℕ → List Variable → ℕ → Target → ℕ → Expression → Option StatementAndScope
  plain_declaration start scope line to.Int name value = number_declaration start scope line name value
  plain_declaration start scope line to.Char name value = None

  abbrev pub declaration_by : ℕ → List Variable → ℕ → Target → Declarator → Expression → Option Declarator → Option StatementAndScope
  declaration_by start scope line target declarator value (Some inner) =
      declared_name texts inner >>= λ name. pointer_declaration start scope line target name value
  declaration_by start scope line target declarator value None =
      declared_name texts declarator >>= λ name. plain_declaration start scope line target name value

  abbrev pub declaration_of : ℕ → List Variable → ℕ → Target → Declarator → Expression → Option StatementAndScope
  declaration_of start scope line target declarator value =
      declaration_by start scope line target declarator value (after_star declarator)

  -- one declarator with a value that is no list in braces
  unfoldable pub declaration : ℕ → List Variable → Declaration → Option StatementAndScope
  declaration start scope syntax = only syntax.declarators >>= λ one. one.value >>= λ initialiser. value_of initialiser >>= λ value.
      target syntax.specs >>= λ to. declaration_of start scope syntax.place.line to one.declarator value
