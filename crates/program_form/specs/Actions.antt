-- What an expression does that is a statement: it assigns, prints, or gives an object up.
use Rattle.std.specs.Prelude.{ℕ, List, [], ◌∷◌, Option, Some, None, codes, if◌then◌else◌}
use Rattle.std.specs.Str.{bytes_eq}
use Rattle.c_grammar.specs.Limits.{max_depth}
use Rattle.c_grammar.specs.declared.words.Assignment.TheVariants as assign
use Rattle.c_grammar.specs.declared.phrases.Expression.{Expression, out-Expression}
use Rattle.c_grammar.specs.declared.phrases.Declarator.TheOpen.{Expression-F}
use Rattle.plain_meaning.specs.declared.tree.Statement.{Statement}
use Rattle.plain_meaning.specs.declared.tree.Statement.TheVariants as s
use Rattle.token_texts.specs.Texts.{Texts, number_at, name_of}
use Rattle.form_parts.specs.declared.sort.Sort.{Sort}
use Rattle.form_parts.specs.declared.sort.Sort.TheVariants as holds
use Rattle.form_parts.specs.Layers.{ExpressionLayer, ◌>>=◌, only}
use Rattle.form_parts.specs.Variables.{Variable, meaning}
use Rattle.form_parts.specs.Pointers.{lone_name, pointer, cast}
use Rattle.program_form.specs.Numbers.{number}
use Rattle.form_parts.specs.Formats.{is_format}

module _ (texts : Texts) where
  abbrev pub assignment_by : List Variable → ℕ → Expression → ℕ × Sort → Option Statement
  assignment_by scope line value (variable, holds.Number) =
      number texts max_depth scope value >>= λ x. Some (s.Assignment line variable x)
  assignment_by scope line value (variable, holds.Pointer target) =
      cast texts scope target value >>= λ source. Some (s.PointerAssignment line (record { variable = variable; target = target }) source)

  -- `NAME = value`
  unfoldable pub name_assignment : List Variable → ℕ → ℕ → Expression → Option Statement
  name_assignment scope line name value = meaning scope name >>= assignment_by scope line value

  -- `NAME[index] = value`
  unfoldable pub element_assignment : List Variable → ℕ → Expression → Expression → Expression → Option Statement
  element_assignment scope line array index value = pointer texts scope array >>= λ p. number texts max_depth scope index >>= λ i.
      number texts max_depth scope value >>= λ x. Some (s.ElementAssignment line p i x)

  abbrev pub assignment_at : List Variable → ℕ → Expression → ExpressionLayer → Option Statement
  assignment_at scope line value (Expression-F.Expression::Name place) = name_assignment scope line (number_at texts place.token) value
  assignment_at scope line value (Expression-F.Index place array index) = element_assignment scope line array index value
  assignment_at scope line value _ = None

  unfoldable pub assignment : List Variable → ℕ → Expression → Expression → Option Statement
  assignment scope line left value = assignment_at scope line value (out-Expression left)

  abbrev pub print_by : List Variable → ℕ → List Expression → Option Statement
  print_by scope line (format ∷ value ∷ []) =
      if is_format texts format then (number texts max_depth scope value >>= λ x. Some (s.Print line x)) else None
  print_by scope line _ = None

  -- `printf(FORMAT, value)`
  unfoldable pub print_statement : List Variable → ℕ → List Expression → Option Statement
  print_statement = print_by

  -- `free(NAME)`
  unfoldable pub free_statement : List Variable → ℕ → List Expression → Option Statement
  free_statement scope line arguments = only arguments >>= λ one. pointer texts scope one >>= λ p. Some (s.Free line p)

  -- a call of the function of this name
  unfoldable pub call_statement : List Variable → ℕ → ℕ → List Expression → Option Statement
  call_statement scope line name arguments =
      if bytes_eq (name_of texts name) (codes "printf") then print_statement scope line arguments
      else if bytes_eq (name_of texts name) (codes "free") then free_statement scope line arguments else None

  abbrev pub action_at : List Variable → ℕ → ExpressionLayer → Option Statement
  action_at scope line (Expression-F.Assign place assign.Plain left value) = assignment scope line left value
  action_at scope line (Expression-F.Call place function arguments) =
      lone_name texts function >>= λ name. call_statement scope line name arguments
  action_at scope line _ = None

  -- an expression that is a statement on this line
  unfoldable pub action : List Variable → ℕ → Expression → Option Statement
  action scope line e = action_at scope line (out-Expression e)
