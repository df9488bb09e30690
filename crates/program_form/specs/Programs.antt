-- The form that runs: functions `void NAME(void)`, of different names.
use Rattle.std.specs.Prelude.{◌≡◌, ℕ, ◌==◌, List, [], ◌∷◌, ◌++◌, length, Option, Some, None, is_some, Result, Ok, Err, if◌then◌else◌}
use Rattle.c_grammar.specs.Limits.{max_depth}
use Rattle.c_grammar.specs.declared.phrases.Declarator.{Declarator, out-Declarator}
use Rattle.c_grammar.specs.declared.phrases.Declarator.TheOpen.{Declarator-F}
use Rattle.c_grammar.specs.declared.units.Function.{Function as Syntax}
use Rattle.c_grammar.specs.declared.units.External.{External}
use Rattle.c_grammar.specs.declared.units.External.TheVariants as x
use Rattle.c_grammar.specs.declared.units.Unit.{Unit as Whole}
use Rattle.plain_meaning.specs.declared.tree.Function.{Function}
use Rattle.plain_meaning.specs.declared.tree.Program.{Program}
use Rattle.scoped_names.specs.Names.{last_place}
use Rattle.token_texts.specs.Texts.{Texts, name_of}
use Rattle.program_form.specs.declared.program.NumberedFunction.{NumberedFunction}
use Rattle.form_parts.specs.Layers.{DeclaratorLayer, ◌>>=◌}
use Rattle.form_parts.specs.Variables.{is_reserved}
use Rattle.form_parts.specs.Types.{is_void, declared_name}
use Rattle.program_form.specs.Statements.{block, statement}

-- the line on which a declaration or a function begins
abbrev pub line_of : External → ℕ
line_of (x.Declaration d) = d.place.line
line_of (x.Function f) = f.place.line

module _ (texts : Texts) where
  abbrev pub function_name_at : DeclaratorLayer → Option ℕ
  function_name_at (Declarator-F.Function place inner parameters) =
      if length parameters == 0 then declared_name texts inner else None
  function_name_at _ = None

  -- `NAME(void)` or `NAME()`
  unfoldable pub function_name : Declarator → Option ℕ
  function_name declarator = function_name_at (out-Declarator declarator)

  -- the name may be that of a function after those of these names
  abbrev pub new_function_name : List ℕ → ℕ → Option ℕ
  new_function_name earlier name =
      if is_reserved texts name then None else if is_some (last_place earlier name) then None else Some name

  -- `void NAME(void) { .. }`, with the number of its name
  unfoldable pub function : List ℕ → Syntax → Option NumberedFunction
  function earlier f = if is_void f.specs then (function_name f.declarator >>= λ found. new_function_name earlier found >>= λ number.
      block texts (statement texts max_depth) [] f.body >>= λ body.
      Some (record { number = number; function = record { name = name_of texts number; body = body } })) else None

  abbrev pub external : List ℕ → External → Option NumberedFunction
  external earlier (x.Declaration d) = None
  external earlier (x.Function f) = function earlier f

  abbrev pub next_by : (List ℕ → List Function → Result (List Function) ℕ) → List ℕ → List Function → External →
      Option NumberedFunction → Result (List Function) ℕ
  next_by rest earlier found one (Some f) = rest (earlier ++ f.number ∷ []) (found ++ f.function ∷ [])
  next_by rest earlier found one None = Err (line_of one)

  -- All functions, or the line of the first declaration or function that is outside the form.
  unfoldable pub functions : List ℕ → List Function → List External → Result (List Function) ℕ
  functions earlier found [] = Ok found
  functions earlier found (one ∷ rest) =
      next_by (λ names all. functions names all rest) earlier found one (external earlier one)

-- What a unit is as a program: the program, or the line of the first declaration or function that is outside the form.
abbrev pub Forms : Whole → Result (List Function) ℕ → Type 0
Forms unit answer = functions unit.texts [] [] unit.items ≡ answer

-- The unit is this program.
abbrev pub IsForm : Whole → Program → Type 0
IsForm unit program = Forms unit (Ok program.functions)

-- The unit is no program of the form: this is the line of the first declaration or function outside it.
abbrev pub IsOutside : Whole → ℕ → Type 0
IsOutside unit line = Forms unit (Err line)
