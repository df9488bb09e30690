-- Definitions of functions (C11 6.9.1).
use Rattle.std.specs.Prelude.{ℕ, zero, suc, ℤ, true, List, [], ◌∷◌, ◌++◌, length, map, Option}
use Rattle.std.specs.Prelude.{Some, None, Ok, if◌then◌else◌}
use Rattle.c_grammar.specs.declared.limits.TheConstants.{MAX_DEPTH}
use Rattle.c_grammar.specs.declared.phrases.Declarator.{Declarator, out-Declarator}
use Rattle.c_grammar.specs.declared.phrases.Declarator.TheOpen.{Declarator-F}
use Rattle.c_grammar.specs.declared.phrases.Expression.{Expression}
use Rattle.c_grammar.specs.declared.statements.Block.{Block as SyntaxBlock}
use Rattle.c_grammar.specs.declared.units.External.{External}
use Rattle.c_grammar.specs.declared.units.External.TheVariants as x
use Rattle.c_grammar.specs.declared.units.Function.{Function as Syntax}
use Rattle.c_types.specs.Table.{Types}
use Rattle.c_tree.specs.declared.program.Function.{Function}
use Rattle.c_tree.specs.declared.program.Variable.{Variable}
use Rattle.c_tree.specs.declared.statements.Block.{Block}
use Rattle.c_tree.specs.declared.values.Value.{Value}
use Rattle.scoped_meanings.specs.Meanings.{declared_at, put_at}
use Rattle.static_rules.specs.declared.faults.CheckKind.TheVariants as why
use Rattle.static_rules.specs.declared.judged.Judged.{Judged}
use Rattle.static_rules.specs.declared.judged.Operand.{Operand}
use Rattle.static_rules.specs.Answers.{Answer, ◌>>=◌, fault, fault_if, or_mismatch}
use Rattle.static_rules.specs.Layers.{DeclaratorLayer}
use Rattle.static_rules.specs.Source.{Source, name_at, spelled}
use Rattle.static_rules.specs.States.{new_scope, closed, on_line}
use Rattle.static_rules.specs.declared.states.State.{State}
use Rattle.declaration_rules.specs.Parts.{own_list, declares_function, made}
use Rattle.declaration_rules.specs.Readers.{Readers, declarator_line}
use Rattle.declaration_rules.specs.declared.parts.Around.{Around}
use Rattle.declaration_rules.specs.declared.parts.DeclaredName.{DeclaredName}
use Rattle.declaration_rules.specs.declared.parts.ParameterList.{ParameterList}
use Rattle.declaration_rules.specs.declared.parts.Part.{Part}
use Rattle.declaration_rules.specs.declared.specifiers.Setting.TheVariants as specs_of
use Rattle.declaration_rules.specs.Agreement.{signature_of, function}
use Rattle.declaration_rules.specs.Declarations.{declaration}
use Rattle.declaration_rules.specs.Statements.{in_function_of, function_block}
use Rattle.static_rules.specs.declared.states.DeclaredFunction.{DeclaredFunction}
use Rattle.static_rules.specs.declared.states.Made.{Made}
use Rattle.static_rules.specs.declared.states.Where.{Where}
use Rattle.well_typed.specs.declared.signatures.Signature.{Signature}

-- ---- the functions that a text defines, which calls may name before

module _ (source : Source) (inner : Declarator → Option ℕ) where
  abbrev pub name_in : DeclaratorLayer → Option ℕ
  name_in (Declarator-F.Declarator::Name place) = Some (name_at source place.token)
  name_in Declarator-F.Unnamed = None
  name_in (Declarator-F.Pointer place qualifiers within) = inner within
  name_in (Declarator-F.Declarator::Parentheses place within) = inner within
  name_in (Declarator-F.Array place within size) = inner within
  name_in (Declarator-F.Function place within parameters) = inner within

-- the name that a declarator declares, which is nested no deeper than `depth`
unfoldable pub name_within : Source → ℕ → Declarator → Option ℕ
name_within source zero declarator = None
name_within source (suc depth) declarator = name_in source (name_within source depth) (out-Declarator declarator)

abbrev pub with_name : Option ℕ → List ℕ → List ℕ
with_name (Some name) names = name ∷ names
with_name None names = names

-- The names of the functions that a text defines, in the order of their definitions.
unfoldable pub defined_names : Source → List External → List ℕ
defined_names source [] = []
defined_names source (x.Declaration d ∷ rest) = defined_names source rest
defined_names source (x.Function f ∷ rest) =
    with_name (name_within source MAX_DEPTH f.declarator) (defined_names source rest)

-- ---- parameters, which are the first variables of the function

abbrev pub named_at : ℕ → Variable → Variable
named_at line parameter = record parameter { line = line }

-- What the list declares is known in the body, whose scope it shares (C11 6.2.1p4).
unfoldable pub with_parameters : ℕ → ParameterList → State → State
with_parameters line list s = record s {
  symbols = s.symbols ++ list.names;
  tags = s.tags ++ list.tags;
  variables = map (named_at line) list.variables;
  block = [];
}

-- ---- a definition

-- A function that has a body has no second one (C11 6.9p3).
abbrev pub defined_once : ℕ → ℕ → DeclaredFunction → State → Answer State
defined_once here number earlier s =
    fault_if earlier.defined why.Redefined here >>= λ new.
    Ok (record s { functions = put_at s.functions number (record earlier { defined = true }) })

abbrev pub inside : Where → ℕ → State → Where
inside w line s = new_scope (record w { line = line; in_function = true }) s

module _ (source : Source) (readers : Readers)
    (constant : ℕ → Where → State → Expression → Answer (ℤ × State))
    (valued : ℕ → State → Judged → Operand × State) (converted : Types → ℕ → ℕ → Operand → Option Operand)
    (literal : Where → State → Expression → Option (Answer (List ℕ × State)))
    (condition : Where → State → Expression → Answer (Value × State))
    -- the names of the functions that the text defines
    (defined : List ℕ)
  where
    -- the statements of a function's body, and its declarations
    abbrev pub body_block : Where → State → ℕ → SyntaxBlock → Answer (Block × State)
    body_block w s result body =
        function_block readers.expression constant valued converted condition
        (declaration source readers valued converted literal defined) MAX_DEPTH (in_function_of result) w s body

    abbrev pub defined_function : DeclaredName → ℕ → ℕ → State → Block × State → Function × State
    defined_function name result parameters before (body, s) = (
      record {
        name = spelled source name.number;
        line = name.line;
        result = result;
        parameters = parameters;
        variables = s.variables;
        body = body;
      },
      record (closed before s) { variables = []; block = [] },
    )

    abbrev pub body_of : Where → Syntax → DeclaredName → ParameterList → ℕ → State → Answer (Function × State)
    body_of w f name list result s =
        body_block (inside w f.place.line s) (with_parameters name.line list s) result f.body >>= λ r.
        Ok (defined_function name result (length list.variables) s r)

    -- the type that the declarator gives, which is a function's (C11 6.9.1p2)
    abbrev pub own_type : ℕ → List Part → Made → State → Answer (Signature × State)
    own_type here parts base s =
        if declares_function parts base then made s parts base >>= signature_of here else fault why.TypeMismatch here

    -- It has a list of parameters of its own, which no typedef gives.
    abbrev pub definition_by : Where → Syntax → DeclaredName → ℕ → List Part → ℕ × State → Answer (Function × State)
    definition_by w f name here parts (number, s) =
        or_mismatch here (declared_at s.functions number) >>= λ earlier. defined_once here number earlier s >>= λ after.
        or_mismatch here (own_list parts) >>= λ list. body_of w f name list earlier.signature.result after

    abbrev pub definition_of : Where → Syntax → ℕ → Made → Around × State → Answer (Function × State)
    definition_of w f here base (a, s) =
        or_mismatch here a.name >>= λ name.
        function source defined w s (record { name = name.number; here = here }) (own_type here a.parts base s) >>=
        definition_by w f name here a.parts

    -- `specs declarator { .. }`
    unfoldable pub definition : Where → State → Syntax → Answer (Function × State)
    definition w s f =
        readers.specs specs_of.Definition (on_line w f.place.line) s f.specs >>= λ base.
        readers.declarator (on_line w f.place.line) base.1 f.declarator >>=
        definition_of (on_line w f.place.line) f (declarator_line f.place.line f.declarator) base.0
