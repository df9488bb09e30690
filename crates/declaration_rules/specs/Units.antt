-- Whole texts (C11 6.9): the functions and objects that they define, in order, and the names of file scope.
use Rattle.std.specs.Prelude.{ℕ, zero, suc, ◌+◌, ◌==◌, ℤ, Bool, false, not, List, [], ◌∷◌, ◌++◌, length, drop, Option}
use Rattle.std.specs.Prelude.{Some, None, Ok, if◌then◌else◌}
use Rattle.c_tokens.specs.Names.{Name}
use Rattle.c_grammar.specs.declared.phrases.Expression.{Expression}
use Rattle.c_grammar.specs.declared.units.External.{External}
use Rattle.c_grammar.specs.declared.units.External.TheVariants as x
use Rattle.c_grammar.specs.declared.units.Unit.{Unit as Whole}
use Rattle.c_types.specs.declared.kinds.TypeError.TheVariants as e
use Rattle.c_types.specs.Table.{Types, basic_types}
use Rattle.c_tree.specs.declared.program.Function.{Function}
use Rattle.c_tree.specs.declared.program.GlobalVariable.{GlobalVariable}
use Rattle.c_tree.specs.declared.program.Meaning.{Meaning}
use Rattle.c_tree.specs.declared.program.Meaning.TheVariants as meaning
use Rattle.c_tree.specs.declared.program.Named.{Named}
use Rattle.c_tree.specs.declared.program.Program.{Program}
use Rattle.c_tree.specs.declared.values.Value.{Value}
use Rattle.well_typed.specs.Kinds.{has_size}
use Rattle.static_rules.specs.declared.faults.CheckKind.TheVariants as why
use Rattle.static_rules.specs.declared.judged.Judged.{Judged}
use Rattle.static_rules.specs.declared.judged.Operand.{Operand}
use Rattle.static_rules.specs.Answers.{Answer, ◌>>=◌, fault_if}
use Rattle.static_rules.specs.Predefined.{predefined_of}
use Rattle.static_rules.specs.Source.{Source, spelled}
use Rattle.static_rules.specs.States.{symbol_of}
use Rattle.static_rules.specs.declared.states.State.{State}
use Rattle.declaration_rules.specs.Readers.{Readers}
use Rattle.declaration_rules.specs.Declarations.{declaration}
use Rattle.declaration_rules.specs.Definitions.{defined_names, definition}
use Rattle.static_rules.specs.declared.states.GlobalSoFar.{GlobalSoFar}
use Rattle.static_rules.specs.declared.states.Made.TheVariants as m
use Rattle.static_rules.specs.declared.states.Made.{Made}
use Rattle.static_rules.specs.declared.states.Symbol.TheVariants as means
use Rattle.static_rules.specs.declared.states.Symbol.{Symbol}
use Rattle.static_rules.specs.declared.states.TagSymbol.TheVariants as tagged
use Rattle.static_rules.specs.declared.states.TagSymbol.{TagSymbol}
use Rattle.static_rules.specs.declared.states.Where.{Where}

-- ---- what the names of file scope mean that are no objects and no functions

abbrev pub typedef_named : Made → Option Meaning
typedef_named (m.Known kind) = Some (meaning.Typedef kind)
typedef_named (m.Function signature) = Some meaning.FunctionTypedef
typedef_named (m.Array of count) = None
typedef_named (m.Open of) = None

abbrev pub symbol_meaning : Symbol → Option Meaning
symbol_meaning (means.Typedef type) = typedef_named type
symbol_meaning (means.Constant n) = Some (meaning.Constant n)
symbol_meaning other = None

abbrev pub tag_meaning : TagSymbol → Option Meaning
tag_meaning (tagged.Aggregate union_tag kind) = Some (meaning.Tag kind)
tag_meaning tagged.Enumeration = Some meaning.EnumTag

abbrev pub with_named : Name → Option Meaning → List Named → List Named
with_named name (Some one) rest = record { name = name; meaning = one } ∷ rest
with_named name None rest = rest

abbrev pub all_named : {A : Type 0} → Source → (A → Option Meaning) → List (ℕ × A) → List Named
all_named source means [] = []
all_named source means ((name, one) ∷ rest) = with_named (spelled source name) (means one) (all_named source means rest)

-- The names that one declaration of file scope adds: its tags, and then its ordinary names, each in their order.
unfoldable pub names_since : Source → State → State → List Named
names_since source before s =
    all_named source tag_meaning (drop (length before.tags) s.tags)
    ++ all_named source symbol_meaning (drop (length before.symbols) s.symbols)

-- ---- the objects in order of definition; those that are declared alone come behind them, in order of first
-- declaration

abbrev pub names_global : ℕ → Option Symbol → Bool
names_global number (Some (means.Global other)) = number == other
names_global number other = false

abbrev pub global_variable : Source → State → ℕ → ℕ × GlobalSoFar → GlobalVariable
global_variable source s number (name, global) = record {
  number = number;
  name = spelled source name;
  visible = names_global number (symbol_of s name);
  kind = global.kind;
  line = global.line;
  initial = global.initial;
}

abbrev pub has_order : ℕ → Option ℕ → Bool
has_order order (Some other) = order == other
has_order order None = false

-- those that are the first of an order
abbrev pub of_order : Source → State → ℕ → ℕ → List (ℕ × GlobalSoFar) → List GlobalVariable
of_order source s order number [] = []
of_order source s order number (global ∷ rest) =
    if has_order order global.1.order then global_variable source s number global ∷ []
    else of_order source s order (number + 1) rest

abbrev pub defined_globals : Source → State → ℕ → ℕ → List GlobalVariable
defined_globals source s zero order = []
defined_globals source s (suc count) order =
    of_order source s order 0 s.globals ++ defined_globals source s count (order + 1)

-- one that is declared alone is zero, and has a size by the end of the text
abbrev pub declared_by : Source → State → ℕ → ℕ × GlobalSoFar → Option ℕ → Answer (List GlobalVariable) →
    Answer (List GlobalVariable)
declared_by source s number global (Some order) rest = rest
declared_by source s number global None rest =
    fault_if (not (has_size s.types global.1.kind)) (why.BadType e.Incomplete) global.1.named_at >>= λ sized.
    rest >>= λ more. Ok (global_variable source s number global ∷ more)

abbrev pub declared_globals : Source → State → ℕ → List (ℕ × GlobalSoFar) → Answer (List GlobalVariable)
declared_globals source s number [] = Ok []
declared_globals source s number (global ∷ rest) =
    declared_by source s number global global.1.order (declared_globals source s (number + 1) rest)

unfoldable pub all_globals : Source → State → Answer (List GlobalVariable)
all_globals source s =
    declared_globals source s 0 s.globals >>= λ rest. Ok (defined_globals source s s.defined 0 ++ rest)

-- ---- the whole text

-- what is found of a text, beside its types and literals, which are in the state
pub record Contents : Type 0 where
  pub functions : List Function
  pub globals : List GlobalVariable
  pub names : List Named

-- before a text: the nine types, and the predefined names
abbrev pub start : Source → State
start source = record {
  types = basic_types;
  symbols = predefined_of source;
  tags = [];
  functions = [];
  globals = [];
  defined = 0;
  variables = [];
  block = [];
  open_element = 0;
  literals = [];
  bytes = 0;
}

-- file scope (C11 6.2.1p4)
abbrev pub file_scope : Where
file_scope =
    record { line = 0; names_before = 0; tags_before = 0; unevaluated = false; constant = false; in_function = false }

module _ (source : Source) (readers : Readers)
    (constant : ℕ → Where → State → Expression → Answer (ℤ × State))
    (valued : ℕ → State → Judged → Operand × State) (converted : Types → ℕ → ℕ → Operand → Option Operand)
    (literal : Where → State → Expression → Option (Answer (List ℕ × State)))
    (condition : Where → State → Expression → Answer (Value × State))
  where
    abbrev pub external : List ℕ → State → External → Answer (List Function × State)
    external defined s (x.Declaration d) =
        declaration source readers valued converted literal defined file_scope s d >>= λ r. Ok ([], r.1)
    external defined s (x.Function f) =
        definition source readers constant valued converted literal condition defined file_scope s f >>= λ r.
        Ok (r.0 ∷ [], r.1)

    abbrev pub with_more : List Function → List Named → Contents → Contents
    with_more functions names rest = record rest { functions = functions ++ rest.functions; names = names ++ rest.names }

    -- declarations and definitions in their order
    unfoldable pub externals : List ℕ → State → List External → Answer (Contents × State)
    externals defined s [] =
        all_globals source s >>= λ globals. Ok (record { functions = []; globals = globals; names = [] }, s)
    externals defined s (first ∷ rest) =
        external defined s first >>= λ r. externals defined r.1 rest >>= λ more.
        Ok (with_more r.0 (names_since source s r.1) more.0, more.1)

    -- All that stands in a text, and the state behind it.
    unfoldable pub unit : State → List External → Answer (Contents × State)
    unit s list = externals (defined_names source list) s list

    abbrev pub as_program : Contents × State → Program
    as_program (found, s) = record {
      types = s.types;
      functions = found.functions;
      globals = found.globals;
      literals = s.literals;
      names = found.names;
    }

    -- The program of a text, or its first fault.
    unfoldable pub program_of : Whole → Answer Program
    program_of whole = unit (start source) whole.items >>= λ r. Ok (as_program r)
