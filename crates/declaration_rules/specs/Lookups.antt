-- What a program is asked by name: for a function that may be run, and for a type.
use Rattle.std.specs.Prelude.{ℕ, ◌+◌, ◌==◌, Bool, true, false, ◌&&◌, ◌||◌, List, [], ◌∷◌, ◌++◌, length, map, take}
use Rattle.std.specs.Prelude.{position, Option, Some, None, Result, Ok, Err, if◌then◌else◌}
use Rattle.std.specs.Str.{bytes_eq}
use Rattle.c_tokens.specs.Names.{Name}
use Rattle.c_grammar.specs.declared.phrases.TypePhrase.{TypePhrase}
use Rattle.c_types.specs.declared.kinds.CType.{CType}
use Rattle.c_types.specs.declared.kinds.CType.TheVariants as c
use Rattle.c_types.specs.Table.{Types, kind_of}
use Rattle.c_tree.specs.declared.program.Function.{Function}
use Rattle.c_tree.specs.declared.program.GlobalVariable.{GlobalVariable}
use Rattle.c_tree.specs.declared.program.Meaning.{Meaning}
use Rattle.c_tree.specs.declared.program.Meaning.TheVariants as meaning
use Rattle.c_tree.specs.declared.program.Named.{Named}
use Rattle.c_tree.specs.declared.program.Program.{Program}
use Rattle.c_tree.specs.declared.program.Variable.{Variable}
use Rattle.well_typed.specs.Kinds.{is_whole, has_size}
use Rattle.static_rules.specs.Answers.{Answer}
use Rattle.static_rules.specs.Predefined.{predefined_of}
use Rattle.static_rules.specs.Source.{Source}
use Rattle.static_rules.specs.declared.states.State.{State}
use Rattle.static_rules.specs.Operands.{in_table}
use Rattle.declaration_rules.specs.Readers.{Readers, type_phrase}
use Rattle.declaration_rules.specs.Units.{file_scope}
use Rattle.static_rules.specs.declared.states.DeclaredFunction.{DeclaredFunction}
use Rattle.static_rules.specs.declared.states.GlobalSoFar.{GlobalSoFar}
use Rattle.static_rules.specs.declared.states.Made.TheVariants as m
use Rattle.static_rules.specs.declared.states.Made.{Made}
use Rattle.static_rules.specs.declared.states.Symbol.TheVariants as means
use Rattle.static_rules.specs.declared.states.Symbol.{Symbol}
use Rattle.static_rules.specs.declared.states.TagSymbol.TheVariants as tagged
use Rattle.static_rules.specs.declared.states.TagSymbol.{TagSymbol}

-- ---- functions

-- why a function may not be run
pub data EntryFault : Type 0 where
  -- none of this name is defined
  Not_found : EntryFault
  -- it has a parameter, or it gives something else than a whole number
  Bad_signature : EntryFault

abbrev pub may_run : Function → Bool
may_run function = (function.parameters == 0) && ((function.result == 1) || is_whole function.result)

abbrev pub entry_from : ℕ → List Function → Name → Result ℕ EntryFault
entry_from n [] name = Err Not_found
entry_from n (first ∷ rest) name =
    if bytes_eq first.name name then (if may_run first then Ok n else Err Bad_signature)
    else entry_from (n + 1) rest name

-- The number of the function of a name, which takes nothing and gives nothing or a whole number.
unfoldable pub find_entry : Program → Name → Result ℕ EntryFault
find_entry program name = entry_from 0 program.functions name

-- ---- types: a word is read as a tag where it is a single name that is no typedef, and else as the name of a type

pub data Word : Type 0 where
  Tag_name : Name → Word
  Type_name : Source → TypePhrase → Word

abbrev pub is_type : Meaning → Bool
is_type (meaning.Typedef kind) = true
is_type meaning.FunctionTypedef = true
is_type (meaning.Tag kind) = false
is_type meaning.EnumTag = false
is_type (meaning.Constant n) = false

-- the names of file scope that are types, beside the predefined ones
abbrev pub types_named : List Named → List Name
types_named [] = []
types_named (first ∷ rest) = if is_type first.meaning then first.name ∷ types_named rest else types_named rest

abbrev pub typedef_names : Program → List Name
typedef_names program = types_named program.names

-- a type that has a size, and the table with it
abbrev pub sized_type : ℕ → Types → Option (ℕ × Types)
sized_type kind types = if has_size types kind then Some (kind, types) else None

-- ---- tags

abbrev pub tag_by : Name → Meaning → Option ℕ → Option ℕ
tag_by name (meaning.Tag kind) rest = Some kind
tag_by name other rest = rest

abbrev pub tag_from : List Named → Name → Option ℕ
tag_from [] name = None
tag_from (first ∷ rest) name =
    if bytes_eq first.name name then tag_by name first.meaning (tag_from rest name) else tag_from rest name

abbrev pub tagged_type : Types → Option ℕ → Option (ℕ × Types)
tagged_type types (Some kind) = sized_type kind types
tagged_type types None = None

-- the struct or union of a tag of file scope
unfoldable pub tag_type : Program → Name → Option (ℕ × Types)
tag_type program name = tagged_type program.types (tag_from program.names name)

-- ---- what stands in file scope at the end of the text, as far as the program keeps it: names are numbered by the
-- other text

-- the number that a name has there, if it stands there
abbrev pub number_in : Source → Name → Option ℕ
number_in source name = position (bytes_eq name) source.texts.names

abbrev pub with_entry : {A : Type 0} → Option ℕ → Option A → List (ℕ × A) → List (ℕ × A)
with_entry (Some number) (Some one) rest = (number, one) ∷ rest
with_entry (Some number) None rest = rest
with_entry None found rest = rest

-- only that a typedef is a function's counts there: nothing that is made of it has a size
abbrev pub named_symbol : Meaning → Option Symbol
named_symbol (meaning.Typedef kind) = Some (means.Typedef (m.Known kind))
named_symbol meaning.FunctionTypedef = Some (means.Typedef (m.Function (record { result = 1; parameters = [] })))
named_symbol (meaning.Constant n) = Some (means.Constant n)
named_symbol (meaning.Tag kind) = None
named_symbol meaning.EnumTag = None

abbrev pub is_union_by : Option CType → Bool
is_union_by (Some (c.Union tag)) = true
is_union_by other = false

abbrev pub named_tag : Types → Meaning → Option TagSymbol
named_tag types (meaning.Tag kind) = Some (tagged.Aggregate (is_union_by (kind_of types kind)) kind)
named_tag types meaning.EnumTag = Some tagged.Enumeration
named_tag types (meaning.Typedef kind) = None
named_tag types meaning.FunctionTypedef = None
named_tag types (meaning.Constant n) = None

abbrev pub renumbered : {A : Type 0} → Source → (Meaning → Option A) → List Named → List (ℕ × A)
renumbered source means [] = []
renumbered source means (first ∷ rest) =
    with_entry (number_in source first.name) (means first.meaning) (renumbered source means rest)

abbrev pub function_symbols : Source → ℕ → List Function → List (ℕ × Symbol)
function_symbols source n [] = []
function_symbols source n (first ∷ rest) =
    with_entry (number_in source first.name) (Some (means.Function n)) (function_symbols source (n + 1) rest)

abbrev pub if_visible : Bool → ℕ → Option Symbol
if_visible true n = Some (means.Global n)
if_visible false n = None

abbrev pub global_symbols : Source → ℕ → List GlobalVariable → List (ℕ × Symbol)
global_symbols source n [] = []
global_symbols source n (first ∷ rest) =
    with_entry (number_in source first.name) (if_visible first.visible n) (global_symbols source (n + 1) rest)

abbrev pub number_or_zero : Option ℕ → ℕ
number_or_zero (Some number) = number
number_or_zero None = 0

abbrev pub function_again : ℕ → Function → DeclaredFunction
function_again n function = record {
  signature = record {
    result = function.result;
    parameters = map (λ (variable : Variable). variable.kind) (take function.parameters function.variables);
  };
  number = Some n;
  defined = true;
}

abbrev pub functions_again : Source → ℕ → List Function → List (ℕ × DeclaredFunction)
functions_again source n [] = []
functions_again source n (first ∷ rest) =
    (number_or_zero (number_in source first.name), function_again n first) ∷ functions_again source (n + 1) rest

abbrev pub global_again : ℕ → GlobalVariable → GlobalSoFar
global_again n global = record {
  kind = global.kind;
  line = global.line;
  named_at = global.line;
  order = Some n;
  initial = global.initial;
}

abbrev pub globals_again : Source → ℕ → List GlobalVariable → List (ℕ × GlobalSoFar)
globals_again source n [] = []
globals_again source n (first ∷ rest) =
    (number_or_zero (number_in source first.name), global_again n first) ∷ globals_again source (n + 1) rest

-- the state at the end of the text
unfoldable pub state_behind : Source → Program → State
state_behind source program = record {
  types = program.types;
  symbols =
      predefined_of source ++ renumbered source named_symbol program.names
      ++ function_symbols source 0 program.functions ++ global_symbols source 0 program.globals;
  tags = renumbered source (named_tag program.types) program.names;
  functions = functions_again source 0 program.functions;
  globals = globals_again source 0 program.globals;
  defined = length program.globals;
  variables = [];
  block = [];
  open_element = 0;
  literals = [];
  bytes = 0;
}

-- ---- the type of a word

abbrev pub sized_made : Made × State → Option (ℕ × Types)
sized_made (type, s) = let r = in_table s type in sized_type r.0 r.1.types

abbrev pub sized_answer : Answer (Made × State) → Option (ℕ × Types)
sized_answer (Ok found) = sized_made found
sized_answer (Err reason) = None

-- The type that a word means at the end of a program's text, with the table that has it; nothing where it means none
-- that has a size. (`readers` are those of texts of these names.)
unfoldable pub find_type : (Source → Readers) → Program → Word → Option (ℕ × Types)
find_type readers program (Tag_name name) = tag_type program name
find_type readers program (Type_name source phrase) =
    sized_answer (type_phrase (readers source) file_scope (state_behind source program) phrase)
