-- How large the program is that the static rules answer, and that calls take.
use Rattle.std.specs.Prelude.{ℕ, ◌+◌, ◌≤◌, List, [], ◌∷◌, length, sum_by, All}
use Rattle.c_types.specs.Shapes.{size}
use Rattle.c_types.specs.Table.{Types, shape_of}
use Rattle.c_tree.specs.declared.limits.TheConstants.{MAX_PARAMETERS, MAX_INITIALISED_BYTES, MAX_NODES}
use Rattle.c_tree.specs.declared.statements.Initial.{Initial}
use Rattle.c_tree.specs.declared.program.Function.{Function}
use Rattle.c_tree.specs.declared.program.GlobalVariable.{GlobalVariable}
use Rattle.c_tree.specs.declared.program.Literal.{Literal}
use Rattle.c_tree.specs.declared.program.Program.{Program}
use Rattle.c_tree.specs.Counts.{count_of_initials, count_of_block}

-- Each function, variable, global, literal and name is a node beside those of its parts.
abbrev pub all_nodes_of_function : Function → ℕ
all_nodes_of_function function = 1 + length function.variables + count_of_block 1 function.body

abbrev pub all_nodes_of_global : GlobalVariable → ℕ
all_nodes_of_global global = 1 + count_of_initials 1 global.initial

abbrev pub nodes_of_program : Program → ℕ
nodes_of_program program =
    sum_by all_nodes_of_function program.functions + sum_by all_nodes_of_global program.globals
    + length program.literals + length program.names

-- of an initialiser, which stores something where there is one
abbrev pub if_initialised : List Initial → ℕ → ℕ
if_initialised [] bytes = 0
if_initialised (first ∷ rest) bytes = bytes

abbrev pub initialised_bytes_of : Types → GlobalVariable → ℕ
initialised_bytes_of types global = if_initialised global.initial (size (shape_of types global.kind))

abbrev pub bytes_of_literal : Literal → ℕ
bytes_of_literal literal = length literal.bytes

-- the bytes of the globals that have an initialiser, and of the string literals that make objects
abbrev pub initialised_bytes : Program → ℕ
initialised_bytes program =
    sum_by (initialised_bytes_of program.types) program.globals + sum_by bytes_of_literal program.literals

abbrev pub HasFewParameters : Function → Type 0
HasFewParameters function = function.parameters ≤ MAX_PARAMETERS

pub record IsWithinLimits (program : Program) : Type 0 where
  pub nodes : nodes_of_program program ≤ MAX_NODES
  pub parameters : All HasFewParameters program.functions
  pub bytes : initialised_bytes program ≤ MAX_INITIALISED_BYTES
