-- Arguments in the order in which they are read: what is read later stands behind them.
use Rattle.std.specs.Prelude.{false, true, ◌&&◌, ◌||◌, List, [], ◌∷◌, ◌++◌, Option, Some, None}
use Rattle.static_rules.specs.declared.judged.Arguments.{Arguments}
use Rattle.static_rules.specs.declared.judged.Operand.{Operand}

-- arguments that were read, with those that follow them
unfoldable pub followed : Arguments → Arguments → Arguments
followed read rest = record {
  values = read.values ++ rest.values;
  misfit = read.misfit || rest.misfit;
  as_many = read.as_many && rest.as_many;
}

-- one more converted argument, or one that does not fit
unfoldable pub with_argument : Arguments → Option Operand → Arguments
with_argument read (Some x) = record read { values = read.values ++ x.value ∷ [] }
with_argument read None = record read { misfit = true }

-- behind an argument that has no parameter
abbrev pub surplus : Arguments → Arguments
surplus rest = record rest { as_many = false }
