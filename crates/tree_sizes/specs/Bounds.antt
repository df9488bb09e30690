-- Trees are no larger than their texts, and nest no deeper than the grammar allows.
use Rattle.std.specs.Prelude.{ℕ, ◌+◌, ◌*◌, ◌≤◌, List, length}
use Rattle.c_tokens.specs.declared.token.Token.{Token}
use Rattle.c_tokens.specs.Names.{Name}
use Rattle.c_grammar.specs.declared.units.TypeName.{TypeName}
use Rattle.c_grammar.specs.declared.units.Unit.{Unit as Whole}
use Rattle.c_grammar.specs.Limits.{max_depth}
use Rattle.c_grammar.specs.Units.{Derives, DerivesTypeName}
use Rattle.tree_sizes.specs.Sizes.{nodes_of_type_phrase, nodes_of_unit}
use Rattle.tree_sizes.specs.Depths.{depth_of_type_phrase, depth_of_unit}

-- What tokens derive has at most two nodes for each of them; a unit is one more. (`int;` reaches this.)
abbrev pub UnitsAreSmall : Type 0
UnitsAreSmall = (text : List ℕ) (tokens : List Token) (unit : Whole) → Derives text tokens unit → nodes_of_unit unit ≤ 2 * length tokens + 1

-- In the name of a type the name that is left out has no token. (`int` reaches this.)
abbrev pub TypeNamesAreSmall : Type 0
TypeNamesAreSmall =
    (text : List ℕ) (tokens : List Token) (typedefs : List Name) (type : TypeName) → DerivesTypeName text tokens typedefs type →
    nodes_of_type_phrase type.phrase ≤ 2 * length tokens + 2

-- What tokens derive nests at most 200 deep.
abbrev pub UnitsAreShallow : Type 0
UnitsAreShallow = (text : List ℕ) (tokens : List Token) (unit : Whole) → Derives text tokens unit → depth_of_unit unit ≤ max_depth

abbrev pub TypeNamesAreShallow : Type 0
TypeNamesAreShallow =
    (text : List ℕ) (tokens : List Token) (typedefs : List Name) (type : TypeName) → DerivesTypeName text tokens typedefs type →
    depth_of_type_phrase type.phrase ≤ max_depth
