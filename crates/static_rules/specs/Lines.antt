-- The line of a node's first token.
use Rattle.std.specs.Prelude.{ℕ}
use Rattle.c_grammar.specs.declared.words.Place.{Place}
use Rattle.c_grammar.specs.declared.phrases.Declarator.TheOpen.{Expression-F}
use Rattle.c_grammar.specs.declared.phrases.Expression.{Expression, out-Expression}
use Rattle.static_rules.specs.Layers.{ExpressionLayer}

abbrev pub spot_at : ExpressionLayer → Place
spot_at (Expression-F.Expression::Name spot) = spot
spot_at (Expression-F.Number spot n kind) = spot
spot_at (Expression-F.Character spot n) = spot
spot_at (Expression-F.Strings spot end) = spot
spot_at (Expression-F.Expression::Parentheses spot within) = spot
spot_at (Expression-F.Index spot left right) = spot
spot_at (Expression-F.Call spot function arguments) = spot
spot_at (Expression-F.Select spot how e token) = spot
spot_at (Expression-F.Postfix spot operator e) = spot
spot_at (Expression-F.Prefix spot operator e) = spot
spot_at (Expression-F.SizeOf spot e) = spot
spot_at (Expression-F.SizeOfType spot name) = spot
spot_at (Expression-F.Cast spot name e) = spot
spot_at (Expression-F.Binary spot operator left right) = spot
spot_at (Expression-F.Conditional spot test first second) = spot
spot_at (Expression-F.Assign spot which left right) = spot
spot_at (Expression-F.Comma spot parts) = spot

unfoldable pub line_of : Expression → ℕ
line_of e = (spot_at (out-Expression e)).line
