-- A larger expression from its first operand and what stands after it.
use Rattle.std.specs.Prelude.{◌∷◌}
use Rattle.c_grammar.specs.declared.words.Place.{Place}
use Rattle.c_grammar.specs.declared.phrases.Expression.{Expression}
use Rattle.c_grammar.specs.declared.phrases.Expression.TheVariants as e
use Rattle.expression_nodes.specs.declared.tails.Tail.{Tail}
use Rattle.expression_nodes.specs.declared.tails.Tail.TheVariants as tail

abbrev pub joined : Place → Expression → Tail → Expression
joined place left (tail.Index index) = e.Index place left index
joined place left (tail.Call arguments) = e.Call place left arguments
joined place left (tail.Select how member) = e.Select place how left member
joined place left (tail.Postfix op) = e.Postfix place op left
joined place left (tail.Binary op right) = e.Binary place op left right
joined place left (tail.Conditional then otherwise) = e.Conditional place left then otherwise
joined place left (tail.Assign op value) = e.Assign place op left value
joined place left (tail.Comma rest) = e.Comma place (left ∷ rest)
