-- A word that begins no other statement begins an expression.
use Rattle.std.proofs.Common.{◌≡◌, ℕ, List, Some, refl}
use Rattle.c_tokens.specs.declared.token.Token.{Token}
use Rattle.c_tokens.specs.declared.kind.Keyword.{Keyword}
use Rattle.c_tokens.specs.declared.kind.Keyword.TheVariants as word
use Rattle.c_tokens.specs.declared.kind.Kind.TheVariants as k
use Rattle.c_grammar.specs.declared.statements.Statement.{Statement}
use Rattle.c_grammar.specs.declared.statements.Block.{Block}
use Rattle.grammar_descent.specs.Reading.{State, Reading, Readers}
use Rattle.grammar_descent.specs.StatementSteps as step

module _ (text : List ℕ) (ts : List Token) (phrases : ℕ → Readers) (depth : ℕ) (inner : Reading Statement) (block : Reading Block) (s : State) where
  pub by_other_word : (w : Keyword) → ¬ (w ≡ word.If) → ¬ (w ≡ word.While) → ¬ (w ≡ word.Do) → ¬ (w ≡ word.For) → ¬ (w ≡ word.Switch) → ¬ (w ≡ word.Case) → ¬ (w ≡ word.Default) → ¬ (w ≡ word.Break) → ¬ (w ≡ word.Continue) → ¬ (w ≡ word.Return) →
      step.statement_by text ts phrases depth inner block s (Some (k.Word w)) ≡ step.expression_statement text ts phrases depth s
  by_other_word word.If a b c d e f g h i j = absurd (a refl)
  by_other_word word.While a b c d e f g h i j = absurd (b refl)
  by_other_word word.Do a b c d e f g h i j = absurd (c refl)
  by_other_word word.For a b c d e f g h i j = absurd (d refl)
  by_other_word word.Switch a b c d e f g h i j = absurd (e refl)
  by_other_word word.Case a b c d e f g h i j = absurd (f refl)
  by_other_word word.Default a b c d e f g h i j = absurd (g refl)
  by_other_word word.Break a b c d e f g h i j = absurd (h refl)
  by_other_word word.Continue a b c d e f g h i j = absurd (i refl)
  by_other_word word.Return a b c d e f g h i j = absurd (j refl)
  by_other_word _ a b c d e f g h i j = refl
