-- The readers of every depth are exact.
use Rattle.std.proofs.Common.{ℕ, zero, suc, List}
use Rattle.c_tokens.specs.declared.token.Token.{Token}
use Rattle.grammar_descent.specs.Exact.{Exact}
use Rattle.grammar_descent.specs.ExpressionSteps.{expression}
use Rattle.grammar_descent.specs.AllReaders.{readers}
use Rattle.grammar_descent.proofs.ExpressionComplete.{complete}
use Rattle.grammar_descent.proofs.ExpressionSound.{sound}
use Rattle.grammar_descent.proofs.NextExact.{next_exact, least_exact}

pub exact : (text : List ℕ) (ts : List Token) (depth : ℕ) → Exact text ts depth (readers text ts depth)
unfolding readers
exact text ts zero = least_exact text ts
exact text ts (suc depth) =
    let inner = exact text ts depth in
    next_exact text ts depth (expression text ts depth (readers text ts depth)) (readers text ts depth) inner
    (sound text ts depth (readers text ts depth) inner) (complete text ts depth (readers text ts depth) inner)
