-- Function values that read statements.
use Rattle.std.specs.Prelude.{ℕ, ◌≤◌, Result}
use Rattle.std.specs.declared.alloc.Global.{Global}
use denote.Ref.{MutBor}
use Rattle.c_grammar.specs.declared.statements.Statement.{Statement}
use Rattle.c_grammar.specs.Limits.{max_depth}
use Rattle.grammar_descent.specs.AllReaders.{readers}
use Rattle.grammar_descent.specs.StatementSteps.{statement}
use Rattle.token_reader.specs.declared.error.ParseError.{ParseError}
use Rattle.token_reader.specs.Input.{Input, Reads}

-- It may be called at each depth up to this one, and reads the statements of it.
pub record NestsStatements (depth : ℕ) (pre : Global → MutBor Input → ℕ → Type 0)
    (post : Global → MutBor Input → ℕ → Result Statement ParseError → MutBor Input → Type 0) : Type 0 where
  pub small : depth ≤ max_depth
  pub callable : (alloc : Global) (old : MutBor Input) (d : ℕ) → d ≤ depth → pre alloc old d
  pub reads : (alloc : Global) (old new : MutBor Input) (d : ℕ) (r : Result Statement ParseError) → d ≤ depth → post alloc old d r new →
      Reads (λ text ts. statement text ts (readers text ts) d) old.now r new.now
