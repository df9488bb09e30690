-- Function values that read the phrases of a depth.
use Rattle.std.specs.Prelude.{ℕ, List, Option, Some, Result}
use Rattle.std.specs.declared.alloc.Global.{Global}
use denote.Ref.{MutBor}
use Rattle.c_grammar.specs.declared.phrases.Expression.{Expression}
use Rattle.c_grammar.specs.declared.phrases.Specs.{Specs}
use Rattle.c_grammar.specs.declared.words.Level.{Level}
use Rattle.c_grammar.specs.declared.words.Naming.{Naming}
use Rattle.c_grammar.specs.Operators.{tightness}
use Rattle.c_grammar.specs.Words.{Role}
use Rattle.c_grammar.specs.Scope.{declared_kind}
use Rattle.grammar_descent.specs.Reading.{Reading, ◌>>=◌}
use Rattle.grammar_descent.specs.AllReaders.{readers}
use Rattle.token_reader.specs.declared.error.ParseError.{ParseError}
use Rattle.token_reader.specs.declared.found.FoundSpecs.{FoundSpecs}
use Rattle.token_reader.specs.declared.found.FoundDeclarator.{FoundDeclarator}
use Rattle.token_reader.specs.Input.{Input, Reads}
use Rattle.token_reader.specs.Found.{ReadsDeclarator}

abbrev pub FoundExpression : Type 0
FoundExpression = Expression × ℕ

-- Of the roles of specifiers, only what a name is that they declare.
abbrev pub with_kind : Reading (Specs × List Role × ℕ) → Reading FoundSpecs
with_kind read s = read s >>= λ f. Some (record { node = f.0.0; kind = declared_kind f.0.1; height = f.0.2 }, f.1)

-- It may be called, and reads the expressions of the depth.
pub record NestsExpressions (depth : ℕ) (pre : Global → MutBor Input → ℕ → Level → Type 0)
    (post : Global → MutBor Input → ℕ → Level → Result FoundExpression ParseError → MutBor Input → Type 0) : Type 0 where
  pub callable : (alloc : Global) (old : MutBor Input) (level : Level) → pre alloc old depth level
  pub reads : (alloc : Global) (old new : MutBor Input) (level : Level) (r : Result FoundExpression ParseError) → post alloc old depth level r new →
      Reads (λ text ts. (readers text ts depth).expression (tightness level)) old.now r new.now

-- the specifiers
pub record NestsSpecs (depth : ℕ) (pre : Global → MutBor Input → ℕ → Type 0)
    (post : Global → MutBor Input → ℕ → Result FoundSpecs ParseError → MutBor Input → Type 0) : Type 0 where
  pub callable : (alloc : Global) (old : MutBor Input) → pre alloc old depth
  pub reads : (alloc : Global) (old new : MutBor Input) (r : Result FoundSpecs ParseError) → post alloc old depth r new →
      Reads (λ text ts. with_kind (readers text ts depth).specs) old.now r new.now

-- the declarators
pub record NestsDeclarators (depth : ℕ) (pre : Global → MutBor Input → ℕ → Naming → Type 0)
    (post : Global → MutBor Input → ℕ → Naming → Result FoundDeclarator ParseError → MutBor Input → Type 0) : Type 0 where
  pub callable : (alloc : Global) (old : MutBor Input) (how : Naming) → pre alloc old depth how
  pub reads : (alloc : Global) (old new : MutBor Input) (how : Naming) (r : Result FoundDeclarator ParseError) → post alloc old depth how r new →
      ReadsDeclarator (λ text ts. (readers text ts depth).declarator how) old.now r new.now

-- all three
pub record Nests (depth : ℕ)
    (pre_expression : Global → MutBor Input → ℕ → Level → Type 0)
    (post_expression : Global → MutBor Input → ℕ → Level → Result FoundExpression ParseError → MutBor Input → Type 0)
    (pre_specs : Global → MutBor Input → ℕ → Type 0)
    (post_specs : Global → MutBor Input → ℕ → Result FoundSpecs ParseError → MutBor Input → Type 0)
    (pre_declarator : Global → MutBor Input → ℕ → Naming → Type 0)
    (post_declarator : Global → MutBor Input → ℕ → Naming → Result FoundDeclarator ParseError → MutBor Input → Type 0) : Type 0 where
  pub expressions : NestsExpressions depth pre_expression post_expression
  pub specs : NestsSpecs depth pre_specs post_specs
  pub declarators : NestsDeclarators depth pre_declarator post_declarator
