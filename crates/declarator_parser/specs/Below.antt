-- The readers of what is nested in the specifiers and declarators of a depth, and function values that read it.
use Rattle.std.specs.Prelude.{◌≡◌, ℕ, zero, suc, List, Result}
use Rattle.std.specs.declared.alloc.Global.{Global}
use denote.Ref.{MutBor}
use Rattle.c_tokens.specs.declared.token.Token.{Token}
use Rattle.grammar_descent.specs.Reading.{Readers}
use Rattle.grammar_descent.specs.NextReaders.{no_readers}
use Rattle.grammar_descent.specs.AllReaders.{readers}
use Rattle.token_reader.specs.declared.error.ParseError.{ParseError}
use Rattle.c_grammar.specs.declared.words.Level.{Level}
use Rattle.c_grammar.specs.declared.words.Naming.{Naming}
use Rattle.token_reader.specs.Input.{Input}
use Rattle.token_reader.specs.declared.found.FoundSpecs.{FoundSpecs}
use Rattle.token_reader.specs.declared.found.FoundDeclarator.{FoundDeclarator}
use Rattle.token_reader.specs.Nests.{NestsExpressions, Nests, FoundExpression}

-- the readers of one depth less, which find nothing where there is none
unfoldable pub below : List ℕ → List Token → ℕ → Readers
below text ts zero = no_readers
below text ts (suc depth) = readers text ts depth

-- The values of enumeration constants are expressions of the depth itself, and all else is nested less deep.
pub record NestsBelow (depth : ℕ)
    (pre_expression : Global → MutBor Input → ℕ → Level → Type 0)
    (post_expression : Global → MutBor Input → ℕ → Level → Result FoundExpression ParseError → MutBor Input → Type 0)
    (pre_specs : Global → MutBor Input → ℕ → Type 0)
    (post_specs : Global → MutBor Input → ℕ → Result FoundSpecs ParseError → MutBor Input → Type 0)
    (pre_declarator : Global → MutBor Input → ℕ → Naming → Type 0)
    (post_declarator : Global → MutBor Input → ℕ → Naming → Result FoundDeclarator ParseError → MutBor Input → Type 0) : Type 0 where
  pub value : NestsExpressions depth pre_expression post_expression
  pub inner : (n : ℕ) → depth ≡ suc n → Nests n pre_expression post_expression pre_specs post_specs pre_declarator post_declarator
