-- Reading the tokens of a text from one place on, by functions on lists.
use Rattle.std.specs.Prelude.{ℕ, ◌+◌, Bool, false, List, Option, Some, None, if◌then◌else◌}
use Rattle.c_tokens.specs.declared.kind.Keyword.{Keyword}
use Rattle.c_tokens.specs.declared.kind.Mark.{Mark}
use Rattle.c_tokens.specs.declared.kind.Kind.{Kind}
use Rattle.c_tokens.specs.declared.kind.Kind.TheVariants as k
use Rattle.c_tokens.specs.declared.token.Token.{Token}
use Rattle.c_tokens.specs.Same.{same_kind}
use Rattle.c_grammar.specs.declared.phrases.Expression.{Expression}
use Rattle.c_grammar.specs.declared.phrases.Specs.{Specs}
use Rattle.c_grammar.specs.declared.phrases.Declarator.{Declarator}
use Rattle.c_tokens.specs.Names.{Name}
use Rattle.c_grammar.specs.declared.words.Naming.{Naming}
use Rattle.c_grammar.specs.Tokens.{kind_at}
use Rattle.c_grammar.specs.Words.{Role}
use Rattle.c_grammar.specs.Scope.{Scope}

-- where a reader stands, and what is in scope there
pub record State : Type 0 where
  pub at : ℕ
  pub scope : Scope

-- What is read from a state on, and the state after it; nothing where it does not stand there.
abbrev pub Reading : Type 0 → Type 0
Reading A = State → Option (A × State)

infixl 10 ◌>>=◌
abbrev pub ◌>>=◌ : {A B : Type 0} → Option A → (A → Option B) → Option B
(Some x) >>= f = f x
None >>= f = None

abbrev pub is_kind : Option Kind → Kind → Bool
is_kind (Some found) kind = same_kind found kind
is_kind None kind = false

-- whether a token of the kind stands there
abbrev pub sees : List Token → ℕ → Kind → Bool
sees ts at kind = is_kind (kind_at ts at) kind

-- goes on where a token of the kind stands there
abbrev pub when : {A : Type 0} → List Token → ℕ → Kind → Option A → Option A
when ts at kind next = if sees ts at kind then next else None

abbrev pub mark_at : List Token → ℕ → Mark → Bool
mark_at ts at m = sees ts at (k.Mark m)

abbrev pub word_at : List Token → ℕ → Keyword → Bool
word_at ts at word = sees ts at (k.Word word)

-- past so many tokens, with the same names in scope
abbrev pub past : State → ℕ → State
past s n = record { at = s.at + n; scope = s.scope }

-- a declarator, what it declares, what the first list of parameters after the name declares, and its height
pub record FoundDeclarator : Type 0 where
  pub node : Declarator
  pub name : Option Name
  pub own : Option Scope
  pub height : ℕ

-- The readers of phrases that are nested no deeper than some depth. Each phrase comes with its height, the least depth that it
-- needs; an expression is read that binds at least so tightly.
pub record Readers : Type 0 where
  pub expression : ℕ → Reading (Expression × ℕ)
  pub specs : Reading (Specs × List Role × ℕ)
  pub declarator : Naming → Reading FoundDeclarator
