-- Initialisers and declarations are read.
use Rattle.std.specs.Prelude.{ℕ, zero, suc, ◌+◌, List, [], ◌∷◌, ◌++◌, length, Option, Some, None, if◌then◌else◌}
use Rattle.c_tokens.specs.declared.kind.Mark.TheVariants as mark
use Rattle.c_tokens.specs.declared.kind.Kind.TheVariants as k
use Rattle.c_tokens.specs.declared.token.Token.{Token}
use Rattle.c_grammar.specs.declared.phrases.Expression.{Expression}
use Rattle.c_grammar.specs.declared.phrases.Specs.{Specs}
use Rattle.c_grammar.specs.declared.phrases.Declarator.{Declarator}
use Rattle.c_grammar.specs.declared.statements.Initialiser.{Initialiser}
use Rattle.c_grammar.specs.declared.statements.Initialiser.TheVariants as i
use Rattle.c_grammar.specs.declared.statements.InitDeclarator.{InitDeclarator}
use Rattle.c_grammar.specs.declared.statements.Declaration.{Declaration}
use Rattle.c_grammar.specs.Tokens.{place_at}
use Rattle.c_grammar.specs.Words.{Role}
use Rattle.c_grammar.specs.Scope.{Scope, declared_kind}
use Rattle.c_tokens.specs.Names.{Name}
use Rattle.c_grammar.specs.declared.words.Level.TheVariants as of
use Rattle.c_grammar.specs.declared.words.NameKind.{NameKind}
use Rattle.c_grammar.specs.declared.words.Naming.TheVariants as naming
use Rattle.c_grammar.specs.Operators.{tightness}
use Rattle.grammar_descent.specs.Reading.{State, Reading, ◌>>=◌, when, mark_at, past, Readers}

-- a declarator that has a name, the name, and what the first list of parameters after it declares
pub record NamedDeclarator : Type 0 where
  pub node : Declarator
  pub name : Name
  pub own : Option Scope

-- only what has a name
abbrev pub with_its_name : Option Name → Declarator → Option Scope → State → Option (NamedDeclarator × State)
with_its_name (Some name) node own s = Some (record { node = node; name = name; own = own }, s)
with_its_name None node own s = None

-- with one name more in scope
abbrev pub declare : State → Name → NameKind → State
declare s name kind = record { at = s.at; scope = (name, kind) ∷ s.scope }

module _ (ts : List Token) (phrases : ℕ → Readers) where
  -- an expression of the level that is nested no deeper than this
  unfoldable pub expression_at : ℕ → ℕ → Reading Expression
  expression_at depth level s = (phrases depth).expression level s >>= λ f. Some (f.0.0, f.1)

  unfoldable pub value : ℕ → Reading Initialiser
  value depth s = expression_at depth (tightness of.Assignment) s >>= λ f. Some (i.Value f.0, f.1)

  module _ (inner : Reading Initialiser) where
    -- Initialisers up to the brace that closes them, with or without a comma before it.
    unfoldable pub initialisers : ℕ → List Initialiser → Reading (List Initialiser)
    initialisers zero found s = None
    initialisers (suc n) found s = inner s >>= λ next.
        if mark_at ts next.1.at mark.RightBrace then Some (found ++ next.0 ∷ [], past next.1 1) else
        when ts next.1.at (k.Mark mark.Comma)
        (if mark_at ts (next.1.at + 1) mark.RightBrace then Some (found ++ next.0 ∷ [], past next.1 2)
        else initialisers n (found ++ next.0 ∷ []) (past next.1 1))

    unfoldable pub braces : Reading Initialiser
    braces s = initialisers (length ts) [] (past s 1) >>= λ all. Some (i.Braces (place_at ts s.at) all.0, all.1)

  unfoldable pub initialiser : ℕ → Reading Initialiser
  initialiser zero s = if mark_at ts s.at mark.LeftBrace then None else value zero s
  initialiser (suc depth) s = if mark_at ts s.at mark.LeftBrace then braces (initialiser depth) s else value (suc depth) s

  -- `= initialiser`, or nothing
  unfoldable pub initialiser_after : ℕ → Reading (Option Initialiser)
  initialiser_after depth s =
      if mark_at ts s.at mark.Equal then (initialiser depth (past s 1) >>= λ f. Some (Some f.0, f.1)) else Some (None, s)

  unfoldable pub named_declarator : ℕ → Reading NamedDeclarator
  named_declarator depth s = (phrases depth).declarator naming.Named s >>= λ f. with_its_name f.0.name f.0.node f.0.own f.1

  -- what is declared with the declarator that was read from a place on
  unfoldable pub with_initialiser : ℕ → NameKind → ℕ → NamedDeclarator × State → Option (InitDeclarator × State)
  with_initialiser depth kind from f = initialiser_after depth (declare f.1 f.0.name kind) >>= λ v.
      Some (record { place = place_at ts from; declarator = f.0.node; value = v.0 }, v.1)

  unfoldable pub init_declarator : ℕ → NameKind → Reading InitDeclarator
  init_declarator depth kind s = named_declarator depth s >>= with_initialiser depth kind s.at

  -- after one of them: the others, and the semicolon
  unfoldable pub more_declarators : ℕ → NameKind → ℕ → List InitDeclarator → Reading (List InitDeclarator)
  more_declarators depth kind zero found s = None
  more_declarators depth kind (suc n) found s =
      if mark_at ts s.at mark.Comma
      then (init_declarator depth kind (past s 1) >>= λ next. more_declarators depth kind n (found ++ next.0 ∷ []) next.1)
      else when ts s.at (k.Mark mark.Semicolon) (Some (found, past s 1))

  -- all of them, of which the first declarator was read from a place on
  unfoldable pub init_declarators : ℕ → NameKind → ℕ → NamedDeclarator × State → Option (List InitDeclarator × State)
  init_declarators depth kind from f =
      with_initialiser depth kind from f >>= λ first. more_declarators depth kind (length ts) (first.0 ∷ []) first.1

  -- the rest of a declaration whose specifiers were read from a place on, up to its first declarator
  unfoldable pub declaration_of_names : ℕ → ℕ → Specs → List Role → ℕ → NamedDeclarator × State → Option (Declaration × State)
  declaration_of_names depth start specs roles from f = init_declarators depth (declared_kind roles) from f >>= λ all.
      Some (record { place = place_at ts start; specs = specs; declarators = all.0 }, all.1)

  unfoldable pub declaration : ℕ → Reading Declaration
  declaration depth s = (phrases depth).specs s >>= λ f.
      if mark_at ts f.1.at mark.Semicolon
      then Some (record { place = place_at ts s.at; specs = f.0.0; declarators = [] }, past f.1 1)
      else (named_declarator depth f.1 >>= declaration_of_names depth s.at f.0.0 f.0.1 f.1.at)
