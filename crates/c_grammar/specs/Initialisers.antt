-- Initialisers and declarations.
use Rattle.std.specs.Prelude.{ℕ, suc, ◌+◌, List, [], ◌∷◌, Option, Some, None}
use Rattle.c_tokens.specs.declared.kind.Mark.TheVariants as mark
use Rattle.c_tokens.specs.declared.token.Token.{Token}
use Rattle.c_grammar.specs.declared.words.Level.TheVariants as of
use Rattle.c_grammar.specs.declared.phrases.Expression.{Expression}
use Rattle.c_grammar.specs.declared.phrases.Specs.{Specs}
use Rattle.c_grammar.specs.declared.phrases.Declarator.{Declarator}
use Rattle.c_grammar.specs.declared.statements.Initialiser.{Initialiser}
use Rattle.c_grammar.specs.declared.statements.Initialiser.TheVariants as i
use Rattle.c_grammar.specs.declared.statements.InitDeclarator.{InitDeclarator}
use Rattle.c_grammar.specs.declared.statements.Declaration.{Declaration}
use Rattle.c_tokens.specs.Names.{Name}
use Rattle.c_grammar.specs.declared.words.NameKind.{NameKind}
use Rattle.c_grammar.specs.declared.words.Naming.TheVariants as naming
use Rattle.c_grammar.specs.Tokens.{place_at, IsMark, ClosesList}
use Rattle.c_grammar.specs.Words.{Role}
use Rattle.c_grammar.specs.Scope.{Scope, declared_kind}
use Rattle.c_grammar.specs.Operators.{tightness}
use Rattle.c_grammar.specs.Phrases.{IsExpression, IsSpecs, IsDeclarator, whole}

module _ (text : List ℕ) (ts : List Token) where
  mutual
    -- `assign`, or a list in braces, which is a node
    pub data IsInitialiser : ℕ → Scope → Scope → ℕ → ℕ → Initialiser → Type 0 where
      value : {depth from to : ℕ} {scope after : Scope} {e : Expression} →
          IsExpression text ts depth (tightness of.Assignment) scope after from to e → IsInitialiser depth scope after from to (i.Value e)
      -- `{ list(init) }`, with or without a comma at its end
      braces : {depth from at to : ℕ} {scope after : Scope} {all : List Initialiser} →
          IsMark ts from mark.LeftBrace → AreInitialisers depth scope after (from + 1) at all → ClosesList ts at to →
          IsInitialiser (suc depth) scope after from to (i.Braces (place_at ts from) all)

    -- `list(init)`
    pub data AreInitialisers : ℕ → Scope → Scope → ℕ → ℕ → List Initialiser → Type 0 where
      last_initialiser : {depth from to : ℕ} {scope after : Scope} {only : Initialiser} →
          IsInitialiser depth scope after from to only → AreInitialisers depth scope after from to (only ∷ [])
      more_initialisers : {depth from at to : ℕ} {scope between after : Scope} {first : Initialiser} {rest : List Initialiser} →
          IsInitialiser depth scope between from at first → IsMark ts at mark.Comma →
          AreInitialisers depth between after (at + 1) to rest → AreInitialisers depth scope after from to (first ∷ rest)

  -- `declarator (= init)?`, of a name of this kind. The name is in scope from the end of its declarator on, so in its own
  -- initialiser (C11 6.2.1p7).
  pub data IsInitDeclarator : ℕ → NameKind → Scope → Scope → ℕ → ℕ → InitDeclarator → Type 0 where
    without_value : {depth from to : ℕ} {kind : NameKind} {scope after : Scope} {name : Name} {own : Option Scope} {declarator : Declarator} →
        IsDeclarator text ts naming.Named whole depth scope after from to (Some name) own declarator →
        IsInitDeclarator depth kind scope ((name, kind) ∷ after) from to
        (record { place = place_at ts from; declarator = declarator; value = None })
    with_value : {depth from at to : ℕ} {kind : NameKind} {scope between after : Scope} {name : Name} {own : Option Scope} {declarator : Declarator}
        {value : Initialiser} →
        IsDeclarator text ts naming.Named whole depth scope between from at (Some name) own declarator → IsMark ts at mark.Equal →
        IsInitialiser depth ((name, kind) ∷ between) after (at + 1) to value →
        IsInitDeclarator depth kind scope after from to (record { place = place_at ts from; declarator = declarator; value = Some value })

  -- `list(declarator (= init)?)`
  pub data AreInitDeclarators : ℕ → NameKind → Scope → Scope → ℕ → ℕ → List InitDeclarator → Type 0 where
    last : {depth from to : ℕ} {kind : NameKind} {scope after : Scope} {only : InitDeclarator} →
        IsInitDeclarator depth kind scope after from to only → AreInitDeclarators depth kind scope after from to (only ∷ [])
    more : {depth from at to : ℕ} {kind : NameKind} {scope between after : Scope} {first : InitDeclarator} {rest : List InitDeclarator} →
        IsInitDeclarator depth kind scope between from at first → IsMark ts at mark.Comma →
        AreInitDeclarators depth kind between after (at + 1) to rest → AreInitDeclarators depth kind scope after from to (first ∷ rest)

  -- `specs list(..)? ;`
  pub data IsDeclaration : ℕ → Scope → Scope → ℕ → ℕ → Declaration → Type 0 where
    of_no_name : {depth from at : ℕ} {scope after : Scope} {roles : List Role} {specs : Specs} →
        IsSpecs text ts depth scope after roles from at specs → IsMark ts at mark.Semicolon →
        IsDeclaration depth scope after from (at + 1) (record { place = place_at ts from; specs = specs; declarators = [] })
    of_names : {depth from at to : ℕ} {scope between after : Scope} {roles : List Role} {specs : Specs} {declarators : List InitDeclarator} →
        IsSpecs text ts depth scope between roles from at specs →
        AreInitDeclarators depth (declared_kind roles) between after at to declarators → IsMark ts to mark.Semicolon →
        IsDeclaration depth scope after from (to + 1) (record { place = place_at ts from; specs = specs; declarators = declarators })
