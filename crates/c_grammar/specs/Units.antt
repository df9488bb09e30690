-- Whole texts, and names of types that stand alone.
use Rattle.std.specs.Prelude.{ℕ, List, [], ◌∷◌, ◌++◌, length, Option, Some}
use Rattle.c_tokens.specs.declared.token.Token.{Token}
use Rattle.c_grammar.specs.declared.phrases.Specs.{Specs}
use Rattle.c_grammar.specs.declared.phrases.Declarator.{Declarator}
use Rattle.c_grammar.specs.declared.statements.Block.{Block}
use Rattle.c_grammar.specs.declared.statements.Declaration.{Declaration}
use Rattle.c_grammar.specs.declared.units.Function.{Function}
use Rattle.c_grammar.specs.declared.units.External.{External}
use Rattle.c_grammar.specs.declared.units.External.TheVariants as x
use Rattle.c_grammar.specs.declared.units.Unit.{Unit as Whole}
use Rattle.c_grammar.specs.declared.units.TypeName.{TypeName}
use Rattle.c_grammar.specs.declared.words.Naming.TheVariants as naming
use Rattle.c_tokens.specs.Names.{Name}
use Rattle.token_texts.specs.Texts.{AreTexts, AreTextsWith}
use Rattle.c_grammar.specs.Limits.{max_depth}
use Rattle.c_grammar.specs.Tokens.{place_at}
use Rattle.c_grammar.specs.Words.{Role}
use Rattle.c_grammar.specs.Scope.{Scope, declared_kind, types, start, with_parameters}
use Rattle.c_grammar.specs.Phrases.{IsSpecs, IsDeclarator, IsTypeName, whole}
use Rattle.c_grammar.specs.Initialisers.{IsDeclaration}
use Rattle.c_grammar.specs.Statements.{IsBlock}

module _ (text : List ℕ) (ts : List Token) where
  -- `specs declarator block`. The name is in scope in the block and after it; the parameters share the block's scope.
  pub data IsFunction : Scope → Scope → ℕ → ℕ → Function → Type 0 where
    function : {from at middle to : ℕ} {scope between after : Scope} {roles : List Role} {name : Name} {own : Option Scope}
        {specs : Specs} {declarator : Declarator} {body : Block} →
        IsSpecs text ts max_depth scope between roles from at specs →
        IsDeclarator text ts naming.Named whole max_depth between after at middle (Some name) own declarator →
        IsBlock text ts max_depth (with_parameters own ((name, declared_kind roles) ∷ after)) middle to body →
        IsFunction scope ((name, declared_kind roles) ∷ after) from to
        (record { place = place_at ts from; specs = specs; declarator = declarator; body = body })

  -- `(declaration | function)*`
  pub data AreExternals : Scope → ℕ → ℕ → List External → Type 0 where
    none : {scope : Scope} {at : ℕ} → AreExternals scope at at []
    declaration : {scope between : Scope} {from at to : ℕ} {first : Declaration} {rest : List External} →
        IsDeclaration text ts max_depth scope between from at first → AreExternals between at to rest →
        AreExternals scope from to (x.Declaration first ∷ rest)
    function : {scope between : Scope} {from at to : ℕ} {first : Function} {rest : List External} →
        IsFunction scope between from at first → AreExternals between at to rest →
        AreExternals scope from to (x.Function first ∷ rest)

-- The tokens of the text, all of them, are this unit, which says what its names and strings are.
pub record Derives (text : List ℕ) (ts : List Token) (unit : Whole) : Type 0 where
  pub items : AreExternals text ts start 0 (length ts) unit.items
  pub texts : AreTexts text ts unit.texts

-- The tokens of the text, all of them, are this name of a type, where these names are types beside the predefined ones.
pub record DerivesTypeName (text : List ℕ) (ts : List Token) (typedefs : List Name) (type : TypeName) : Type 0 where
  pub after : Scope
  pub phrase : IsTypeName text ts max_depth (types typedefs ++ start) after 0 (length ts) type.phrase
  pub texts : AreTextsWith typedefs text ts type.texts
