-- What is known of the readers of what is nested less deep than a depth.
use Rattle.std.proofs.Common.{◌≡◌, ℕ, ◌<◌, ◌≤◌, true, List, Option, Some}
use Rattle.c_tokens.specs.declared.token.Token.{Token}
use Rattle.c_grammar.specs.declared.words.Naming.{Naming}
use Rattle.c_grammar.specs.declared.phrases.Expression.{Expression}
use Rattle.c_grammar.specs.declared.phrases.Specs.{Specs}
use Rattle.c_grammar.specs.declared.phrases.Declarator.{Declarator}
use Rattle.c_tokens.specs.Names.{Name}
use Rattle.c_grammar.specs.Tokens.{kind_at}
use Rattle.c_grammar.specs.Words.{Role}
use Rattle.c_grammar.specs.Scope.{Scope}
use Rattle.c_grammar.specs.Phrases.{IsExpression, IsSpecs, IsDeclarator, whole}
use Rattle.grammar_descent.specs.Reading.{State, FoundDeclarator, Readers}
use Rattle.grammar_descent.specs.Follow.{ends, ends_specs, ends_declarator}
use Rattle.grammar_descent.specs.Exact.{IsFound, Grows}

module _ (text : List ℕ) (ts : List Token) (depth : ℕ) (inner : Readers) where
  -- they find what is derived
  pub record Complete : Type 0 where
    pub expression : (level d : ℕ) (s t : State) (e : Expression) → d < depth → IsExpression text ts d level s.scope t.scope s.at t.at e →
        ends level (kind_at ts t.at) ≡ true → IsFound (inner.expression level s) d (λ height. (e, height)) t
    pub specs : (d : ℕ) (s t : State) (found : Specs) (roles : List Role) → d < depth → IsSpecs text ts d s.scope t.scope roles s.at t.at found →
        ends_specs (kind_at ts t.at) ≡ true → IsFound (inner.specs s) d (λ height. (found, roles, height)) t
    pub declarator : (how : Naming) (d : ℕ) (s t : State) (found : Declarator) (name : Option Name) (own : Option Scope) →
        d < depth → IsDeclarator text ts how whole d s.scope t.scope s.at t.at name own found → ends_declarator (kind_at ts t.at) ≡ true →
        IsFound (inner.declarator how s) d (λ height. record { node = found; name = name; own = own; height = height }) t

  -- what one of them reads: it is derived with every depth from its height on
  pub record ReadExpression (level : ℕ) (s t : State) (e : Expression) (height : ℕ) : Type 0 where
    pub low : height < depth
    pub derived : (d : ℕ) → height ≤ d → IsExpression text ts d level s.scope t.scope s.at t.at e
    pub grows : Grows s.scope t.scope

  pub record ReadSpecs (s t : State) (found : Specs) (roles : List Role) (height : ℕ) : Type 0 where
    pub low : height < depth
    pub derived : (d : ℕ) → height ≤ d → IsSpecs text ts d s.scope t.scope roles s.at t.at found
    pub grows : Grows s.scope t.scope

  pub record ReadDeclarator (how : Naming) (s t : State) (found : FoundDeclarator) : Type 0 where
    pub low : found.height < depth
    pub derived : (d : ℕ) → found.height ≤ d → IsDeclarator text ts how whole d s.scope t.scope s.at t.at found.name found.own found.node
    pub grows : Grows s.scope t.scope

  -- they find nothing else
  pub record Sound : Type 0 where
    pub expression : (level : ℕ) (s t : State) (e : Expression) (height : ℕ) → inner.expression level s ≡ Some ((e, height), t) →
        ReadExpression level s t e height
    pub specs : (s t : State) (found : Specs) (roles : List Role) (height : ℕ) → inner.specs s ≡ Some ((found, roles, height), t) →
        ReadSpecs s t found roles height
    pub declarator : (how : Naming) (s t : State) (found : FoundDeclarator) → inner.declarator how s ≡ Some (found, t) → ReadDeclarator how s t found
