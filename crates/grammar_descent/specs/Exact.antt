-- Readers find what is derived, and nothing else.
use Rattle.std.specs.Prelude.{◌≡◌, ℕ, ◌≤◌, true, List, ◌++◌, Option, Some}
use Rattle.c_tokens.specs.declared.token.Token.{Token}
use Rattle.c_grammar.specs.declared.phrases.Expression.{Expression}
use Rattle.c_grammar.specs.declared.phrases.Specs.{Specs}
use Rattle.c_grammar.specs.declared.phrases.Declarator.{Declarator}
use Rattle.c_tokens.specs.Names.{Name}
use Rattle.c_grammar.specs.declared.words.Naming.{Naming}
use Rattle.c_grammar.specs.Tokens.{kind_at}
use Rattle.c_grammar.specs.Words.{Role}
use Rattle.c_grammar.specs.Scope.{Scope}
use Rattle.c_grammar.specs.Phrases.{IsExpression, IsSpecs, IsDeclarator, whole}
use Rattle.grammar_descent.specs.Reading.{State, Reading, FoundDeclarator, Readers}
use Rattle.grammar_descent.specs.Follow.{ends, ends_specs, ends_declarator}

-- what is in scope after a phrase: what was before, and what the phrase declares
pub record Grows (before after : Scope) : Type 0 where
  pub new : Scope
  pub is : after ≡ new ++ before

-- some height no greater than the depth, with which it is found
pub record IsFound {A : Type 0} (answer : Option (A × State)) (depth : ℕ) (with_height : ℕ → A) (after : State) : Type 0 where
  pub height : ℕ
  pub low : height ≤ depth
  pub is : answer ≡ Some (with_height height, after)

module _ (text : List ℕ) (ts : List Token) (depth : ℕ) where
  -- What is read is derived with every depth from its height on, and its height is no greater than the depth.
  pub record SoundExpression (read : ℕ → Reading (Expression × ℕ)) : Type 0 where
    pub low : (level : ℕ) (s t : State) (e : Expression) (height : ℕ) → read level s ≡ Some ((e, height), t) → height ≤ depth
    pub derived : (level d : ℕ) (s t : State) (e : Expression) (height : ℕ) → read level s ≡ Some ((e, height), t) → height ≤ d →
        IsExpression text ts d level s.scope t.scope s.at t.at e
    pub grows : (level : ℕ) (s t : State) (e : Expression) (height : ℕ) → read level s ≡ Some ((e, height), t) → Grows s.scope t.scope

  pub record SoundSpecs (read : Reading (Specs × List Role × ℕ)) : Type 0 where
    pub low : (s t : State) (found : Specs) (roles : List Role) (height : ℕ) → read s ≡ Some ((found, roles, height), t) → height ≤ depth
    pub derived : (d : ℕ) (s t : State) (found : Specs) (roles : List Role) (height : ℕ) →
        read s ≡ Some ((found, roles, height), t) → height ≤ d → IsSpecs text ts d s.scope t.scope roles s.at t.at found
    pub grows : (s t : State) (found : Specs) (roles : List Role) (height : ℕ) → read s ≡ Some ((found, roles, height), t) →
        Grows s.scope t.scope

  pub record SoundDeclarator (read : Naming → Reading FoundDeclarator) : Type 0 where
    pub low : (how : Naming) (s t : State) (found : FoundDeclarator) → read how s ≡ Some (found, t) → found.height ≤ depth
    pub derived : (how : Naming) (d : ℕ) (s t : State) (found : FoundDeclarator) → read how s ≡ Some (found, t) → found.height ≤ d →
        IsDeclarator text ts how whole d s.scope t.scope s.at t.at found.name found.own found.node
    pub grows : (how : Naming) (s t : State) (found : FoundDeclarator) → read how s ≡ Some (found, t) → Grows s.scope t.scope

  -- What is derived with this depth or a smaller one is read, where no token after it could be a part of it.
  abbrev pub CompleteExpression : (ℕ → Reading (Expression × ℕ)) → Type 0
  CompleteExpression read =
      (level d : ℕ) (s t : State) (e : Expression) → d ≤ depth → IsExpression text ts d level s.scope t.scope s.at t.at e →
      ends level (kind_at ts t.at) ≡ true → IsFound (read level s) d (λ height. (e, height)) t

  abbrev pub CompleteSpecs : Reading (Specs × List Role × ℕ) → Type 0
  CompleteSpecs read =
      (d : ℕ) (s t : State) (found : Specs) (roles : List Role) → d ≤ depth → IsSpecs text ts d s.scope t.scope roles s.at t.at found →
      ends_specs (kind_at ts t.at) ≡ true → IsFound (read s) d (λ height. (found, roles, height)) t

  abbrev pub CompleteDeclarator : (Naming → Reading FoundDeclarator) → Type 0
  CompleteDeclarator read =
      (how : Naming) (d : ℕ) (s t : State) (found : Declarator) (name : Option Name) (own : Option Scope) →
      d ≤ depth → IsDeclarator text ts how whole d s.scope t.scope s.at t.at name own found →
      ends_declarator (kind_at ts t.at) ≡ true → IsFound (read how s) d (λ height. record { node = found; name = name; own = own; height = height }) t

  -- Readers for this depth.
  pub record Exact (readers : Readers) : Type 0 where
    pub expression_sound : SoundExpression readers.expression
    pub expression_complete : CompleteExpression readers.expression
    pub specs_sound : SoundSpecs readers.specs
    pub specs_complete : CompleteSpecs readers.specs
    pub declarator_sound : SoundDeclarator readers.declarator
    pub declarator_complete : CompleteDeclarator readers.declarator
