-- The name of a type, of whose specifiers it is only known what a name is that they declare.
use Rattle.std.proofs.Common.{◌≡◌, ℕ, max, List, Option, Some, None, refl}
use Rattle.c_tokens.specs.declared.token.Token.{Token}
use Rattle.c_grammar.specs.declared.words.Naming.TheVariants as naming
use Rattle.c_grammar.specs.declared.phrases.Specs.{Specs}
use Rattle.c_grammar.specs.declared.phrases.TypePhrase.{TypePhrase}
use Rattle.c_grammar.specs.Tokens.{place_at}
use Rattle.c_grammar.specs.Words.{Role}
use Rattle.c_grammar.specs.Scope.{declared_kind}
use Rattle.grammar_descent.specs.Reading.{State, ◌>>=◌, Readers}
use Rattle.grammar_descent.specs.ExpressionSteps.{type_phrase}
use Rattle.token_reader.specs.declared.found.FoundSpecs.{FoundSpecs}
use Rattle.token_reader.specs.Nests.{with_kind}

module _ (text : List ℕ) (ts : List Token) (depth : ℕ) (inner : Readers) where
  abbrev pub after_specs : State → FoundSpecs × State → Option ((TypePhrase × ℕ) × State)
  after_specs s p = inner.declarator naming.NotNamed p.1 >>= λ q.
      Some ((record { place = place_at ts s.at; specs = p.0.node; declarator = q.0.node }, max p.0.height q.0.height), q.1)

  pub by_kind : (s : State) → type_phrase text ts depth inner s ≡ (with_kind inner.specs s >>= after_specs s)
  unfolding type_phrase
  by_kind s = by_specs (inner.specs s)
    where
      by_specs : (o : Option ((Specs × List Role × ℕ) × State)) →
          (o >>= λ p. inner.declarator naming.NotNamed p.1 >>= λ q.
          Some ((record { place = place_at ts s.at; specs = p.0.0; declarator = q.0.node }, max p.0.2 q.0.height), q.1))
          ≡ ((o >>= λ f. Some (record { node = f.0.0; kind = declared_kind f.0.1; height = f.0.2 }, f.1)) >>= after_specs s)
      by_specs (Some p) = refl
      by_specs None = refl
