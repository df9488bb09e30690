-- Whole texts, and names of types that stand alone, are read.
use Rattle.std.specs.Prelude.{ℕ, zero, suc, ◌+◌, List, [], ◌∷◌, ◌++◌, length, Option, Some, None, ◌==◌, if◌then◌else◌}
use Rattle.c_tokens.specs.declared.kind.Mark.TheVariants as mark
use Rattle.c_tokens.specs.declared.token.Token.{Token}
use Rattle.c_grammar.specs.declared.phrases.Specs.{Specs}
use Rattle.c_grammar.specs.declared.phrases.TypePhrase.{TypePhrase}
use Rattle.c_grammar.specs.declared.units.External.{External}
use Rattle.c_grammar.specs.declared.units.External.TheVariants as x
use Rattle.c_grammar.specs.Tokens.{place_at}
use Rattle.c_grammar.specs.Words.{Role}
use Rattle.c_grammar.specs.Scope.{declared_kind, types, start, with_parameters}
use Rattle.c_grammar.specs.Limits.{max_depth}
use Rattle.c_tokens.specs.Names.{Name}
use Rattle.c_grammar.specs.declared.words.NameKind.{NameKind}
use Rattle.c_grammar.specs.declared.words.Naming.TheVariants as naming
use Rattle.grammar_descent.specs.Reading.{State, Reading, ◌>>=◌, mark_at, past, Readers}
use Rattle.grammar_descent.specs.InitialiserSteps.{NamedDeclarator, declare, named_declarator, declaration_of_names}
use Rattle.grammar_descent.specs.StatementSteps.{back, block}

-- where the block of a function begins
abbrev pub in_function : NamedDeclarator × State → NameKind → State
in_function f kind = record { at = f.1.at; scope = with_parameters f.0.own (declare f.1 f.0.name kind).scope }

module _ (text : List ℕ) (ts : List Token) (phrases : ℕ → Readers) where
  -- a function whose specifiers and declarator were read from a place on
  unfoldable pub function_with_body : ℕ → Specs → List Role → NamedDeclarator × State → Option (External × State)
  function_with_body from specs roles f = block text ts phrases max_depth (in_function f (declared_kind roles)) >>= λ body.
      Some (x.Function (record { place = place_at ts from; specs = specs; declarator = f.0.node; body = body.0 }), back (declare f.1 f.0.name (declared_kind roles)) body.1)

  -- after the specifiers and a first declarator
  unfoldable pub external_after : ℕ → Specs → List Role → ℕ → NamedDeclarator × State → Option (External × State)
  external_after start specs roles from f =
      if mark_at ts f.1.at mark.LeftBrace then function_with_body start specs roles f
      else (declaration_of_names ts phrases max_depth start specs roles from f >>= λ all. Some (x.Declaration all.0, all.1))

  -- a declaration or a function
  unfoldable pub external : Reading External
  external s = (phrases max_depth).specs s >>= λ f.
      if mark_at ts f.1.at mark.Semicolon
      then Some (x.Declaration (record { place = place_at ts s.at; specs = f.0.0; declarators = [] }), past f.1 1)
      else (named_declarator ts phrases max_depth f.1 >>= external_after s.at f.0.0 f.0.1 f.1.at)

  -- up to the last token
  unfoldable pub externals : ℕ → List External → State → Option (List External)
  externals zero found s = None
  externals (suc n) found s =
      if s.at == length ts then Some found else (external s >>= λ next. externals n (found ++ next.0 ∷ []) next.1)

  -- the declarations and functions of the unit that the tokens are
  unfoldable pub unit : Option (List External)
  unit = externals (length ts + 1) [] (record { at = 0; scope = start })

  unfoldable pub type_phrase_alone : ℕ → Reading TypePhrase
  type_phrase_alone depth s = (phrases depth).specs s >>= λ f. (phrases depth).declarator naming.NotNamed f.1 >>= λ g.
      Some (record { place = place_at ts s.at; specs = f.0.0; declarator = g.0.node }, g.1)

  -- the name of a type that the tokens are, where these names are types too
  unfoldable pub lone_type : List Name → Option TypePhrase
  lone_type typedefs = type_phrase_alone max_depth (record { at = 0; scope = types typedefs ++ start }) >>= λ f.
      if f.1.at == length ts then Some f.0 else None
