-- The readers of units, one step on.
use Rattle.std.proofs.Common.{◌≡◌, ℕ, suc, Bool, true, false, ◌==◌, List, ◌++◌, ◌∷◌, [], length, Option, Some, None, refl, subst, sym, Result, if◌then◌else◌}
use Rattle.c_tokens.specs.declared.token.Token.{Token}
use Rattle.c_tokens.specs.declared.kind.Mark.TheVariants as mark
use Rattle.c_grammar.specs.declared.phrases.Specs.{Specs}
use Rattle.c_grammar.specs.declared.statements.Declaration.{Declaration}
use Rattle.c_grammar.specs.declared.statements.InitDeclarator.{InitDeclarator}
use Rattle.c_grammar.specs.declared.statements.Block.{Block}
use Rattle.c_grammar.specs.declared.units.External.{External}
use Rattle.c_grammar.specs.declared.units.External.TheVariants as x
use Rattle.c_grammar.specs.Tokens.{place_at}
use Rattle.c_grammar.specs.Words.{Role}
use Rattle.c_grammar.specs.Scope.{Scope, declared_kind, with_parameters}
use Rattle.c_grammar.specs.declared.words.NameKind.{NameKind}
use Rattle.c_grammar.specs.Limits.{max_depth}
use Rattle.grammar_descent.specs.Reading.{State, ◌>>=◌, mark_at, past, Readers}
use Rattle.grammar_descent.specs.Exact.{Exact, Grows}
use Rattle.grammar_descent.specs.InitialiserSteps as i
use Rattle.grammar_descent.specs.InitialiserSteps.{NamedDeclarator, declare}
use Rattle.grammar_descent.specs.StatementSteps as st
use Rattle.grammar_descent.specs.StatementSteps.{back}
use Rattle.grammar_descent.specs.UnitSteps as step
use Rattle.grammar_descent.specs.UnitSteps.{in_function}
use Rattle.token_reader.specs.declared.found.FoundSpecs.{FoundSpecs}
use Rattle.token_reader.specs.Nests.{with_kind}
use Rattle.c_parser.specs.Answers.{body_of}
use Rattle.token_reader.specs.declared.error.ParseError.{ParseError}
use Rattle.token_reader.specs.Input.{Input, Reads, Gives}
use Rattle.grammar_descent.specs.AllReaders.{readers}
use Rattle.c_parser.proofs.Scopes.{grows_on, closed_again}
use Rattle.c_parser.proofs.Closings.{Closes, after_block}

grows_parameters : (own : Option Scope) (before : Scope) → Grows before (with_parameters own before)
grows_parameters None before = record { new = []; is = refl }
grows_parameters (Some own) before = record { new = own; is = refl }

module _ (text : List ℕ) (ts : List Token) (phrases : ℕ → Readers) where
  module _ (s : State) where
    abbrev pub after_declarator : Specs → NameKind → ℕ → NamedDeclarator × State → Option (External × State)
    after_declarator specs kind from d =
        if mark_at ts d.1.at mark.LeftBrace
        then (body_of text ts phrases kind d.0 d.1 >>= λ b.
        Some (x.Function (record { place = place_at ts s.at; specs = specs; declarator = d.0.node; body = b.0 }), b.1))
        else (i.init_declarators ts phrases max_depth kind from d >>= λ all.
        Some (x.Declaration (record { place = place_at ts s.at; specs = specs; declarators = all.0 }), all.1))

    abbrev pub after_specs : FoundSpecs × State → Option (External × State)
    after_specs f =
        if mark_at ts f.1.at mark.Semicolon
        then Some (x.Declaration (record { place = place_at ts s.at; specs = f.0.node; declarators = [] }), past f.1 1)
        else (i.named_declarator ts phrases max_depth f.1 >>= after_declarator f.0.node f.0.kind f.1.at)

    of_block : (specs : Specs) (d : NamedDeclarator × State) (roles : List Role) (answer : Option (Block × State)) →
        ◌>>=◌ {B = External × State} answer (λ body.
        Some (x.Function (record { place = place_at ts s.at; specs = specs; declarator = d.0.node; body = body.0 }), back (declare d.1 d.0.name (declared_kind roles)) body.1))
        ≡ ◌>>=◌ {A = Block × State} {B = External × State}
        (◌>>=◌ {B = Block × State} answer (λ body. Some (body.0, back (declare d.1 d.0.name (declared_kind roles)) body.1))) (λ b.
        Some (x.Function (record { place = place_at ts s.at; specs = specs; declarator = d.0.node; body = b.0 }), b.1))
    of_block specs d roles None = refl
    of_block specs d roles (Some body) = refl

    of_names : (specs : Specs) (answer : Option (List InitDeclarator × State)) →
        ◌>>=◌ {A = Declaration × State} {B = External × State}
        (◌>>=◌ {B = Declaration × State} answer (λ all. Some (record { place = place_at ts s.at; specs = specs; declarators = all.0 }, all.1)))
        (λ all. Some (x.Declaration all.0, all.1))
        ≡ ◌>>=◌ {B = External × State} answer (λ all. Some (x.Declaration (record { place = place_at ts s.at; specs = specs; declarators = all.0 }), all.1))
    of_names specs None = refl
    of_names specs (Some all) = refl

    of_test : (specs : Specs) (roles : List Role) (from : ℕ) (d : NamedDeclarator × State) (b : Bool) → mark_at ts d.1.at mark.LeftBrace ≡ b →
        step.external_after text ts phrases s.at specs roles from d ≡ after_declarator specs (declared_kind roles) from d
    unfolding step.external_after step.function_with_body i.declaration_of_names
    of_test specs roles from d true e = rw e (of_block specs d roles (st.block text ts phrases max_depth (in_function d (declared_kind roles))))
    of_test specs roles from d false e = rw e (of_names specs (i.init_declarators ts phrases max_depth (declared_kind roles) from d))

    of_declarator : (specs : Specs) (roles : List Role) (from : ℕ) (answer : Option (NamedDeclarator × State)) →
        (answer >>= step.external_after text ts phrases s.at specs roles from) ≡ (answer >>= after_declarator specs (declared_kind roles) from)
    of_declarator specs roles from None = refl
    of_declarator specs roles from (Some d) = of_test specs roles from d (mark_at ts d.1.at mark.LeftBrace) refl

    of_specs : (answer : Option ((Specs × List Role × ℕ) × State)) →
        ◌>>=◌ {B = External × State} answer (λ f. if mark_at ts f.1.at mark.Semicolon
        then Some (x.Declaration (record { place = place_at ts s.at; specs = f.0.0; declarators = [] }), past f.1 1)
        else (i.named_declarator ts phrases max_depth f.1 >>= step.external_after text ts phrases s.at f.0.0 f.0.1 f.1.at))
        ≡ ◌>>=◌ {B = External × State} (◌>>=◌ {B = FoundSpecs × State} answer (λ f. Some (record { node = f.0.0; kind = declared_kind f.0.1; height = f.0.2 }, f.1))) after_specs
    of_specs None = refl
    of_specs (Some f) = rw (of_declarator f.0.0 f.0.1 f.1.at (i.named_declarator ts phrases max_depth f.1)) refl

    pub external_by : step.external text ts phrases s ≡ (with_kind (phrases max_depth).specs s >>= after_specs)
    unfolding step.external
    external_by = of_specs ((phrases max_depth).specs s)

  pub externals-end : (n : ℕ) (found : List External) (s : State) → (s.at == length ts) ≡ true → step.externals text ts phrases (suc n) found s ≡ Some found
  unfolding step.externals
  externals-end n found s e = rw e refl

  pub externals-none : (n : ℕ) (found : List External) (s : State) → (s.at == length ts) ≡ false → step.external text ts phrases s ≡ None →
      step.externals text ts phrases (suc n) found s ≡ None
  unfolding step.externals
  externals-none n found s e a = rw (e, a) refl

  pub externals-more : (n : ℕ) (found : List External) (s t : State) (next : External) → (s.at == length ts) ≡ false → step.external text ts phrases s ≡ Some (next, t) →
      step.externals text ts phrases (suc n) found s ≡ step.externals text ts phrases n (found ++ next ∷ []) t
  unfolding step.externals
  externals-more n found s t next e a = rw (e, a) refl

  pub externals-over : (found : List External) (s : State) → step.externals text ts phrases 0 found s ≡ None
  unfolding step.externals
  externals-over found s = refl

-- After the block of a function, closing to the count of the names before its parameters leaves these.
pub after_function : (text : List ℕ) (ts : List Token) (phrases : ℕ → Readers) (exact : (d : ℕ) → Exact text ts d (phrases d)) (own : Option Scope) (before : Scope)
    (s t : State) (x : Block) → s.scope ≡ with_parameters own before → st.block text ts phrases max_depth s ≡ Some (x, t) → Closes before t.scope
after_function text ts phrases exact own before s t x same e =
    closed_again before t.scope (grows_on before (with_parameters own before) t.scope (grows_parameters own before)
    (subst (λ (l : Scope). Grows l t.scope) same (after_block text ts phrases exact max_depth s.scope s t x refl e)))

-- what a function that reads so finds is what `external` finds
pub external_read : (old after : Input) (r : Result External ParseError) →
    Reads (λ text ts s. with_kind (readers text ts max_depth).specs s >>= after_specs text ts (readers text ts) s) old r after →
    Reads (λ text ts. step.external text ts (readers text ts)) old r after
external_read old after r reads = record {
  answer = subst (λ (x : Option (External × State)). Gives r after.state x) (sym (external_by old.text old.tokens (readers old.text old.tokens) old.state)) reads.answer;
  text = reads.text;
  tokens = reads.tokens;
  texts = reads.texts;
}
