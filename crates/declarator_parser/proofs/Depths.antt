-- What is nested in a phrase of a depth.
use Rattle.std.proofs.Common.{◌≡◌, ℕ, zero, suc, ◌<◌, ◌≤◌, ◌-◌, List, Option, Some, None, Result, Ok, Err, IfOk, OnOk, refl, sym, ◌∙◌, ap, subst, arith}
use Rattle.c_tokens.specs.declared.token.Token.{Token}
use Rattle.grammar_descent.specs.Reading.{Readers, Reading, State, ◌>>=◌}
use Rattle.grammar_descent.specs.NextReaders.{no_readers, with_expressions}
use Rattle.grammar_descent.specs.AllReaders.{readers}
use Rattle.grammar_descent.specs.SpecifierSteps.{specs}
use Rattle.grammar_descent.specs.DeclaratorSteps.{declarator, parentheses_here, pointer_here}
use Rattle.grammar_descent.specs.Exact.{Exact, Grows}
use Rattle.token_reader.specs.declared.error.ParseError.{ParseError}
use Rattle.token_reader.specs.Input.{Input, Gives, Reads}
use Rattle.token_reader.specs.Found.{spelled_declarator, spelled_found, ReadsDeclarator}
use Rattle.token_reader.specs.declared.found.FoundSpecs.{FoundSpecs}
use Rattle.token_reader.specs.declared.found.FoundDeclarator.{FoundDeclarator}
use Rattle.token_reader.specs.Nests.{FoundExpression, with_kind}
use Rattle.token_texts.specs.Texts.{Texts}
use Rattle.c_grammar.specs.declared.phrases.Specs.{Specs}
use Rattle.c_grammar.specs.declared.words.NameKind.{NameKind}
use Rattle.c_grammar.specs.declared.words.NameKind.TheVariants as kind
use Rattle.c_grammar.specs.declared.words.Naming.{Naming}
use Rattle.c_grammar.specs.Words.{Role}
use Rattle.c_grammar.specs.Scope.{declared_kind}
use Rattle.declarator_parser.specs.WithRoles.{GivesSpecs, ReadsSpecs}
use Rattle.declarator_parser.specs.Below.{below}

pub readers_by_below : (text : List ℕ) (ts : List Token) (depth : ℕ) →
    readers text ts depth ≡ with_expressions text ts (readers text ts depth).expression (below text ts depth) depth
unfolding readers below
readers_by_below text ts zero = refl
readers_by_below text ts (suc depth) = refl

pub below-none : (text : List ℕ) (ts : List Token) (depth : ℕ) → depth ≡ 0 → below text ts depth ≡ no_readers
unfolding below
below-none text ts zero e = refl
below-none text ts (suc depth) e = absurd (omega arith)

pub below-some : (text : List ℕ) (ts : List Token) (depth n : ℕ) → depth ≡ suc n → below text ts depth ≡ readers text ts n
unfolding below
below-some text ts zero n e = absurd (omega arith)
below-some text ts (suc depth) n e = let same : depth ≡ n = omega arith in ap (readers text ts) same

-- Only what is read is bounded, and leaves a longer scope.
module _ (text : List ℕ) (ts : List Token) (depth : ℕ) (exact : Exact text ts depth (readers text ts depth)) where
  pub expression-low : (level : ℕ) (s t : State) (r : Result FoundExpression ParseError) → Gives r t ((readers text ts depth).expression level s) → IfOk r (λ f. f.1 ≤ depth)
  expression-low level s t (Ok f) is = exact.expression_sound.low level s t f.0 f.1 is
  expression-low level s t (Err e) is = tt

  pub specs-low : (s t : State) (r : Result FoundSpecs ParseError) → GivesSpecs r t ((readers text ts depth).specs s) → IfOk r (λ f. f.height ≤ depth)
  specs-low s t (Ok f) is = exact.specs_sound.low s t f.node is.0 f.height is.1
  specs-low s t (Err e) is = tt

  pub specs-grow : (s t : State) (r : Result FoundSpecs ParseError) → GivesSpecs r t ((readers text ts depth).specs s) → OnOk r (Grows s.scope t.scope)
  specs-grow s t (Ok f) is = exact.specs_sound.grows s t f.node is.0 f.height is.1
  specs-grow s t (Err e) is = tt

  pub declarator-low : (how : Naming) (s t : State) (texts : Texts) (r : Result FoundDeclarator ParseError) →
      Gives (spelled_found texts r) t ((readers text ts depth).declarator how s) → IfOk r (λ f. f.height ≤ depth)
  declarator-low how s t texts (Ok f) is = exact.declarator_sound.low how s t (spelled_declarator texts f) is
  declarator-low how s t texts (Err e) is = tt

  pub declarator-grow : (how : Naming) (s t : State) (texts : Texts) (r : Result FoundDeclarator ParseError) →
      Gives (spelled_found texts r) t ((readers text ts depth).declarator how s) → OnOk r (Grows s.scope t.scope)
  declarator-grow how s t texts (Ok f) is = exact.declarator_sound.grows how s t (spelled_declarator texts f) is
  declarator-grow how s t texts (Err e) is = tt

-- one depth less
pub deeper : (n depth high : ℕ) → depth ≡ suc n → high ≤ n → high < depth
deeper n depth high e h = omega arith

pub one_less : (depth : ℕ) → (depth ≡ 0 → ⊥) → depth ≡ suc (depth - 1)
one_less depth some = omega arith

pub low-below : {A : Type 0} (high : A → ℕ) (n depth : ℕ) (r : Result A ParseError) → depth ≡ suc n → IfOk r (λ f. high f ≤ n) → IfOk r (λ f. high f < depth)
low-below high n depth (Ok f) e h = deeper n depth (high f) e h
low-below high n depth (Err x) e h = tt

-- what the readers of one depth less read, and that there are none below depth 0
module _ {A : Type 0} (pick : Readers → Reading A) (depth : ℕ) where
  pub reads-below : (n : ℕ) → depth ≡ suc n → (before : Input) (r : Result A ParseError) (after : Input) →
      Reads (λ text ts. pick (readers text ts n)) before r after → Reads (λ text ts. pick (below text ts depth)) before r after
  reads-below n e before r after h = record {
    answer = subst (λ (x : Readers). Gives r after.state (pick x before.state)) (sym (below-some before.text before.tokens depth n e)) h.answer;
    text = h.text;
    tokens = h.tokens;
    texts = h.texts;
  }

  pub none-below : depth ≡ 0 → ((s : State) → pick no_readers s ≡ None) → (before : Input) (x : ParseError) →
      Reads (λ text ts. pick (below text ts depth)) before (Err x) before
  none-below e none before x = record {
    answer = λ at is. ap (λ (r : Readers). pick r before.state) (below-none before.text before.tokens depth e) ∙ none before.state;
    text = refl;
    tokens = refl;
    texts = refl;
  }

abbrev kind_found : Option (FoundSpecs × State) → NameKind
kind_found (Some g) = g.0.kind
kind_found None = kind.Ordinary

-- which kind a declared name has tells some roles, and roles tell which kind it has
pub told : (read : Reading (Specs × List Role × ℕ)) (s : State) (r : Result FoundSpecs ParseError) (t : State) → Gives r t (with_kind read s) → GivesSpecs r t (read s)
told read s r t h = by_answer (read s) r h
  where
    by_answer : (o : Option ((Specs × List Role × ℕ) × State)) (r : Result FoundSpecs ParseError) →
        Gives r t (o >>= λ f. Some (record { node = f.0.0; kind = declared_kind f.0.1; height = f.0.2 }, f.1)) → GivesSpecs r t o
    by_answer (Some ((specs, roles, height), u)) (Ok f) h =
        (roles, ap (λ o. o >>= λ (g : FoundSpecs × State). Some ((g.0.node, roles, g.0.height), g.1)) h, sym (ap kind_found h))
    by_answer (Some a) (Err x) h = λ at is. let k = h at is in cc
    by_answer None (Ok f) h = cc
    by_answer None (Err x) h = λ at is. refl

pub untold : (read : Reading (Specs × List Role × ℕ)) (s : State) (r : Result FoundSpecs ParseError) (t : State) → GivesSpecs r t (read s) → Gives r t (with_kind read s)
untold read s (Ok f) t h =
    ap (λ o. o >>= λ (g : (Specs × List Role × ℕ) × State). Some (let k : FoundSpecs = record { node = g.0.0; kind = declared_kind g.0.1; height = g.0.2 } in (k, g.1))) h.1
    ∙ ap (λ (k : NameKind). Some (let g : FoundSpecs = record { node = f.node; kind = k; height = f.height } in (g, t))) (sym h.2)
untold read s (Err x) t h =
    λ at is. ap (λ o. o >>= λ (g : (Specs × List Role × ℕ) × State). Some (let k : FoundSpecs = record { node = g.0.0; kind = declared_kind g.0.1; height = g.0.2 } in (k, g.1))) (h at is)

pub specs-below : (depth n : ℕ) → depth ≡ suc n → (before : Input) (r : Result FoundSpecs ParseError) (after : Input) →
    Reads (λ text ts. with_kind (readers text ts n).specs) before r after → ReadsSpecs (λ text ts. (below text ts depth).specs) before r after
specs-below depth n e before r after h = record {
  answer = subst (λ (x : Readers). GivesSpecs r after.state (x.specs before.state)) (sym (below-some before.text before.tokens depth n e))
      (told (readers before.text before.tokens n).specs before.state r after.state h.answer);
  text = h.text;
  tokens = h.tokens;
  texts = h.texts;
}

pub no_specs-below : (depth : ℕ) → depth ≡ 0 → (before : Input) (x : ParseError) → ReadsSpecs (λ text ts. (below text ts depth).specs) before (Err x) before
no_specs-below depth e before x = record {
  answer = λ at is. ap (λ (r : Readers). r.specs before.state) (below-none before.text before.tokens depth e);
  text = refl;
  tokens = refl;
  texts = refl;
}

-- the readers of a depth are the steps over those below it
pub specs-at : (depth : ℕ) (before : Input) (r : Result FoundSpecs ParseError) (after : Input) →
    ReadsSpecs (λ text ts. specs text ts (readers text ts depth).expression (below text ts depth)) before r after →
    Reads (λ text ts. with_kind (readers text ts depth).specs) before r after
specs-at depth before r after h = record {
  answer = untold (readers before.text before.tokens depth).specs before.state r after.state
      (subst (λ (x : Readers). GivesSpecs r after.state (x.specs before.state)) (sym (readers_by_below before.text before.tokens depth)) h.answer);
  text = h.text;
  tokens = h.tokens;
  texts = h.texts;
}

pub declarator-at : (depth : ℕ) (how : Naming) (before : Input) (r : Result FoundDeclarator ParseError) (after : Input) →
    Reads (λ text ts. declarator text ts (below text ts depth) depth how) before (spelled_found before.texts r) after →
    Reads (λ text ts. (readers text ts depth).declarator how) before (spelled_found before.texts r) after
declarator-at depth how before r after h = record {
  answer = subst (λ (x : Readers). Gives (spelled_found before.texts r) after.state (x.declarator how before.state)) (sym (readers_by_below before.text before.tokens depth)) h.answer;
  text = h.text;
  tokens = h.tokens;
  texts = h.texts;
}

pub declarator-below : (depth n : ℕ) (how : Naming) → depth ≡ suc n → (before : Input) (r : Result FoundDeclarator ParseError) (after : Input) →
    ReadsDeclarator (λ text ts. (readers text ts n).declarator how) before r after →
    ReadsDeclarator (λ text ts. (below text ts depth).declarator how) before r after
declarator-below depth n how e before r after h = record {
  reads = reads-below (λ (x : Readers). x.declarator how) depth n e before (spelled_found before.texts r) after h.reads;
  spelled = h.spelled;
}

pub no_declarator-below : (depth : ℕ) (how : Naming) → depth ≡ 0 → (before : Input) (x : ParseError) →
    ReadsDeclarator (λ text ts. (below text ts depth).declarator how) before (Err x) before
no_declarator-below depth how e before x = record {
  reads = none-below (λ (r : Readers). r.declarator how) depth e (λ s. refl) before x;
  spelled = tt;
}

-- below depth 0 nothing is nested
pub no_parentheses : (text : List ℕ) (ts : List Token) (depth : ℕ) (how : Naming) (s : State) → depth ≡ 0 → parentheses_here text ts (below text ts depth) how s ≡ None
unfolding parentheses_here
no_parentheses text ts depth how s e = rw (below-none text ts depth e) refl

pub no_pointer : (text : List ℕ) (ts : List Token) (depth : ℕ) (how : Naming) (s : State) → depth ≡ 0 → pointer_here text ts (below text ts depth) how s ≡ None
unfolding pointer_here
no_pointer text ts depth how s e = rw (below-none text ts depth e) refl
