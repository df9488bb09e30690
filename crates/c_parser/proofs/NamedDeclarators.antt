-- A declarator is read, and then its name is asked for.
use Rattle.std.proofs.Common.{◌≡◌, ℕ, ◌<◌, length, List, Option, Some, None, IfSome, Ok, Err, refl, sym, subst}
use Rattle.c_tokens.specs.declared.token.Token.{Token}
use Rattle.c_grammar.specs.declared.words.Naming.TheVariants as naming
use Rattle.token_texts.specs.Texts.{Texts}
use Rattle.grammar_descent.specs.Reading.{Reading, FoundDeclarator as Spelled}
use Rattle.grammar_descent.specs.AllReaders.{readers}
use Rattle.grammar_descent.specs.InitialiserSteps as step
use Rattle.grammar_descent.specs.InitialiserSteps.{NamedDeclarator as SpelledNamed}
use Rattle.token_reader.specs.declared.error.ParseError.{ParseError}
use Rattle.token_reader.specs.declared.found.FoundDeclarator.{FoundDeclarator}
use Rattle.token_reader.specs.Input.{Input, Reads}
use Rattle.token_reader.specs.Found.{ReadsDeclarator}
use Rattle.c_parser.specs.declared.declarations.NamedDeclarator.{NamedDeclarator}
use Rattle.c_parser.specs.Named.{spelled_named, HasSpelling, ReadsNamed}

module _ (depth : ℕ) where
  abbrev read_any : List ℕ → List Token → Reading Spelled
  read_any text ts = (readers text ts depth).declarator naming.Named

  abbrev read_named : List ℕ → List Token → Reading SpelledNamed
  read_named text ts = step.named_declarator ts (readers text ts) depth

  pub named_fails : (before after : Input) (e : ParseError) → ReadsDeclarator read_any before (Err e) after → ReadsNamed read_named before (Err e) after
  unfolding step.named_declarator
  named_fails before after e r = record {
    reads = record { answer = λ at is. let gone = r.reads.answer at is in rw gone refl; text = r.reads.text; tokens = r.reads.tokens; texts = r.reads.texts };
    spelled = tt;
  }

  pub named_none : (before after : Input) (found : FoundDeclarator) (e : ParseError) → found.name ≡ None → ReadsDeclarator read_any before (Ok found) after →
      ReadsNamed read_named before (Err e) after
  unfolding step.named_declarator
  named_none before after found e none r = record {
    reads = record { answer = λ at is. rw (r.reads.answer, none) refl; text = r.reads.text; tokens = r.reads.tokens; texts = r.reads.texts };
    spelled = tt;
  }

  abbrev as_named : FoundDeclarator → ℕ → NamedDeclarator
  as_named found name = record { node = found.node; name = name; own = found.own }

  named_reads : (before after : Input) (found : FoundDeclarator) (name : ℕ) → found.name ≡ Some name → ReadsDeclarator read_any before (Ok found) after →
      Reads {A = SpelledNamed} read_named before (Ok (spelled_named before.texts (as_named found name))) after
  unfolding step.named_declarator
  named_reads before after found name is r = record {
    answer = rw (r.reads.answer, is) refl;
    text = r.reads.text;
    tokens = r.reads.tokens;
    texts = r.reads.texts;
  }

  pub named_found : (before after : Input) (found : FoundDeclarator) (name : ℕ) → found.name ≡ Some name → ReadsDeclarator read_any before (Ok found) after →
      ReadsNamed read_named before (Ok (as_named found name)) after
  named_found before after found name is r =
      let low : name < length before.texts.names = subst (λ (o : Option ℕ). IfSome o (λ n. n < length before.texts.names)) is r.spelled.name in
      let has : HasSpelling before.texts (as_named found name) = record { name = low; own = r.spelled.own } in
      record {
        reads = subst (λ (t : Texts). Reads {A = SpelledNamed} read_named before (Ok (spelled_named t (as_named found name))) after) (sym r.reads.texts) (named_reads before after found name is r);
        spelled = subst (λ (t : Texts). HasSpelling t (as_named found name)) (sym r.reads.texts) has;
      }
