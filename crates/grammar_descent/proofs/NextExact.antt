-- Where readers are exact for a depth, specifiers and declarators of the next depth are read exactly; and so they are at depth 0.
use Rattle.std.proofs.Common.{ℕ, suc, ◌<◌, List, arith}
use Rattle.c_tokens.specs.declared.token.Token.{Token}
use Rattle.c_grammar.specs.declared.phrases.Expression.{Expression}
use Rattle.c_grammar.specs.Scope.{Scope}
use Rattle.c_grammar.specs.Phrases.{IsExpression}
use Rattle.c_grammar.specs.Phrases as p
use Rattle.grammar_descent.specs.Reading.{Reading, Readers}
use Rattle.grammar_descent.specs.Exact.{SoundExpression, CompleteExpression, Exact}
use Rattle.grammar_descent.specs.NextReaders.{no_readers, with_expressions, least_readers}
use Rattle.grammar_descent.proofs.Nested.{Complete, Sound}
use Rattle.grammar_descent.proofs.DeclaratorComplete.{complete_declarator}
use Rattle.grammar_descent.proofs.DeclaratorSound.{sound_declarator}
use Rattle.grammar_descent.proofs.SpecifierComplete.{complete_specs}
use Rattle.grammar_descent.proofs.SpecifierSound.{sound_specs}

module _ (text : List ℕ) (ts : List Token) where
  all_exact : (depth : ℕ) (expression : ℕ → Reading (Expression × ℕ)) (inner : Readers) → SoundExpression text ts depth expression →
      CompleteExpression text ts depth expression → Sound text ts depth inner → Complete text ts depth inner →
      Exact text ts depth (with_expressions text ts expression inner depth)
  all_exact depth expression inner sound complete inner_sound inner_complete = record {
    expression_sound = sound;
    expression_complete = complete;
    specs_sound = sound_specs text ts depth expression sound inner inner_sound;
    specs_complete = complete_specs text ts depth expression complete inner inner_complete;
    declarator_sound = sound_declarator text ts depth inner inner_sound;
    declarator_complete = complete_declarator text ts depth inner inner_complete;
  }

  sound_below : (depth : ℕ) (inner : Readers) → Exact text ts depth inner → Sound text ts (suc depth) inner
  sound_below depth inner exact = record {
    expression = λ level s t e height h.
        (let low = exact.expression_sound.low level s t e height h in
        record {
          low = omega arith;
          derived = λ d deep. exact.expression_sound.derived level d s t e height h deep;
          grows = exact.expression_sound.grows level s t e height h;
        });
    specs = λ s t found roles height h.
        (let low = exact.specs_sound.low s t found roles height h in
        record {
          low = omega arith;
          derived = λ d deep. exact.specs_sound.derived d s t found roles height h deep;
          grows = exact.specs_sound.grows s t found roles height h;
        });
    declarator = λ how s t found h.
        (let low = exact.declarator_sound.low how s t found h in
        record {
          low = omega arith;
          derived = λ d deep. exact.declarator_sound.derived how d s t found h deep;
          grows = exact.declarator_sound.grows how s t found h;
        });
  }

  complete_below : (depth : ℕ) (inner : Readers) → Exact text ts depth inner → Complete text ts (suc depth) inner
  complete_below depth inner exact = record {
    expression = λ level d s t e low is ends. exact.expression_complete level d s t e (omega arith) is ends;
    specs = λ d s t found roles low is ends. exact.specs_complete d s t found roles (omega arith) is ends;
    declarator = λ how d s t found name own low is ends. exact.declarator_complete how d s t found name own (omega arith) is ends;
  }

  -- from readers for a depth, and a reader of the expressions of the next one
  pub next_exact : (depth : ℕ) (expression : ℕ → Reading (Expression × ℕ)) (inner : Readers) → Exact text ts depth inner →
      SoundExpression text ts (suc depth) expression → CompleteExpression text ts (suc depth) expression →
      Exact text ts (suc depth) (with_expressions text ts expression inner (suc depth))
  next_exact depth expression inner exact sound complete =
      all_exact (suc depth) expression inner sound complete (sound_below depth inner exact) (complete_below depth inner exact)

  expressions_nest : {d level from to : ℕ} {scope after : Scope} {node : Expression} → IsExpression text ts d level scope after from to node → 0 < d
  expressions_nest (p.name low is other) = omega arith
  expressions_nest _ = omega arith

  no_expression_sound : SoundExpression text ts 0 no_readers.expression
  no_expression_sound = record {
    low = λ level s t e height h. absurd cc;
    derived = λ level d s t e height h deep. absurd cc;
    grows = λ level s t e height h. absurd cc;
  }

  no_expression_complete : CompleteExpression text ts 0 no_readers.expression
  no_expression_complete level d s t e low is ends = absurd (let some = expressions_nest is in omega arith)

  pub least_exact : Exact text ts 0 (least_readers text ts)
  least_exact =
      all_exact 0 no_readers.expression no_readers no_expression_sound no_expression_complete
      (record {
        expression = λ level s t e height h. absurd cc;
        specs = λ s t found roles height h. absurd cc;
        declarator = λ how s t found h. absurd cc;
      })
      (record {
        expression = λ level d s t e low is ends. absurd (omega arith);
        specs = λ d s t found roles low is ends. absurd (omega arith);
        declarator = λ how d s t found name own low is ends. absurd (omega arith);
      })
