-- The readers of expressions of one depth in terms of those of the depth below.
use Rattle.std.proofs.Common.{◌≡◌, ℕ, zero, suc, ◌-◌, ◌<◌, refl, sym, subst, arith, Result, Err}
use Rattle.c_grammar.specs.declared.phrases.Expression.{Expression}
use Rattle.grammar_descent.specs.ExpressionSteps as step
use Rattle.grammar_descent.specs.AllReaders.{readers}
use Rattle.token_reader.specs.declared.error.ParseError.{ParseError}
use Rattle.token_reader.specs.Input.{Input, Reads}

-- no expression has depth 0
pub none_at_zero : (depth level : ℕ) (input : Input) (e : ParseError) → depth ≡ 0 →
    Reads {A = Expression × ℕ} (λ text ts. (readers text ts depth).expression level) input (Err e) input
unfolding readers
none_at_zero zero level input e is = record { answer = λ at h. refl; text = refl; tokens = refl; texts = refl }
none_at_zero (suc n) level input e is = absurd (omega arith)

pub one_deeper : (depth level : ℕ) (before after : Input) (r : Result (Expression × ℕ) ParseError) → 0 < depth →
    Reads (λ text ts. step.expression text ts (depth - 1) (readers text ts (depth - 1)) level) before r after →
    Reads (λ text ts. (readers text ts depth).expression level) before r after
unfolding readers
one_deeper depth level before after r some h =
    let e : depth ≡ suc (depth - 1) = omega arith in
    subst (λ n. Reads {A = Expression × ℕ} (λ text ts. (readers text ts n).expression level) before r after) (sym e) h
