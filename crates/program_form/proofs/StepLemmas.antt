-- The form, one step on.
use Rattle.std.proofs.Common.{◌≡◌, ℕ, zero, suc, ◌-◌, ◌<◌, ◌≤◌, List, [], ◌∷◌, ◌++◌, take, length, Option, Some, None, Ok, Err, refl, ap, arith}
use Rattle.std.proofs.lemmas.List.{length-take}
use Rattle.c_grammar.specs.declared.phrases.Expression.{Expression as Syntax}
use Rattle.c_grammar.specs.declared.statements.BlockItem.{BlockItem}
use Rattle.c_grammar.specs.declared.statements.Statement.{Statement as SyntaxStatement}
use Rattle.c_grammar.specs.declared.units.External.{External}
use Rattle.plain_meaning.specs.declared.tree.Statement.{Statement}
use Rattle.plain_meaning.specs.declared.tree.Function.{Function}
use Rattle.program_form.specs.declared.program.NumberedFunction.{NumberedFunction}
use Rattle.token_texts.specs.Texts.{Texts}
use Rattle.form_parts.specs.Variables.{Variable}
use Rattle.program_form.specs.Numbers.{number, number_by}
use Rattle.program_form.specs.Statements.{statement, statement_by, item, items}
use Rattle.program_form.specs.Programs.{external, functions, line_of}

-- a list that begins with another is no shorter
pub grows : (before after : List Variable) → take (length before) after ≡ before → length before ≤ length after
grows before after h = let e = length-take (length before) after in let f : length (take (length before) after) ≡ length before = ap length h in omega arith

module _ (texts : Texts) where
  pub number-zero : (depth : ℕ) (scope : List Variable) (syntax : Syntax) → depth ≡ 0 → number texts depth scope syntax ≡ None
  unfolding number
  number-zero depth scope syntax e = rw e refl

  pub number-suc : (depth : ℕ) (scope : List Variable) (syntax : Syntax) → 0 < depth →
      number texts depth scope syntax ≡ number_by texts (number texts (depth - 1) scope) scope syntax
  unfolding number
  number-suc zero scope syntax some = absurd (omega arith)
  number-suc (suc depth) scope syntax some = let e : suc depth - 1 ≡ depth = omega arith in rw e refl

  pub statement-zero : (depth : ℕ) (scope : List Variable) (syntax : SyntaxStatement) → depth ≡ 0 → statement texts depth scope syntax ≡ None
  unfolding statement
  statement-zero depth scope syntax e = rw e refl

  pub statement-suc : (depth : ℕ) (scope : List Variable) (syntax : SyntaxStatement) → 0 < depth →
      statement texts depth scope syntax ≡ statement_by texts (statement texts (depth - 1)) scope syntax
  unfolding statement
  statement-suc zero scope syntax some = absurd (omega arith)
  statement-suc (suc depth) scope syntax some = let e : suc depth - 1 ≡ depth = omega arith in rw e refl

  module _ (inner : List Variable → SyntaxStatement → Option Statement) where
    pub items-end : (start : ℕ) (scope : List Variable) (found : List Statement) (rest : List BlockItem) → rest ≡ [] →
        items texts inner start scope found rest ≡ Some found
    unfolding items
    items-end start scope found rest e = rw e refl

    pub items-more : (start : ℕ) (scope after : List Variable) (found : List Statement) (one : BlockItem) (all rest : List BlockItem) (next : Statement) →
        all ≡ one ∷ rest → item texts inner start scope one ≡ Some (next, after) →
        items texts inner start scope found all ≡ items texts inner start after (found ++ next ∷ []) rest
    unfolding items
    items-more start scope after found one all rest next e made = rw (e, made) refl

    pub items-fail : (start : ℕ) (scope : List Variable) (found : List Statement) (one : BlockItem) (all rest : List BlockItem) →
        all ≡ one ∷ rest → item texts inner start scope one ≡ None → items texts inner start scope found all ≡ None
    unfolding items
    items-fail start scope found one all rest e made = rw (e, made) refl

  pub functions-end : (earlier : List ℕ) (found : List Function) (rest : List External) → rest ≡ [] → functions texts earlier found rest ≡ Ok found
  unfolding functions
  functions-end earlier found rest e = rw e refl

  pub functions-more : (earlier : List ℕ) (found : List Function) (one : External) (all rest : List External) (next : NumberedFunction) →
      all ≡ one ∷ rest → external texts earlier one ≡ Some next →
      functions texts earlier found all ≡ functions texts (earlier ++ next.number ∷ []) (found ++ next.function ∷ []) rest
  unfolding functions
  functions-more earlier found one all rest next e made = rw (e, made) refl

  pub functions-fail : (earlier : List ℕ) (found : List Function) (one : External) (all rest : List External) →
      all ≡ one ∷ rest → external texts earlier one ≡ None → functions texts earlier found all ≡ Err (line_of one)
  unfolding functions
  functions-fail earlier found one all rest e made = rw (e, made) refl
