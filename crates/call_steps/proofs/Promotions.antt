-- Arguments of `printf`, one more at a time, and the parts of a format.
use Rattle.std.proofs.Common.{◌≡◌, refl, sym, ap, ◌∙◌, ℕ, List, [], ◌∷◌, ◌++◌, Option, Some, None}
use Rattle.c_print.specs.Formats.{AreOnly, BreaksAt, Parts}
use Rattle.c_print.specs.declared.parts.Part.{Part}
use Rattle.c_tree.specs.declared.values.Value.{Value}
use Rattle.static_rules.specs.Calls.{promoted_argument, values_of}
use Rattle.static_rules.specs.Expressions.{promoted_all}
use Rattle.static_rules.specs.Formats.{IsReading}
use Rattle.static_rules.specs.declared.judged.Operand.{Operand}
use Rattle.call_steps.specs.Printing.{kinds_of, print_arguments, with_printed}
use Rattle.call_steps.specs.declared.printing.PrintArguments.{PrintArguments}

-- ---- arguments

abbrev both_of : List Value → List ℕ → PrintArguments
both_of values kinds = record { values = values; kinds = kinds }

module _ (line : ℕ) where
  values_more : (xs : List Operand) (x : Operand) →
      values_of (promoted_all line (xs ++ x ∷ []))
      ≡ values_of (promoted_all line xs) ++ (promoted_argument line x).value ∷ []
  values_more [] x = refl
  values_more (y ∷ xs) x = ap (λ (values : List Value). (promoted_argument line y).value ∷ values) (values_more xs x)

  kinds_more : (xs : List Operand) (x : Operand) →
      kinds_of (promoted_all line (xs ++ x ∷ []))
      ≡ kinds_of (promoted_all line xs) ++ (promoted_argument line x).kind ∷ []
  kinds_more [] x = refl
  kinds_more (y ∷ xs) x = ap (λ (kinds : List ℕ). (promoted_argument line y).kind ∷ kinds) (kinds_more xs x)

  pub one_more : (xs : List Operand) (x : Operand) →
      print_arguments line (xs ++ x ∷ []) ≡ with_printed (print_arguments line xs) (promoted_argument line x)
  unfolding print_arguments
  one_more xs x = (λ n. both_of (values_more xs x n) (kinds_more xs x n))

pub values_are : (line : ℕ) (xs : List Operand) (made : PrintArguments) → print_arguments line xs ≡ made →
    values_of (promoted_all line xs) ≡ made.values
unfolding print_arguments
values_are line xs made is = ap (λ (a : PrintArguments). a.values) is

pub kinds_are : (line : ℕ) (xs : List Operand) (made : PrintArguments) → print_arguments line xs ≡ made →
    kinds_of (promoted_all line xs) ≡ made.kinds
unfolding print_arguments
kinds_are line xs made is = ap (λ (a : PrintArguments). a.kinds) is

-- ---- formats

pub only_parts : (format : List ℕ) (made : List Part) (parts : Option (List Part)) → Parts format made →
    AreOnly format made → IsReading format parts → Some made ≡ parts
only_parts format made (Some parts) found only is = ap (λ (p : List Part). Some p) (sym (only parts is))
only_parts format made None found only none = absurd (none made found)

pub no_parts : (format : List ℕ) (at : ℕ) (parts : Option (List Part)) → BreaksAt format at → IsReading format parts →
    None ≡ parts
no_parts format at (Some parts) breaks is = absurd (breaks.no_parts parts is)
no_parts format at None breaks none = refl
