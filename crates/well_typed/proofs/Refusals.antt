-- Expressions and statements that are not well typed.
use Rattle.std.proofs.Common.{◌≡◌, ℕ, ℤ, pos, Bool, true, false, List, [], ◌∷◌, Option, Some, None, refl, ap, inl, inr, arith}
use Rattle.std.specs.Prelude.{◌||◌, ◌<◌}
use Rattle.std.specs.List.{IsDistinct}
use Rattle.std.specs.Ordering.{int_eq}
use Rattle.c_print.specs.declared.parts.Part.TheVariants as part
use Rattle.c_print.specs.declared.parts.Letter.TheVariants as letter
use Rattle.c_print.specs.declared.parts.Flag.TheVariants as flag
use Rattle.c_tree.specs.declared.program.Variable.{Variable}
use Rattle.c_tree.specs.declared.values.At.{At}
use Rattle.c_tree.specs.declared.values.Place.{Place, Place-F}
use Rattle.c_tree.specs.declared.values.Place.TheVariants as p
use Rattle.c_tree.specs.declared.values.Value.{Value, Value-F}
use Rattle.c_tree.specs.declared.values.Value.TheVariants as v
use Rattle.c_tree.specs.declared.statements.Initial.TheVariants as i
use Rattle.c_tree.specs.declared.statements.Statement.{Statement, Statement-F}
use Rattle.c_tree.specs.declared.statements.Statement.TheVariants as s
use Rattle.well_typed.specs.Effects.{acts_in_value, acts_in_place}
use Rattle.well_typed.specs.Surroundings.{at, Surroundings, IsAddressed}
use Rattle.well_typed.specs.Expressions.{IsPlace, IsValue, PlaceRule, ValueRule, variable, number, address, advance, Fit, converted}
use Rattle.well_typed.specs.Statements.{Position, IsStatement, StatementRule, break, case, return_nothing, AreLabels, cases_of}
use Rattle.well_typed.specs.Programs.{DoesNotAct}
use Rattle.well_typed.proofs.Layers.{rule_of_place, rule_of_value, rule_of_statement}
use Rattle.well_typed.proofs.Steps.{value_acts_is}
use Rattle.well_typed.proofs.ExampleTypes.{unaddressed, around, void_pointer_unsized}
use Rattle.well_typed.proofs.Examples.{alone, named_place, name, int}

-- ---- expressions

-- `&x` of a register
is_addressed : Option Variable → Bool
is_addressed (Some x) = x.addressed
is_addressed None = false

not_addressed : IsAddressed (alone (unaddressed 6)) 0 → ⊥
unfolding is_addressed
not_addressed r = let same : false ≡ r.found.addressed = ap is_addressed r.here in cc (r.addressed)

no_address : (kind : ℕ) → IsValue (alone (unaddressed 6)) (v.Address (at 1 kind) (named_place 6 0)) kind → ⊥
no_address kind typed = refused _ kind (rule_of_value (v.outs-Address _ _) typed)
  where
    refused : (a : At) (k : ℕ) → ValueRule (alone (unaddressed 6)) (Value-F.Address a (named_place 6 0)) k → ⊥
    refused a k (address place_is object points) = not_addressed (rw p.outs-Variable at object)

-- `void *v; v + 1`
no_void_sum : IsValue (alone (unaddressed 11)) (v.Advance (at 1 11) (name 11 0) (int (pos 1))) 11 → ⊥
no_void_sum typed = refused _ _ refl (rule_of_value (v.outs-Advance _ _ _) typed)
  where
    refused : (a : At) (k : ℕ) → k ≡ 11 →
        ValueRule (alone (unaddressed 11)) (Value-F.Advance a (name 11 0) (int (pos 1))) k → ⊥
    refused a k is (advance x_is pointer y_is whole) = let sized = pointer.1 in cc void_pointer_unsized

-- a pointer where a number is wanted
no_number : (e : Surroundings) → IsValue e (name 10 0) 6 → ⊥
no_number e typed = refused (rule_of_value (v.outs-Load _ _) typed)
  where
    refused : ValueRule e (Value-F.Load (at 1 10) (named_place 10 0)) 6 → ⊥
    refused none = elim none [ ]

-- a variable that is in no scope
no_scope : IsPlace (around (unaddressed 6 ∷ []) []) (named_place 6 0) 6 → ⊥
no_scope typed = refused _ _ (rule_of_place (p.outs-Variable _ _) typed)
  where
    refused : (a : At) (k : ℕ) → PlaceRule (around (unaddressed 6 ∷ []) []) (Place-F.Variable a 0) k → ⊥
    refused a k (variable named seen) = let nowhere : named.in_scope.0 < 0 = named.in_scope.1 in omega arith

-- `printf("%ld", 1)`
number_kind : (e : Surroundings) (n : ℤ) (kind : ℕ) → IsValue e (int n) kind → kind ≡ 6
number_kind e n kind typed = found _ kind (rule_of_value (v.outs-Number _ _) typed)
  where
    found : (a : At) (k : ℕ) → ValueRule e (Value-F.Number a n) k → k ≡ a.kind
    found a k (number whole fits) = refl

no_long : (e : Surroundings) → Fit e (part.Number letter.D flag.Bare 0 true ∷ []) (int (pos 1) ∷ []) → ⊥
no_long e (converted {kind} x_is (inl eight) fits) = let six = number_kind e (pos 1) kind x_is in omega arith
no_long e (converted {kind} x_is (inr nine) fits) = let six = number_kind e (pos 1) kind x_is in omega arith

-- ---- statements

-- `break;` outside loops and switches
no_break : (position : Position) → position.may_break ≡ false → IsStatement position (s.Break 1) → ⊥
no_break position none typed = refused (rule_of_statement (s.outs-Break _) typed)
  where
    refused : StatementRule position (Statement-F.Break 1) → ⊥
    refused (break may) = cc

-- `case 1:` outside a switch, or deeper than its block
no_case : (position : Position) → position.switch_type ≡ None → IsStatement position (s.Case 1 (pos 1)) → ⊥
no_case position none typed = refused (rule_of_statement (s.outs-Case _ _) typed)
  where
    refused : StatementRule position (Statement-F.Case 1 (pos 1)) → ⊥
    refused (case is fits) = cc

-- `return;` where a number is wanted
no_return : (position : Position) → position.result ≡ 6 → IsStatement position (s.Return 1 None) → ⊥
no_return position int_result typed = refused (rule_of_statement (s.outs-Return _ _) typed)
  where
    refused : StatementRule position (Statement-F.Return 1 None) → ⊥
    refused (return_nothing is) = cc

-- `case 1:` twice in one switch
same_twice : (rest : List ℤ) → IsDistinct int_eq (pos 1 ∷ pos 1 ∷ rest) → ⊥
unfolding IsDistinct
same_twice rest apart = let differ : int_eq (pos 1) (pos 1) ≡ false = apart.0.0 in cc

no_equal_cases : (rest : List Statement) → AreLabels (s.Case 1 (pos 1) ∷ s.Case 2 (pos 1) ∷ rest) → ⊥
no_equal_cases rest labels = same_twice (cases_of rest) (simp s.outs-Case at labels.cases)

-- ---- initialisers of globals

-- one that calls a function
or_true : (b : Bool) → (b || true) ≡ false → ⊥
or_true true none = cc
or_true false none = cc

call_acts : (a : At) (n : ℕ) (xs : List Value) → acts_in_value (v.Call a n xs) ≡ true
call_acts a n xs = value_acts_is _ (v.outs-Call a n xs)

no_call : (q : Place) (a : At) (n : ℕ) (xs : List Value) → DoesNotAct (i.Value q (v.Call a n xs)) → ⊥
no_call q a n xs quiet = or_true (acts_in_place q) (rw call_acts at quiet)
