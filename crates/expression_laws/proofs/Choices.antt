-- What an answer of a rule says of the tests that led to it.
use Rattle.std.proofs.Common.{◌≡◌, Bool, true, false, Option, Some, None, refl, subst}
use Rattle.std.specs.Prelude.{if◌then◌else◌, Result, Ok, Err, is_some}
use Rattle.static_rules.specs.Answers.{Answer, ◌>>=◌}
use Rattle.static_rules.specs.Operands.{some_if}

module _ {A : Type 0} where
  pub some_same : {x y : A} → Some x ≡ Some y → x ≡ y
  some_same is = cc

  pub ok_same : (E : Type 0) {x y : A} → Path (Result A E) (Ok x) (Ok y) → x ≡ y
  ok_same E is = cc

  -- `if test then Some x else other`
  pub if_some : (P : A → Type 0) (test : Bool) {x : A} {other : Option A} → (test ≡ true → P x) →
      (test ≡ false → (y : A) → other ≡ Some y → P y) → (y : A) → (if test then Some x else other) ≡ Some y → P y
  if_some P true here there y is = subst P (some_same is) (here refl)
  if_some P false here there y is = there refl y is

  pub if_allowed : (P : A → Type 0) (test : Bool) {x : A} → (test ≡ true → P x) → (y : A) → some_if test x ≡ Some y →
      P y
  if_allowed P true here y is = subst P (some_same is) (here refl)
  if_allowed P false here y is = cc

  pub if_either : (P : A → Type 0) (test : Bool) {found other : Option A} → (test ≡ true → (y : A) → found ≡ Some y →
      P y) →
      (test ≡ false → (y : A) → other ≡ Some y → P y) → (y : A) → (if test then found else other) ≡ Some y → P y
  if_either P true here there y is = here refl y is
  if_either P false here there y is = there refl y is

  -- what an answer is made of
  pub first_answer : {B : Type 0} (m : Answer A) (f : A → Answer B) (y : B) → m >>= f ≡ Ok y →
      (x : A) × (m ≡ Ok x) × (f x ≡ Ok y)
  first_answer (Ok x) f y is = (x, refl, is)
  first_answer (Err e) f y is = cc

  pub is_some_of : (found : Option A) → is_some found ≡ true → (x : A) × (found ≡ Some x)
  is_some_of (Some x) is = (x, refl)
  is_some_of None is = cc
