-- What holds of types, values, conversions and quotients.
use Rattle.std.specs.Prelude.{◌≡◌, ◌≢◌, ℕ, ◌*◌, ◌^◌, ◌<◌, ℤ, pos, ◌+ℤ◌, ◌*ℤ◌, int_div, int_rem, Result, Ok, Err}
use Rattle.whole_numbers.specs.Types.{IsNumberOf, modulus, word_of, number, wrapped, promoted, common}
use Rattle.whole_numbers.specs.Operators.{outcome}
use Rattle.whole_numbers.specs.declared.types.WholeType.{WholeType}
use Rattle.whole_numbers.specs.declared.trap.Trap.{Trap}
use Rattle.whole_numbers.specs.declared.trap.Trap.TheVariants.{ZeroDivide, Overflow}
use Rattle.whole_numbers.specs.declared.operators.BinaryOperator.TheVariants.{Divide, Remainder}

-- y and z differ by a multiple of m
abbrev pub DifferByMultiple : ℕ → ℤ → ℤ → Type 0
DifferByMultiple m y z = (j : ℕ) × (k : ℕ) × (y +ℤ pos (j * m) ≡ z +ℤ pos (k * m))

-- 6.3.1.3: conversion keeps a number that the type has, and else gives the only one that differs by a multiple of how
-- many numbers the type has.
pub record Converts (kind : WholeType) (z : ℤ) : Type 0 where
  pub within : IsNumberOf kind (wrapped kind z)
  pub same : IsNumberOf kind z → wrapped kind z ≡ z
  pub multiple : DifferByMultiple (modulus kind) z (wrapped kind z)
  pub only : (y : ℤ) → IsNumberOf kind y → DifferByMultiple (modulus kind) z y → wrapped kind z ≡ y

abbrev pub ConversionLaw : Type 0
ConversionLaw = (kind : WholeType) (z : ℤ) → Converts kind z

-- Numbers of a type and their bits stand for each other.
pub record StandsFor (kind : WholeType) : Type 0 where
  pub number_is : (z : ℤ) → IsNumberOf kind z → number kind (word_of z) ≡ z
  pub word_is : (word : ℕ) → word < 2 ^ 64 → word_of (number kind word) ≡ word

abbrev pub ValuesLaw : Type 0
ValuesLaw = (kind : WholeType) → StandsFor kind

-- Promotion keeps each number, and a promoted type; the common type is that of the operands turned round.
pub record TypesAgree (left right : WholeType) : Type 0 where
  pub numbers : (z : ℤ) → IsNumberOf left z → IsNumberOf (promoted left) z
  pub again : promoted (promoted left) ≡ promoted left
  pub symmetric : common left right ≡ common right left

abbrev pub TypesLaw : Type 0
TypesLaw = (left right : WholeType) → TypesAgree left right

abbrev pub BothAnswer : WholeType → ℤ → ℤ → Result ℤ Trap → Result ℤ Trap → Type 0
BothAnswer kind a b quotient rest = (outcome Divide kind a b ≡ quotient) × (outcome Remainder kind a b ≡ rest)

-- 6.5.5p5 and p6: where the type has a / b, it is the quotient, and a % b what is left; where it lacks a / b, neither
-- has a value.
pub record Divides (kind : WholeType) (a b : ℤ) : Type 0 where
  pub zero : b ≡ pos 0 → BothAnswer kind a b (Err ZeroDivide) (Err ZeroDivide)
  pub lacking : b ≢ pos 0 → (IsNumberOf kind (int_div a b) → ⊥) → BothAnswer kind a b (Err Overflow) (Err Overflow)
  pub had : b ≢ pos 0 → IsNumberOf kind (int_div a b) → BothAnswer kind a b (Ok (int_div a b)) (Ok (int_rem a b))
  pub whole : int_div a b *ℤ b +ℤ int_rem a b ≡ a

abbrev pub DivisionLaw : Type 0
DivisionLaw = (kind : WholeType) (a b : ℤ) → IsNumberOf kind a → IsNumberOf kind b → Divides kind a b
