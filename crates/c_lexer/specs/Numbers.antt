-- Constants of whole numbers (C11 6.4.4.1), over an `int` of 32 bits and a `long` and `long long` of 64.
use Rattle.std.specs.Prelude.{◌≡◌, ℕ, ◌^◌, Bool, true, nat_lt, List, [], ◌∷◌, map, Option, Some, None, if◌then◌else◌}
use Rattle.c_tokens.specs.declared.kind.Kind.TheVariants.{Number}
use Rattle.c_tokens.specs.declared.kind.NumType.{NumType}
use Rattle.c_tokens.specs.declared.kind.NumType.TheVariants.{Int, UInt, Long, ULong}
use Rattle.c_lexer.specs.declared.numbers.Radix.{Radix}
use Rattle.c_lexer.specs.declared.numbers.Radix.TheVariants as radix
use Rattle.c_lexer.specs.declared.numbers.Suffix.{Suffix}
use Rattle.c_lexer.specs.declared.numbers.Suffix.TheVariants as suffix
use Rattle.c_lexer.specs.declared.numbers.TheConstants.{SUFFIXES}
use Rattle.c_lexer.specs.declared.lexeme.Lexeme.{Lexeme}
use Rattle.c_lexer.specs.declared.lexeme.Lexeme.TheVariants.{Sound, Faulty}
use Rattle.c_lexer.specs.declared.lexeme.Fault.TheVariants.{NumberTooLarge}
use Rattle.c_lexer.specs.Bytes.{Text, Each, is_digit, is_octal, is_hexadecimal, is_x, digits_value}

-- `Numeral word radix value`: the word is a constant without a suffix. A leading zero makes it an octal one.
pub data Numeral : Text → Radix → ℕ → Type 0 where
  decimal : {b : ℕ} {s : Text} → is_digit b ≡ true → (b ≡ 48 → ⊥) → Each is_digit s → Numeral (b ∷ s) radix.Decimal (digits_value 10 0 (b ∷ s))
  octal : {s : Text} → Each is_octal s → Numeral (48 ∷ s) radix.Octal (digits_value 8 0 (48 ∷ s))
  hexadecimal : {x b : ℕ} {s : Text} → is_x x ≡ true → is_hexadecimal b ≡ true → Each is_hexadecimal s →
      Numeral (48 ∷ x ∷ b ∷ s) radix.Hexadecimal (digits_value 16 0 (b ∷ s))

-- a longer one before those that it begins with
abbrev pub suffixes : List (Suffix × Text)
suffixes = map (λ e. (e.0, e.1.now)) SUFFIXES

-- the types that a constant may have, in the order in which they are tried
abbrev pub types_for : Radix → Suffix → List NumType
types_for radix.Decimal suffix.Plain = Int ∷ Long ∷ []
types_for radix.Octal suffix.Plain = Int ∷ UInt ∷ Long ∷ ULong ∷ []
types_for radix.Hexadecimal suffix.Plain = Int ∷ UInt ∷ Long ∷ ULong ∷ []
types_for radix.Decimal suffix.Long = Long ∷ []
types_for radix.Octal suffix.Long = Long ∷ ULong ∷ []
types_for radix.Hexadecimal suffix.Long = Long ∷ ULong ∷ []
types_for base suffix.Unsigned = UInt ∷ ULong ∷ []
types_for base suffix.UnsignedLong = ULong ∷ []

-- the type can represent the value
abbrev pub can_hold : NumType → ℕ → Bool
can_hold Int value = nat_lt value (2 ^ 31)
can_hold UInt value = nat_lt value (2 ^ 32)
can_hold Long value = nat_lt value (2 ^ 63)
can_hold ULong value = nat_lt value (2 ^ 64)

-- the first of the types that can represent the value
abbrev pub first_type : ℕ → List NumType → Option NumType
first_type value [] = None
first_type value (t ∷ types) = if can_hold t value then Some t else first_type value types

-- a constant of that type, or one too large for each type that it may have
abbrev pub typed_number : ℕ → Option NumType → Lexeme
typed_number value (Some type) = Sound (Number value type)
typed_number value None = Faulty NumberTooLarge

abbrev pub number_lexeme : Radix → Suffix → ℕ → Lexeme
number_lexeme base ending value = typed_number value (first_type value (types_for base ending))
