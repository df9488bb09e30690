-- Numbers of the command line.
use Rattle.std.specs.Prelude.{ℕ, ◌+◌, ◌-◌, ◌*◌, ◌&&◌, Bool, nat_le, List, [], ◌∷◌, length, Option, Some, None, if◌then◌else◌}
use Rattle.std.specs.Char.{is_ascii_digit}
use Rattle.std.specs.List.{list_all}

-- a word as its bytes
abbrev pub Word : Type 0
Word = List ℕ

-- decimal digits after a number
abbrev pub value_from : ℕ → Word → ℕ
value_from n [] = n
value_from n (digit ∷ digits) = value_from (n * 10 + (digit - 48)) digits

-- A number is 1 to 10 decimal digits.
abbrev pub is_number : Word → Bool
is_number word = nat_le 1 (length word) && (nat_le (length word) 10 && list_all is_ascii_digit word)

abbrev pub is_within : ℕ → ℕ → ℕ → Bool
is_within low high n = nat_le low n && nat_le n high

-- the number that a word is, where it is one from `low` to `high`
unfoldable pub number_in : ℕ → ℕ → Word → Option ℕ
number_in low high word =
    if is_number word && is_within low high (value_from 0 word) then Some (value_from 0 word) else None
