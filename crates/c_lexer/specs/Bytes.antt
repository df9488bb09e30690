-- Classes of bytes, and the numbers that digits write.
use Rattle.std.specs.Prelude.{◌≡◌, ℕ, ◌+◌, ◌-◌, ◌*◌, Bool, true, false, ◌||◌, ◌&&◌, ◌==◌, nat_le, List, [], ◌∷◌, if◌then◌else◌}

abbrev pub Text : Type 0
Text = List ℕ

-- white space but for a line's end: space, tab, vertical tab, form feed (C11 6.4p3)
abbrev pub is_blank : ℕ → Bool
is_blank b = b == 32 || b == 9 || b == 11 || b == 12

abbrev pub is_line_end : ℕ → Bool
is_line_end b = b == 10

abbrev pub is_digit : ℕ → Bool
is_digit b = nat_le 48 b && nat_le b 57

abbrev pub is_octal : ℕ → Bool
is_octal b = nat_le 48 b && nat_le b 55

abbrev pub is_hexadecimal : ℕ → Bool
is_hexadecimal b = is_digit b || (nat_le 97 b && nat_le b 102) || (nat_le 65 b && nat_le b 70)

-- a letter or an underscore (C11 6.4.2.1)
abbrev pub is_letter : ℕ → Bool
is_letter b = (nat_le 97 b && nat_le b 122) || (nat_le 65 b && nat_le b 90) || b == 95

abbrev pub is_word : ℕ → Bool
is_word b = is_letter b || is_digit b

-- of a string or a character constant
abbrev pub is_quote : ℕ → Bool
is_quote b = b == 34 || b == 39

-- `x` or `X`
abbrev pub is_x : ℕ → Bool
is_x b = b == 120 || b == 88

-- each byte passes
abbrev pub Each : (ℕ → Bool) → Text → Type 0
Each p [] = Unit {0}
Each p (b ∷ s) = (p b ≡ true) × Each p s

-- there is a first byte, and it passes
abbrev pub first_passes : (ℕ → Bool) → Text → Bool
first_passes p [] = false
first_passes p (b ∷ s) = p b

-- the value of a digit, in hexadecimal too
abbrev pub digit_value : ℕ → ℕ
digit_value b = if nat_le b 57 then b - 48 else (if nat_le 97 b then b - 87 else b - 55)

-- the number that the digits write in this base, with n before them
abbrev pub digits_value : ℕ → ℕ → Text → ℕ
digits_value base n [] = n
digits_value base n (b ∷ s) = digits_value base (n * base + digit_value b) s
