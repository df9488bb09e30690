-- What stands between quotes, and the bytes that it means (C11 6.4.4.4 and 6.4.5).
use Rattle.std.specs.Prelude.{◌≡◌, ℕ, ◌-◌, ◌<◌, ◌≤◌, true, false, ◌==◌, nat_lt, List, [], ◌∷◌, ◌++◌, length, take, drop, Option, Some, None, ℤ, pos, ◌-ℤ◌, if◌then◌else◌}
use Rattle.c_tokens.specs.declared.kind.Kind.TheVariants.{Char, Str}
use Rattle.c_lexer.specs.declared.lexeme.Lexeme.{Lexeme}
use Rattle.c_lexer.specs.declared.lexeme.Lexeme.TheVariants.{Sound, Faulty}
use Rattle.c_lexer.specs.declared.lexeme.Fault.TheVariants.{BadEscape}
use Rattle.c_lexer.specs.Bytes.{Text, Each, is_octal, is_hexadecimal, is_line_end, first_passes, digits_value}
use Rattle.c_lexer.specs.Joined.{joined_bytes}

-- `Inside quote body`: the body has no line end, and no such quote but after a backslash
pub data Inside : ℕ → Text → Type 0 where
  empty : {quote : ℕ} → Inside quote []
  plain : {quote b : ℕ} {s : Text} → (b == quote) ≡ false → (b == 92) ≡ false → is_line_end b ≡ false → Inside quote s → Inside quote (b ∷ s)
  escaped : {quote b : ℕ} {s : Text} → is_line_end b ≡ false → Inside quote s → Inside quote (92 ∷ b ∷ s)

-- the letters after a backslash, each with the byte that it means
abbrev pub escapes : List (ℕ × ℕ)
escapes =
    (39, 39) ∷ (34, 34) ∷ (63, 63) ∷ (92, 92) ∷ (97, 7) ∷ (98, 8) ∷ (102, 12) ∷ (110, 10) ∷ (114, 13) ∷ (116, 9) ∷ (118, 11) ∷ []

-- the byte that the letter means
abbrev pub escape_byte : List (ℕ × ℕ) → ℕ → Option ℕ
escape_byte [] letter = None
escape_byte (e ∷ table) letter = if letter == e.0 then Some e.1 else escape_byte table letter

-- `IsUnit word value after`: the word means this one byte where `after` follows; the digits of an escape are as many as there are
pub data IsUnit : Text → ℕ → Text → Type 0 where
  itself : {b : ℕ} {after : Text} → (b == 92) ≡ false → IsUnit (b ∷ []) b after
  letter : {b value : ℕ} {after : Text} → escape_byte escapes b ≡ Some value → IsUnit (92 ∷ b ∷ []) value after
  octal : {b : ℕ} {s after : Text} → is_octal b ≡ true → Each is_octal s → length s ≤ 2 → (length s < 2 → first_passes is_octal after ≡ false) →
      digits_value 8 0 (b ∷ s) < 256 → IsUnit (92 ∷ b ∷ s) (digits_value 8 0 (b ∷ s)) after
  hexadecimal : {b : ℕ} {s after : Text} → is_hexadecimal b ≡ true → Each is_hexadecimal s → first_passes is_hexadecimal after ≡ false →
      digits_value 16 0 (b ∷ s) < 256 → IsUnit (92 ∷ 120 ∷ b ∷ s) (digits_value 16 0 (b ∷ s)) after

-- `Decodes body bytes`: what stands between the quotes means these bytes
pub data Decodes : Text → List ℕ → Type 0 where
  nothing : Decodes [] []
  unit : {word after : Text} {value : ℕ} {bytes : List ℕ} → IsUnit word value after → Decodes after bytes → Decodes (word ++ after) (value ∷ bytes)

-- a byte read as a `signed char`
abbrev pub signed_byte : ℕ → ℤ
signed_byte b = if nat_lt b 128 then pos b else (pos b -ℤ pos 256)

-- `Means quote body lexeme`: what the body between two such quotes is. A character constant is one byte.
pub data Means : ℕ → Text → Lexeme → Type 0 where
  string : {body : Text} {bytes : List ℕ} → Decodes body bytes → Means 34 body (Sound Str)
  bad_string : {body : Text} → ((bytes : List ℕ) → Decodes body bytes → ⊥) → Means 34 body (Faulty BadEscape)
  character : {body : Text} {value : ℕ} → Decodes body (value ∷ []) → Means 39 body (Sound (Char (signed_byte value)))
  bad_character : {body : Text} → ((value : ℕ) → Decodes body (value ∷ []) → ⊥) → Means 39 body (Faulty BadEscape)

-- the text from `start` up to `end` is a string that means these bytes
pub record IsStringOf (text : Text) (start end : ℕ) (bytes : List ℕ) : Type 0 where
  pub body : Text
  pub within : (start ≤ end) × (end ≤ length text)
  pub quoted : joined_bytes (take (end - start) (drop start text)) ≡ 34 ∷ body ++ 34 ∷ []
  pub decodes : Decodes body bytes
