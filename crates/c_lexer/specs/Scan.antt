-- The lexeme at the front of a text, as a function.
use Rattle.std.specs.Prelude.{ℕ, zero, suc, ◌+◌, ◌-◌, Bool, false, not, ◌&&◌, ◌==◌, nat_lt, List, [], ◌∷◌, length, take, drop, Option, Some, None, is_some, if◌then◌else◌, codes}
use Rattle.std.specs.List.{prefix_len}
use Rattle.std.specs.Str.{bytes_eq}
use Rattle.std.specs.Option.{option_map, option_map_or}
use Rattle.c_tokens.specs.declared.kind.Keyword.{Keyword}
use Rattle.c_tokens.specs.declared.kind.Mark.{Mark}
use Rattle.c_tokens.specs.declared.kind.Kind.{Kind}
use Rattle.c_tokens.specs.declared.kind.Kind.TheVariants.{Name, Word, Char, Str, Mark as Punctuator}
use Rattle.c_tokens.specs.Words.{keywords, marks}
use Rattle.c_lexer.specs.declared.numbers.Radix.{Radix}
use Rattle.c_lexer.specs.declared.numbers.Radix.TheVariants.{Decimal, Octal, Hexadecimal}
use Rattle.c_lexer.specs.declared.numbers.Suffix.{Suffix}
use Rattle.c_lexer.specs.declared.numbers.Suffix.TheVariants.{Plain}
use Rattle.c_lexer.specs.declared.lexeme.Lexeme.{Lexeme}
use Rattle.c_lexer.specs.declared.lexeme.Lexeme.TheVariants.{Sound, Gap, Faulty}
use Rattle.c_lexer.specs.declared.lexeme.Fault.TheVariants.{OpenComment, OpenString, BadEscape}
use Rattle.c_lexer.specs.Bytes.{Text, is_letter, is_digit, is_octal, is_hexadecimal, is_word, is_quote, is_blank, is_line_end, is_x, first_passes, digits_value}
use Rattle.c_lexer.specs.Numbers.{suffixes, number_lexeme}
use Rattle.c_lexer.specs.Escapes.{escapes, escape_byte, signed_byte}
use Rattle.c_lexer.specs.Words.{no_line_end}

-- the text begins with the word
abbrev pub begins : Text → Text → Bool
begins s word = bytes_eq word (take (length word) s)

-- the first entry whose spelling begins the text, with its length
abbrev pub first_match : {K : Type 0} → List (K × Text) → Text → Option (K × ℕ)
first_match [] s = None
first_match (e ∷ table) s = if begins s e.1 then Some (e.0, length e.1) else first_match table s

-- the entry that is spelled like the word
abbrev pub entry_of : {K : Type 0} → List (K × Text) → Text → Option K
entry_of [] word = None
entry_of (e ∷ table) word = if bytes_eq word e.1 then Some e.0 else entry_of table word

-- a keyword, or a name
abbrev pub kind_of : Option Keyword → Kind
kind_of (Some keyword) = Word keyword
kind_of None = Name

-- a lexeme and its length
abbrev pub Piece : Type 0
Piece = Lexeme × ℕ

unfoldable pub word_at : Text → Piece
word_at s = (Sound (kind_of (entry_of keywords (take (prefix_len is_word s) s))), prefix_len is_word s)

-- ---- numbers

abbrev pub is_hexadecimal_prefix : Text → Bool
is_hexadecimal_prefix s = first_passes is_x s && first_passes is_hexadecimal (drop 1 s)

abbrev pub radix_at : Text → Radix
radix_at s = if first_passes (λ b. b == 48) s then (if is_hexadecimal_prefix (drop 1 s) then Hexadecimal else Octal) else Decimal

abbrev pub base_of : Radix → ℕ
base_of Decimal = 10
base_of Octal = 8
base_of Hexadecimal = 16

abbrev pub is_digit_of : Radix → ℕ → Bool
is_digit_of Decimal b = is_digit b
is_digit_of Octal b = is_octal b
is_digit_of Hexadecimal b = is_hexadecimal b

-- the bytes before the digits
abbrev pub prefix_of : Radix → ℕ
prefix_of Decimal = 0
prefix_of Octal = 0
prefix_of Hexadecimal = 2

-- how many digits stand at the front
abbrev pub digits_len : Radix → Text → ℕ
digits_len radix s = prefix_len (λ b. is_digit_of radix b) s

-- what stands at the front of the rest, if nothing else does
abbrev pub suffix_at : Text → Suffix × ℕ
suffix_at s = option_map_or (λ (found : Suffix × ℕ). found) (first_match suffixes s) (Plain, 0)

-- a constant of this radix, whose digits begin the text
unfoldable pub number_of : Radix → Text → Piece
number_of radix s =
    let digits = digits_len radix s in
    let ending = suffix_at (drop digits s) in
    (number_lexeme radix ending.0 (digits_value (base_of radix) 0 (take digits s)), prefix_of radix + digits + ending.1)

unfoldable pub number_at : Text → Piece
number_at s = number_of (radix_at s) (drop (prefix_of (radix_at s)) s)

-- ---- strings and character constants

-- a byte and the length of its spelling
abbrev pub Unit : Type 0
Unit = ℕ × ℕ

abbrev pub small_unit : ℕ → ℕ → Option Unit
small_unit value len = if nat_lt value 256 then Some (value, len) else None

-- digits after `before` bytes
abbrev pub digits_unit : ℕ → ℕ → Text → Option Unit
digits_unit base before [] = None
digits_unit base before (b ∷ digits) = small_unit (digits_value base 0 (b ∷ digits)) (before + length (b ∷ digits))

unfoldable pub octal_at : Text → Option Unit
octal_at s = digits_unit 8 1 (take (prefix_len is_octal (take 3 s)) s)

unfoldable pub hexadecimal_at : Text → Option Unit
hexadecimal_at s = digits_unit 16 2 (take (prefix_len is_hexadecimal s) s)

abbrev pub letter_or : Option ℕ → Option Unit → Option Unit
letter_or (Some value) otherwise = Some (value, 2)
letter_or None otherwise = otherwise

-- what comes after a backslash
unfoldable pub escape_at : Text → Option Unit
escape_at [] = None
escape_at (b ∷ s) = letter_or (escape_byte escapes b) (if b == 120 then hexadecimal_at s else octal_at (b ∷ s))

unfoldable pub unit_at : Text → Option Unit
unit_at [] = None
unit_at (b ∷ s) = if b == 92 then escape_at s else Some (b, 1)

abbrev pub after_unit : Option Unit → (ℕ → Option (List ℕ)) → Option (List ℕ)
after_unit None later = None
after_unit (Some found) later = option_map (λ (bytes : List ℕ). found.0 ∷ bytes) (later (found.1 - 1))

-- the bytes that the text means from so many bytes on
unfoldable pub meant_bytes : ℕ → Text → Option (List ℕ)
meant_bytes skip [] = Some []
meant_bytes zero (b ∷ s) = after_unit (unit_at (b ∷ s)) (λ skip. meant_bytes skip s)
meant_bytes (suc skip) (b ∷ s) = meant_bytes skip s

-- one byte, if its spelling is all
abbrev pub whole_unit : ℕ → Option Unit → Lexeme
whole_unit len (Some found) = if found.1 == len then Sound (Char (signed_byte found.0)) else Faulty BadEscape
whole_unit len None = Faulty BadEscape

unfoldable pub meaning : ℕ → Text → Lexeme
meaning quote body =
    if quote == 34 then (if is_some (meant_bytes 0 body) then Sound Str else Faulty BadEscape) else whole_unit (length body) (unit_at body)

-- where the closing quote stands; `escaped` says that a backslash stands before
unfoldable pub closing_quote : ℕ → Bool → Text → Option ℕ
closing_quote quote escaped [] = None
closing_quote quote escaped (b ∷ s) =
    if is_line_end b then None
    else (if not escaped && b == quote then Some 0 else option_map suc (closing_quote quote (not escaped && b == 92) s))

abbrev pub quotation_to : ℕ → Text → Option ℕ → Piece
quotation_to quote s (Some len) = (meaning quote (take len s), len + 2)
quotation_to quote s None = (Faulty OpenString, 1)

-- what a quote before this text begins
unfoldable pub quotation_at : ℕ → Text → Piece
quotation_at quote s = quotation_to quote s (closing_quote quote false s)

-- ---- comments

-- the length up to the end of a comment; `star` says that a star stands before
unfoldable pub comment_len : Bool → Text → Option ℕ
comment_len star [] = None
comment_len star (b ∷ s) = if star && b == 47 then Some 1 else option_map suc (comment_len (b == 42) s)

abbrev pub comment_to : Option ℕ → Piece
comment_to (Some len) = (Gap, len + 2)
comment_to None = (Faulty OpenComment, 2)

-- ---- all together

abbrev pub punctuator : Mark × ℕ → Piece
punctuator found = (Sound (Punctuator found.0), found.1)

unfoldable pub sign_at : Text → Option Piece
sign_at s =
    if begins s (codes "/*") then Some (comment_to (comment_len false (drop 2 s)))
    else (if begins s (codes "//") then Some (Gap, prefix_len no_line_end (drop 2 s) + 2) else option_map punctuator (first_match marks s))

-- the longest lexeme at the front of the text
unfoldable pub front_at : Text → Option Piece
front_at [] = None
front_at (b ∷ s) =
    if is_letter b then Some (word_at (b ∷ s))
    else (if is_digit b then Some (number_at (b ∷ s))
    else (if is_quote b then Some (quotation_at b s)
    else (if is_blank b then Some (Gap, 1) else sign_at (b ∷ s))))
