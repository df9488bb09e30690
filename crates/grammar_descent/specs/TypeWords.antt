-- Which type the words of specifiers spell, and whether specifiers hold a type, as tests (C11 6.7.2p2).
use Rattle.std.specs.Prelude.{ℕ, suc, Bool, true, false, ◌&&◌, ◌||◌, ◌==◌, nat_le, List, [], ◌∷◌, Option, Some, None, is_some, if◌then◌else◌}
use Rattle.c_grammar.specs.declared.words.BasicWord.{BasicWord}
use Rattle.c_grammar.specs.declared.words.BasicWord.TheVariants as b
use Rattle.c_grammar.specs.declared.words.BasicType.{BasicType}
use Rattle.c_grammar.specs.declared.words.BasicType.TheVariants as t
use Rattle.c_grammar.specs.contracts.words.BasicWord.{the_type}
use Rattle.c_grammar.specs.Words.{Role, basic_words, whole_types}
use Rattle.grammar_descent.specs.Reading.{◌>>=◌}
use denote.Enum.Bare.{sameb}

-- how often the word stands among them
unfoldable pub times : BasicWord → List BasicWord → ℕ
times w [] = 0
times w (other ∷ words) = if sameb the_type w other then suc (times w words) else times w words

pub data Sign : Type 0 where
  plain : Sign
  signed : Sign
  unsigned : Sign

-- where `signed` and `unsigned` stand so often
abbrev pub sign_of : ℕ → ℕ → Option Sign
sign_of m n =
    if n == 0 then (if m == 0 then Some plain else if m == 1 then Some signed else None)
    else if n == 1 && m == 0 then Some unsigned else None

abbrev pub signed_or : Sign → BasicType → BasicType → BasicType
signed_or plain one other = one
signed_or signed one other = one
signed_or unsigned one other = other

-- `void` has no sign
abbrev pub void_type : Sign → Option BasicType
void_type plain = Some t.Void
void_type signed = None
void_type unsigned = None

-- `int`, or a sign alone
abbrev pub int_type : ℕ → Sign → Option BasicType
int_type n plain = if n == 1 then Some t.Int else None
int_type n signed = if nat_le n 1 then Some t.Int else None
int_type n unsigned = if nat_le n 1 then Some t.UnsignedInt else None

-- where `void`, `char`, `short`, `int` and `long` stand so often
abbrev pub type_of : ℕ → ℕ → ℕ → ℕ → ℕ → Sign → Option BasicType
type_of void char short int long sign =
    if long == 0
    then if short == 0
    then if char == 0
    then if void == 0 then int_type int sign else if void == 1 && int == 0 then void_type sign else None
    else if char == 1 && (void == 0 && int == 0) then Some (signed_or sign t.Char t.UnsignedChar) else None
    else if short == 1 && (char == 0 && (void == 0 && nat_le int 1)) then Some (signed_or sign t.Short t.UnsignedShort) else None
    else if nat_le long 2 && (short == 0 && (char == 0 && (void == 0 && nat_le int 1))) then Some (signed_or sign t.Long t.UnsignedLong) else None

-- the type that the words spell in some order
unfoldable pub spelled_type : List BasicWord → Option BasicType
spelled_type words =
    sign_of (times b.Signed words) (times b.Unsigned words)
    >>= type_of (times b.Void words) (times b.Char words) (times b.Short words) (times b.Int words) (times b.Long words)

abbrev pub are_none : List BasicWord → Bool
are_none [] = true
are_none (w ∷ words) = false

unfoldable pub holds_no_type : List Role → Bool
holds_no_type roles = are_none (basic_words roles) && whole_types roles == 0

unfoldable pub holds_one_type : List Role → Bool
holds_one_type roles =
    (is_some (spelled_type (basic_words roles)) && whole_types roles == 0) || (are_none (basic_words roles) && whole_types roles == 1)
