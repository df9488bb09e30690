-- Which words are lexemes: tokens, what separates tokens, and what is refused (C11 6.4).
use Rattle.std.specs.Prelude.{◌≡◌, ℕ, Bool, true, false, not, ◌||◌, ◌&&◌, ◌==◌, [], ◌∷◌, ◌++◌}
use Rattle.c_tokens.specs.declared.kind.Keyword.{Keyword}
use Rattle.c_tokens.specs.declared.kind.Mark.{Mark}
use Rattle.c_tokens.specs.declared.kind.Kind.TheVariants.{Name, Word, Mark as Punctuator}
use Rattle.c_tokens.specs.Words.{keywords, marks, Among}
use Rattle.c_lexer.specs.declared.numbers.Radix.{Radix}
use Rattle.c_lexer.specs.declared.numbers.Suffix.{Suffix}
use Rattle.c_lexer.specs.declared.lexeme.Lexeme.{Lexeme}
use Rattle.c_lexer.specs.declared.lexeme.Lexeme.TheVariants.{Sound, Gap, Faulty}
use Rattle.c_lexer.specs.declared.lexeme.Fault.TheVariants.{OpenComment, OpenString}
use Rattle.c_lexer.specs.Bytes.{Text, Each, is_blank, is_line_end, is_letter, is_word, is_quote, first_passes}
use Rattle.c_lexer.specs.Numbers.{Numeral, suffixes, number_lexeme}
use Rattle.c_lexer.specs.Escapes.{Inside, Means}

-- a star and a slash stand somewhere in it
abbrev pub has_end : Text → Bool
has_end [] = false
has_end (b ∷ s) = (b == 42 && first_passes (λ c. c == 47) s) || has_end s

abbrev pub no_line_end : ℕ → Bool
no_line_end b = not (is_line_end b)

-- `Spells word lexeme`: the word is this lexeme. What begins a comment, a string or a character constant is the fault of one
-- without its end: where there is an end, the whole is the longer word.
pub data Spells : Text → Lexeme → Type 0 where
  keyword : {word : Text} {kind : Keyword} → Among keywords kind word → Spells word (Sound (Word kind))
  mark : {word : Text} {kind : Mark} → Among marks kind word → Spells word (Sound (Punctuator kind))
  name : {b : ℕ} {s : Text} → is_letter b ≡ true → Each is_word s → ((kind : Keyword) → Among keywords kind (b ∷ s) → ⊥) → Spells (b ∷ s) (Sound Name)
  number : {digits : Text} {radix : Radix} {value : ℕ} (suffix : Suffix) (ending : Text) →
      Numeral digits radix value → Among suffixes suffix ending → Spells (digits ++ ending) (number_lexeme radix suffix value)
  quoted : {quote : ℕ} {body : Text} {lexeme : Lexeme} → Inside quote body → Means quote body lexeme → Spells (quote ∷ body ++ quote ∷ []) lexeme
  open_quote : {quote : ℕ} → is_quote quote ≡ true → Spells (quote ∷ []) (Faulty OpenString)
  blank : {b : ℕ} → is_blank b ≡ true → Spells (b ∷ []) Gap
  -- its first end is its last two bytes
  comment : (body : Text) → has_end (body ++ 42 ∷ []) ≡ false → Spells (47 ∷ 42 ∷ body ++ 42 ∷ 47 ∷ []) Gap
  open_comment : Spells (47 ∷ 42 ∷ []) (Faulty OpenComment)
  line_comment : {body : Text} → Each no_line_end body → Spells (47 ∷ 47 ∷ body) Gap
