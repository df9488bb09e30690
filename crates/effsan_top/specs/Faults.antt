-- Why a text has no program, and on which line.
use Rattle.std.specs.Prelude.{◌≡◌, ℕ, ◌+◌, ◌==◌, Bool, List, length, filter, take, codes, Contains, Option, Some, None}
use Rattle.c_tokens.specs.declared.token.Token.{Token}
use Rattle.c_lexer.specs.declared.error.LexError.{LexError}
use Rattle.c_lexer.specs.declared.error.LexError.TheVariants as lex
use Rattle.c_lexer.specs.Lexes.{Tokens, IsLexFault}
use Rattle.c_pp.specs.declared.error.PpError.{PpError}
use Rattle.c_pp.specs.declared.error.PpError.TheVariants as pp
use Rattle.c_pp.specs.Expands.{Expands, IsPpFault}
use Rattle.c_grammar.specs.declared.units.Unit.{Unit as Tree}
use Rattle.c_grammar.specs.Units.{Derives}
use Rattle.program_form.specs.Programs.{IsOutside}
use Rattle.effsan_top.specs.declared.faults.Fault.{Fault}
use Rattle.effsan_top.specs.declared.faults.FaultKind.{FaultKind}
use Rattle.effsan_top.specs.declared.faults.FaultKind.TheVariants as kind

abbrev pub fault_name : FaultKind → List ℕ
fault_name kind.BadByte = codes "BadByte"
fault_name kind.OpenComment = codes "OpenComment"
fault_name kind.OpenString = codes "OpenString"
fault_name kind.NumberTooLarge = codes "NumberTooLarge"
fault_name kind.BadEscape = codes "BadEscape"
fault_name kind.TooManyTokens = codes "TooManyTokens"
fault_name kind.UnknownHeader = codes "UnknownHeader"
fault_name kind.BadDirective = codes "BadDirective"
fault_name kind.MacroLoop = codes "MacroLoop"
fault_name kind.Syntax = codes "Syntax"
fault_name kind.NotYet = codes "NotYet"

abbrev pub is_line_end : ℕ → Bool
is_line_end b = b == 10

-- the line of an offset: the first, and one more for each line end before it
abbrev pub line_at : List ℕ → ℕ → ℕ
line_at text offset = 1 + length (filter is_line_end (take offset text))

abbrev pub on : FaultKind → ℕ → Fault
on kind line = record { kind = kind; line = line }

-- ---- what each stage refuses, as a fault of the text

-- A lexical fault is on the line of its first byte.
abbrev pub of_lexer : List ℕ → LexError → Option Fault
of_lexer text (lex.Memory e) = None
of_lexer text (lex.BadByte at) = Some (on kind.BadByte (line_at text at))
of_lexer text (lex.OpenComment at) = Some (on kind.OpenComment (line_at text at))
of_lexer text (lex.OpenString at) = Some (on kind.OpenString (line_at text at))
of_lexer text (lex.NumberTooLarge at) = Some (on kind.NumberTooLarge (line_at text at))
of_lexer text (lex.BadEscape at) = Some (on kind.BadEscape (line_at text at))
of_lexer text (lex.TooManyTokens at) = Some (on kind.TooManyTokens (line_at text at))

abbrev pub of_expander : PpError → Option Fault
of_expander (pp.Memory e) = None
of_expander (pp.UnknownHeader line) = Some (on kind.UnknownHeader line)
of_expander (pp.BadDirective line) = Some (on kind.BadDirective line)
of_expander (pp.MacroLoop line) = Some (on kind.MacroLoop line)
of_expander (pp.TooManyTokens line) = Some (on kind.TooManyTokens line)

-- ---- what a text becomes

-- The text is cut into tokens, and these stand in place of them when its directives are obeyed and its macros replaced.
pub record BecomesTokens (text : List ℕ) (expanded : List Token) : Type 0 where
  pub tokens : List Token
  pub lexed : Tokens text tokens
  pub is : Expands text tokens expanded

-- The text has no program, and this is the first fault in it. A text without tokens comes before one whose directives or macros
-- are at fault, that before one of no syntax, and that before what is not built yet.
pub data IsAtFault (text : List ℕ) : Fault → Type 0 where
  lexical : {e : LexError} {fault : Fault} → IsLexFault text e → of_lexer text e ≡ Some fault → IsAtFault text fault
  directive : {tokens : List Token} {e : PpError} {fault : Fault} → Tokens text tokens → IsPpFault text tokens e →
      of_expander e ≡ Some fault → IsAtFault text fault
  -- its tokens derive no unit; the line is that of one of them
  syntax : {tokens : List Token} {token : Token} → BecomesTokens text tokens → Contains tokens token →
      ((unit : Tree) → Derives text tokens unit → ⊥) → IsAtFault text (on kind.Syntax token.line)
  -- its unit is outside the form that runs; on the line begins the first declaration or function that is
  not_yet : {tokens : List Token} {unit : Tree} {line : ℕ} → BecomesTokens text tokens → Derives text tokens unit →
      IsOutside unit line → IsAtFault text (on kind.NotYet line)
