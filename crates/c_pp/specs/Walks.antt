-- What the code keeps while macros are replaced.
use Rattle.std.specs.Prelude.{◌≡◌, ℕ, ◌+◌, ◌<◌, ◌≤◌, ◌⊎◌, Bool, true, false, List, [], ◌∷◌, ◌++◌, length, Option, Some, None, slice_get, slice_range, MatchBool}
use Rattle.std.specs.Option.{option_map}
use Rattle.c_tokens.specs.declared.token.Token.{Token}
use Rattle.c_pp.specs.declared.marks.Mark.{Mark}
use Rattle.c_pp.specs.declared.marks.Mark.TheVariants as mark
use Rattle.c_pp.specs.declared.numbers.Numbered.{Numbered}
use Rattle.c_pp.specs.declared.output.Output.{Output}
use Rattle.c_pp.specs.declared.replacement.Macro.{Macro}
use Rattle.c_pp.specs.declared.replacement.Open.{Open}
use Rattle.c_pp.specs.declared.replacement.Stop.{Stop}
use Rattle.c_pp.specs.declared.replacement.Stop.TheVariants.{End, Enter, Loop}
use Rattle.c_pp.specs.declared.span.Span.{Span}
use Rattle.c_tokens.specs.Names.{Text, Name, spelling, is_name}
use Rattle.c_pp.specs.Macros.{Macros, body_of, IsMacro, IsPlain, on_line}
use Rattle.c_tokens.specs.Limits.{max_tokens}
use Rattle.c_pp.specs.Marked.{held, mark_at, is_met}

-- ---- names by number

-- the tokens that are names have numbers, equal names the same; `name` gives the name of a number
pub record IsNumbered (text : Text) (tokens : List Token) (numbers : List (Option ℕ)) (count : ℕ) (name : ℕ → Name) : Type 0 where
  pub named : (at : ℕ) (token : Token) (number : ℕ) → slice_get tokens at ≡ Some token → held (slice_get numbers at) ≡ Some number →
      (is_name token.kind ≡ true) × (spelling text token ≡ name number) × (number < count)
  pub others : (at : ℕ) (token : Token) → slice_get tokens at ≡ Some token → held (slice_get numbers at) ≡ None → is_name token.kind ≡ false
  pub apart : (k l : ℕ) → k < count → l < count → name k ≡ name l → k ≡ l

pub record Numbers (text : Text) (tokens : List Token) (found : Numbered) : Type 0 where
  pub name : ℕ → Name
  pub numbered : IsNumbered text tokens found.numbers.items found.count name

-- ---- macros by number

abbrev pub part : List Token → Span → List Token
part tokens span = slice_range tokens span.start span.end

abbrev pub macro_of : List (Option Span) → Option ℕ → Option Macro
macro_of bodies (Some number) = option_map (λ (body : Span). record { number = number; body = body }) (held (slice_get bodies number))
macro_of bodies None = None

-- the macro whose name the token there is
unfoldable pub macro_at : List (Option ℕ) → List (Option Span) → ℕ → Option Macro
macro_at numbers bodies at = macro_of bodies (held (slice_get numbers at))

-- the bodies by number are those of the macros in force
pub record IsSeen (text : Text) (macros : Macros) (name : ℕ → Name) (tokens : List Token) (numbers : List (Option ℕ)) (bodies : List (Option Span)) : Type 0 where
  pub numbered : IsNumbered text tokens numbers (length bodies) name
  pub defined : (number : ℕ) → number < length bodies → body_of macros (name number) ≡ option_map (part tokens) (held (slice_get bodies number))

-- the token there is the name of this macro
pub record IsUse (text : Text) (macros : Macros) (name : ℕ → Name) (tokens : List Token) (count at : ℕ) (found : Macro) : Type 0 where
  pub token : Token
  pub stands : slice_get tokens at ≡ Some token
  pub is_macro : IsMacro text macros token (part tokens found.body)
  pub named : spelling text token ≡ name found.number
  pub counted : found.number < count

-- ---- what stands for tokens

-- `Yields text macros ts out`: the tokens `out` stand for `ts`, and replacing them ends
pub data Yields (text : Text) (macros : Macros) : List Token → List Token → Type 0 where
  end : Yields text macros [] []
  plain : {token : Token} {ts out : List Token} → IsPlain text macros token → Yields text macros ts out → Yields text macros (token ∷ ts) (token ∷ out)
  macro : {token : Token} {body ts inner out : List Token} → IsMacro text macros token body → Yields text macros body inner →
      Yields text macros ts out → Yields text macros (token ∷ ts) (inner ++ out)

-- what was put out is `made`, as long as that is not too much
abbrev pub Holds : Output → List Token → Type 0
Holds output made = MatchBool output.is_over (max_tokens < length made) ((output.tokens.items ≡ made) × (length made ≤ max_tokens))

pub record IsPart (made : List Token) (span : Span) (piece : List Token) : Type 0 where
  pub line : ℕ
  pub same : part made span ≡ on_line line piece
  pub ordered : span.start ≤ span.end
  pub within : span.end ≤ length made

-- the piece stands there among what was made, as long as that is not too much
abbrev pub StandsAt : List Token → Span → List Token → Type 0
StandsAt made span piece = length made ≤ max_tokens → IsPart made span piece

-- what stands for the macro of this name is known
pub record IsKnown (text : Text) (macros : Macros) (word : Name) (made : List Token) (span : Span) : Type 0 where
  pub body : List Token
  pub piece : List Token
  pub is_body : body_of macros word ≡ Some body
  pub yields : Yields text macros body piece
  pub stands : StandsAt made span piece

abbrev pub Knows : Text → Macros → (ℕ → Name) → List (Option Mark) → List Token → Type 0
Knows text macros name marks made = (number : ℕ) (span : Span) → mark_at marks number ≡ Some (mark.Known span) → IsKnown text macros (name number) made span

-- no macro is being replaced
abbrev pub AreClosed : List (Option Mark) → Type 0
AreClosed marks = (number : ℕ) → mark_at marks number ≡ Some mark.Open → ⊥

-- ---- names that were met

-- the names among the tokens from the one place on, before the other, were met
abbrev pub AreMet : List Token → List (Option ℕ) → ℕ → List Bool → ℕ → ℕ → Type 0
AreMet tokens numbers count met from to =
    (at number : ℕ) → from ≤ at → at < to → at < length tokens → held (slice_get numbers at) ≡ Some number → number < count → is_met met number ≡ true

-- each macro that has a mark was met, and of those that were met and are known all names of their bodies were met
pub record Covers (tokens : List Token) (numbers : List (Option ℕ)) (bodies : List (Option Span)) (marks : List (Option Mark)) (met : List Bool) : Type 0 where
  pub marked : (number : ℕ) (found : Mark) → mark_at marks number ≡ Some found → is_met met number ≡ true
  pub entered : (number : ℕ) (body : Span) → is_met met number ≡ true → held (slice_get bodies number) ≡ Some body → mark_at marks number ≡ None → ⊥
  pub known : (number : ℕ) (body there : Span) → mark_at marks number ≡ Some (mark.Known there) → held (slice_get bodies number) ≡ Some body →
      AreMet tokens numbers (length bodies) met body.start body.end

-- the names before the rest of the macro's body were met
pub record IsRead (tokens : List Token) (numbers : List (Option ℕ)) (bodies : List (Option Span)) (met : List Bool) (number : ℕ) (rest : Span) : Type 0 where
  pub own : is_met met number ≡ true
  pub ends : (body : Span) → held (slice_get bodies number) ≡ Some body → body.end ≡ rest.end
  pub before : (body : Span) → held (slice_get bodies number) ≡ Some body → AreMet tokens numbers (length bodies) met body.start rest.start

-- of the macros that are being replaced each is read up to the next one's name, and the last up to the span
abbrev pub AreRead : List Token → List (Option ℕ) → List (Option Span) → List Bool → Span → List Open → Type 0
AreRead tokens numbers bodies met span [] = Unit {0}
AreRead tokens numbers bodies met span (o ∷ []) = IsRead tokens numbers bodies met o.number span
AreRead tokens numbers bodies met span (o ∷ p ∷ opens) =
    IsRead tokens numbers bodies met o.number p.rest × AreRead tokens numbers bodies met span (p ∷ opens)

-- where reading the span came to a stop
abbrev pub ReadsUpTo : List Token → List (Option ℕ) → List (Option Span) → List Bool → Span → Stop → Type 0
ReadsUpTo tokens numbers bodies met span End = AreMet tokens numbers (length bodies) met span.start span.end
ReadsUpTo tokens numbers bodies met span (Enter found rest) =
    (rest.end ≡ span.end) × (held (slice_get bodies found.number) ≡ Some found.body)
    × ((at : ℕ) × (rest.start ≡ at + 1) × (held (slice_get numbers at) ≡ Some found.number) × AreMet tokens numbers (length bodies) met span.start at)
ReadsUpTo tokens numbers bodies met span Loop = Unit {0}

-- no more names were met than before but for those of no macros
pub record MeetsMore (bodies : List (Option Span)) (marks : List (Option Mark)) (met more : List Bool) : Type 0 where
  pub grown : (number : ℕ) → is_met met number ≡ true → is_met more number ≡ true
  pub plain : (number : ℕ) → is_met more number ≡ true → (is_met met number ≡ true) ⊎ (held (slice_get bodies number) ≡ None)

-- each macro that has a mark was met
abbrev pub AreMarkedMet : List (Option Mark) → List Bool → Type 0
AreMarkedMet marks met = (number : ℕ) (found : Mark) → mark_at marks number ≡ Some found → is_met met number ≡ true

-- ---- steps

-- where putting out the tokens of this span came to a stop, and why
abbrev pub StopsAt : Text → Macros → (ℕ → Name) → List Token → List (Option Mark) → ℕ → Span → ℕ → Stop → Type 0
StopsAt text macros name tokens marks count span at End = slice_range tokens span.start at ≡ part tokens span
StopsAt text macros name tokens marks count span at (Enter found rest) =
    (span.start ≤ at) × (at < span.end) × (rest.start ≡ at + 1) × (rest.end ≡ span.end) × IsUse text macros name tokens count at found × (mark_at marks found.number ≡ None)
StopsAt text macros name tokens marks count span at Loop =
    (span.start ≤ at) × (at < span.end) × ((found : Macro) × IsUse text macros name tokens count at found × (mark_at marks found.number ≡ Some mark.Open))

pub record PutsOut (text : Text) (macros : Macros) (name : ℕ → Name) (tokens : List Token) (marks : List (Option Mark)) (count : ℕ) (span : Span) (line : ℕ)
    (made : List Token) (output : Output) (stop : Stop) : Type 0 where
  pub at : ℕ
  pub piece : List Token
  pub yields : Yields text macros (slice_range tokens span.start at) piece
  pub holds : Holds output (made ++ on_line line piece)
  pub stopped : StopsAt text macros name tokens marks count span at stop

-- a macro that is entered has one of these numbers, and no mark
abbrev pub IsFresh : List (Option Mark) → ℕ → Stop → Type 0
IsFresh marks count (Enter found rest) = (found.number < count) × (mark_at marks found.number ≡ None)
IsFresh marks count _ = Unit {0}

-- what stands for the token was put out on its line
pub record IsReplaced (text : Text) (macros : Macros) (name : ℕ → Name) (token : Token) (made : List Token) (marks : List (Option Mark)) (output : Output) : Type 0 where
  pub piece : List Token
  pub yields : Yields text macros (token ∷ []) piece
  pub holds : Holds output (made ++ on_line token.line piece)
  pub knows : Knows text macros name marks (made ++ on_line token.line piece)
  pub closed : AreClosed marks
