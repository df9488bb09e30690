-- Directives are obeyed and dropped, and macros are replaced (C11 5.1.1.2, phase 4).
use Rattle.std.specs.Prelude.{◌≡◌, ℕ, ◌-◌, ◌<◌, ◌≤◌, true, false, List, [], ◌∷◌, ◌++◌, length, Option, Contains}
use Rattle.c_tokens.specs.declared.token.Token.{Token}
use Rattle.c_tokens.specs.Limits.{max_tokens}
use Rattle.c_pp.specs.declared.error.PpError.{PpError}
use Rattle.c_pp.specs.declared.error.PpError.TheVariants.{MacroLoop, TooManyTokens}
use Rattle.c_tokens.specs.Names.{Text}
use Rattle.c_pp.specs.Directives.{Definition, begins_directive, IsLine, Obeys, Disobeys}
use Rattle.c_pp.specs.Macros.{Macros, changed, Replaces, Loops, on_line}

-- `Expanded text macros ts out`: where these macros are in force, the tokens `ts` become `out`. What stands for a token is on
-- that token's line; a token that is no macro's name stands for itself.
pub data Expanded (text : Text) : Macros → List Token → List Token → Type 0 where
  end : {macros : Macros} → Expanded text macros [] []
  directive : {macros : Macros} {hash : Token} {ts words rest out : List Token} {change : Option Definition} →
      begins_directive hash ≡ true → IsLine ts words rest → Obeys text words change →
      Expanded text (changed change macros) rest out → Expanded text macros (hash ∷ ts) out
  token : {macros : Macros} {token : Token} {ts piece out : List Token} → begins_directive token ≡ false →
      Replaces text macros [] (token ∷ []) piece → Expanded text macros ts out →
      Expanded text macros (token ∷ ts) (on_line token.line piece ++ out)

-- `HasPpFault text macros room ts e`: the tokens `ts` do not become at most `room` others, and `e` is the first reason in the text
pub data HasPpFault (text : Text) : Macros → ℕ → List Token → PpError → Type 0 where
  bad : {macros : Macros} {room : ℕ} {hash : Token} {ts words rest : List Token} {e : PpError} →
      begins_directive hash ≡ true → IsLine ts words rest → Disobeys text words hash.line e → HasPpFault text macros room (hash ∷ ts) e
  loop : {macros : Macros} {room : ℕ} {token : Token} {ts : List Token} → begins_directive token ≡ false →
      Loops text macros [] (token ∷ []) → HasPpFault text macros room (token ∷ ts) (MacroLoop token.line)
  full : {macros : Macros} {room : ℕ} {token : Token} {ts piece : List Token} → begins_directive token ≡ false →
      Replaces text macros [] (token ∷ []) piece → room < length piece → HasPpFault text macros room (token ∷ ts) (TooManyTokens token.line)
  directive : {macros : Macros} {room : ℕ} {hash : Token} {ts words rest : List Token} {change : Option Definition} {e : PpError} →
      begins_directive hash ≡ true → IsLine ts words rest → Obeys text words change →
      HasPpFault text (changed change macros) room rest e → HasPpFault text macros room (hash ∷ ts) e
  token : {macros : Macros} {room : ℕ} {token : Token} {ts piece : List Token} {e : PpError} → begins_directive token ≡ false →
      Replaces text macros [] (token ∷ []) piece → length piece ≤ room → HasPpFault text macros (room - length piece) ts e →
      HasPpFault text macros room (token ∷ ts) e

-- what the tokens of a whole text become
pub record Expands (text : Text) (ts out : List Token) : Type 0 where
  pub expanded : Expanded text [] ts out
  pub few : length out ≤ max_tokens

-- why they become nothing: the first reason in the text
abbrev pub IsPpFault : Text → List Token → PpError → Type 0
IsPpFault text ts e = HasPpFault text [] max_tokens ts e

-- the token is one of these but for its line, which is that of one of them
pub record IsDrawn (ts : List Token) (token : Token) : Type 0 where
  pub source : Token
  pub named : Token
  pub from_text : Contains ts source
  pub at_name : Contains ts named
  pub same : token ≡ record source { line = named.line }
