-- Macros without parameters, and what stands for their names (C11 6.10.3).
use Rattle.std.specs.Prelude.{◌≡◌, ℕ, true, List, [], ◌∷◌, ◌++◌, map, Option, Some, None, Contains, if◌then◌else◌}
use Rattle.std.specs.Str.{bytes_eq}
use Rattle.c_tokens.specs.declared.token.Token.{Token}
use Rattle.c_tokens.specs.Names.{Text, Name, spelling, is_name}
use Rattle.c_pp.specs.Directives.{Definition}

-- the macros in force: what was said of names, the last first
abbrev pub Macros : Type 0
Macros = List Definition

-- What was last said of a name decides (C11 6.10.3.5); a macro may be defined anew, which C11 6.10.3p2 allows for the same body alone.
abbrev pub body_of : Macros → Name → Option (List Token)
body_of [] name = None
body_of (d ∷ macros) name = if bytes_eq d.0 name then d.1 else body_of macros name

abbrev pub changed : Option Definition → Macros → Macros
changed None macros = macros
changed (Some d) macros = d ∷ macros

-- the token is the name of a macro, which stands for this body
abbrev pub IsMacro : Text → Macros → Token → List Token → Type 0
IsMacro text macros token body = (is_name token.kind ≡ true) × (body_of macros (spelling text token) ≡ Some body)

-- the token is the name of no macro
abbrev pub IsPlain : Text → Macros → Token → Type 0
IsPlain text macros token = is_name token.kind ≡ true → body_of macros (spelling text token) ≡ None

-- `Replaces text macros busy ts out`: the tokens `out` stand for `ts`, where the names `busy` are being replaced. What stands
-- for a macro's name is what stands for its body while that name is busy; nothing stands for a busy name, which C11 6.10.3.4p2
-- would leave as it is.
pub data Replaces (text : Text) (macros : Macros) : List Name → List Token → List Token → Type 0 where
  end : {busy : List Name} → Replaces text macros busy [] []
  plain : {busy : List Name} {token : Token} {ts out : List Token} → IsPlain text macros token →
      Replaces text macros busy ts out → Replaces text macros busy (token ∷ ts) (token ∷ out)
  macro : {busy : List Name} {token : Token} {body ts inner out : List Token} → IsMacro text macros token body →
      (Contains busy (spelling text token) → ⊥) → Replaces text macros (spelling text token ∷ busy) body inner →
      Replaces text macros busy ts out → Replaces text macros busy (token ∷ ts) (inner ++ out)

-- `Loops text macros busy ts`: replacing the tokens `ts` comes to a macro that is being replaced already
pub data Loops (text : Text) (macros : Macros) : List Name → List Token → Type 0 where
  here : {busy : List Name} {token : Token} {body ts : List Token} → IsMacro text macros token body →
      Contains busy (spelling text token) → Loops text macros busy (token ∷ ts)
  within : {busy : List Name} {token : Token} {body ts : List Token} → IsMacro text macros token body →
      Loops text macros (spelling text token ∷ busy) body → Loops text macros busy (token ∷ ts)
  later : {busy : List Name} {token : Token} {ts : List Token} →
      Loops text macros busy ts → Loops text macros busy (token ∷ ts)

-- the same tokens on this line
abbrev pub on_line : ℕ → List Token → List Token
on_line line ts = map (λ (token : Token). record token { line = line }) ts
