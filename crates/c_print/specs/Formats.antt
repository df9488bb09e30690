-- The formats of printf (C11 7.21.6.1) that the language has: plain bytes, conversions, and `%%` for a `%`.
use Rattle.std.specs.Prelude.{◌≡◌, ◌≢◌, ℕ, ◌<◌, ◌≤◌, Bool, true, false, if◌then◌else◌, ◌==◌, List, [], ◌∷◌, ◌++◌, length, take, decimal, codes}
use Rattle.c_print.specs.declared.error.FormatError.{FormatError}
use Rattle.c_print.specs.declared.error.FormatError.TheVariants.{Memory, BadFormat}
use Rattle.c_print.specs.declared.parts.Flag.{Flag}
use Rattle.c_print.specs.declared.parts.Flag.TheVariants.{Bare, Minus, Zero}
use Rattle.c_print.specs.declared.parts.Letter.{Letter}
use Rattle.c_print.specs.declared.parts.Letter.TheVariants.{D, I, U, X, C}
use Rattle.c_print.specs.declared.parts.Part.{Part}
use Rattle.c_print.specs.declared.parts.Part.TheVariants.{Plain, Number, Str}

-- the byte `%`
abbrev pub percent : ℕ
percent = 37

-- ---- conversions

-- how a flag is written
abbrev pub flag_bytes : Flag → List ℕ
flag_bytes Bare = []
flag_bytes Minus = codes "-"
flag_bytes Zero = codes "0"

-- how a width is written; 0 is that of a conversion without one
abbrev pub width_bytes : ℕ → List ℕ
width_bytes width = if width == 0 then [] else decimal width

-- how it is written that an argument has 64 bits: a length modifier (C11 7.21.6.1p7)
pub data IsModifier : Bool → List ℕ → Type 0 where
  none : IsModifier false []
  ell : IsModifier true (codes "l")
  ells : IsModifier true (codes "ll")
  zed : IsModifier true (codes "z")

abbrev pub letter_byte : Letter → ℕ
letter_byte D = 100
letter_byte I = 105
letter_byte U = 117
letter_byte X = 120
letter_byte C = 99

-- `%`, a flag, a width, and what stands after the width
abbrev pub spelling : Flag → ℕ → List ℕ → List ℕ
spelling flag width rest = percent ∷ (flag_bytes flag ++ (width_bytes width ++ rest))

-- a width has two digits at most, and a flag needs one
pub record IsFilling (flag : Flag) (width : ℕ) : Type 0 where
  pub short : width ≤ 99
  pub written : flag ≢ Bare → 0 < width

-- `Converts part bytes`: these bytes are how the conversion is written. A modifier goes with `d i u x` alone, and so
-- does `0`.
pub data Converts : Part → List ℕ → Type 0 where
  whole : {letter : Letter} {flag : Flag} {width : ℕ} {long : Bool} {modifier : List ℕ} →
      letter ≢ C → IsFilling flag width → IsModifier long modifier →
      Converts (Number letter flag width long) (spelling flag width (modifier ++ letter_byte letter ∷ []))
  single : {flag : Flag} {width : ℕ} → flag ≢ Zero → IsFilling flag width →
      Converts (Number C flag width false) (spelling flag width (codes "c"))
  string : {flag : Flag} {width : ℕ} → flag ≢ Zero → IsFilling flag width →
      Converts (Str flag width) (spelling flag width (codes "s"))

-- ---- formats

-- a plain byte before parts: plain bytes that stand together are one part
abbrev pub joined : ℕ → List Part → List Part
joined byte [] = Plain (byte ∷ []) ∷ []
joined byte (Plain text ∷ parts) = Plain (byte ∷ text) ∷ parts
joined byte (part ∷ parts) = Plain (byte ∷ []) ∷ part ∷ parts

-- `Parts format parts`: the format is made of these parts, in this order
pub data Parts : List ℕ → List Part → Type 0 where
  end : Parts [] []
  plain : (byte : ℕ) {rest : List ℕ} {parts : List Part} → byte ≢ percent → Parts rest parts →
      Parts (byte ∷ rest) (joined byte parts)
  two_percents : {rest : List ℕ} {parts : List Part} → Parts rest parts →
      Parts (percent ∷ percent ∷ rest) (joined percent parts)
  converted : {part : Part} (bytes : List ℕ) {rest : List ℕ} {parts : List Part} →
      Converts part bytes → Parts rest parts → Parts (bytes ++ rest) (part ∷ parts)

-- some format begins with these bytes
pub record Begins (bytes : List ℕ) : Type 0 where
  pub rest : List ℕ
  pub parts : List Part
  pub whole : Parts (bytes ++ rest) parts

-- so many bytes are the longest beginning that some format has too
pub record IsLongest (format : List ℕ) (at : ℕ) : Type 0 where
  pub within : at ≤ length format
  pub begins : Begins (take at format)
  pub longest : (n : ℕ) → at < n → n ≤ length format → Begins (take n format) → ⊥

-- the bytes are no format, and so many of them begin one
pub record BreaksAt (format : List ℕ) (at : ℕ) : Type 0 where
  pub no_parts : (parts : List Part) → Parts format parts → ⊥
  pub longest : IsLongest format at

abbrev pub IsRefusal : List ℕ → FormatError → Type 0
IsRefusal format (Memory _) = Unit {0}
IsRefusal format (BadFormat at) = BreaksAt format at

-- the format has no other parts
abbrev pub AreOnly : List ℕ → List Part → Type 0
AreOnly format parts = (others : List Part) → Parts format others → others ≡ parts

-- ---- laws

-- the format has parts
abbrev pub HasParts : List ℕ → Type 0
HasParts format = (parts : List Part) × Parts format parts

-- the format has none, and breaks somewhere
abbrev pub Breaks : List ℕ → Type 0
Breaks format = (at : ℕ) × BreaksAt format at
