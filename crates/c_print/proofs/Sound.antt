-- Each byte that is read goes on with a format, and what is read of a whole format are its parts.
use Rattle.std.proofs.Common.{◌≡◌, ◌≢◌, ℕ, ◌+◌, ◌*◌, ◌≤◌, Bool, true, false, List, [], ◌∷◌, ◌++◌, length, take, Ok, Err, refl, sym, ap, subst, ◌∙◌, arith, append_assoc}
use Rattle.std.specs.Prelude.{codes}
use Rattle.std.proofs.lemmas.List.{append-nil}
use Rattle.c_print.specs.declared.machine.Effect.{Effect}
use Rattle.c_print.specs.declared.machine.Effect.TheVariants as effect
use Rattle.c_print.specs.declared.machine.Kind.{Kind}
use Rattle.c_print.specs.declared.machine.Kind.TheVariants as kind
use Rattle.c_print.specs.declared.machine.State.{State}
use Rattle.c_print.specs.declared.machine.State.TheVariants as state
use Rattle.c_print.specs.declared.parts.Flag.{Flag}
use Rattle.c_print.specs.declared.parts.Flag.TheVariants as flag
use Rattle.c_print.specs.declared.parts.Letter.{Letter}
use Rattle.c_print.specs.declared.parts.Letter.TheVariants.{D, I, U, X, C}
use Rattle.c_print.specs.declared.parts.Part.{Part}
use Rattle.c_print.specs.declared.parts.Part.TheVariants as part
use Rattle.c_print.specs.Formats.{percent, flag_bytes, width_bytes, letter_byte, spelling, IsFilling, IsModifier, none, ell, ells, zed, Converts, whole, single, string, joined, Parts, end, plain, two_percents, converted, Begins}
use Rattle.c_print.specs.Machine.{kind_of, after_modifier, after_ell, byte_or_wrong, str_or_wrong, after_width, after_digit, after_flag, after_percent, outside, read, effect_of, Reading, onto, next, at_end, reading}
use Rattle.c_print.proofs.ByteKinds.{byte_of, IsKind, kinds, width_bytes-digit, width_bytes-digits}

-- ---- states

-- the bytes of an open conversion
abbrev pub spelled : State → List ℕ
spelled state.Outside = []
spelled state.Percent = spelling flag.Bare 0 []
spelled (state.Flagged f) = spelling f 0 []
spelled (state.Digit f digit) = spelling f digit []
spelled (state.Digits f width) = spelling f width []
spelled (state.Ell f width) = spelling f width (codes "l")
spelled (state.Ells f width) = spelling f width (codes "ll")
spelled (state.Zed f width) = spelling f width (codes "z")

abbrev pub IsState : State → Type 0
IsState (state.Digit f digit) = (1 ≤ digit) × (digit ≤ 9)
IsState (state.Digits f width) = IsFilling f width
IsState (state.Ell f width) = IsFilling f width
IsState (state.Ells f width) = IsFilling f width
IsState (state.Zed f width) = IsFilling f width
IsState _ = Unit {0}

pub spelling-append : (f : Flag) (width : ℕ) (bytes more : List ℕ) →
    spelling f width bytes ++ more ≡ spelling f width (bytes ++ more)
spelling-append f width bytes more =
    ap (λ bs. percent ∷ bs) (append_assoc (flag_bytes f) (width_bytes width ++ bytes) more
    ∙ ap (λ bs. flag_bytes f ++ bs) (append_assoc (width_bytes width) bytes more))

-- ---- effects

-- with this byte, parts of what follows become parts of all
Adds : List ℕ → ℕ → (List Part → List Part) → Type 0
Adds before b f = (rest : List ℕ) (parts : List Part) → Parts rest parts → Parts (before ++ b ∷ rest) (f parts)

-- what an effect of the byte is right for, after these bytes
abbrev Fits : List ℕ → ℕ → Effect → Type 0
Fits before b effect.Wrong = Unit {0}
Fits before b (effect.Goes s) = IsState s × (spelled s ≡ before ++ b ∷ [])
Fits before b (effect.Plain byte) = Adds before b (joined byte)
Fits before b (effect.Number letter f width long) = Converts (part.Number letter f width long) (before ++ b ∷ [])
Fits before b (effect.Str f width) = Converts (part.Str f width) (before ++ b ∷ [])

modifier_fits : (f : Flag) (width : ℕ) (long : Bool) (modifier : List ℕ) (k : Kind) (b : ℕ) → IsFilling f width →
    IsModifier long modifier → IsKind k b →
    Fits (spelling f width modifier) (byte_of k b) (after_modifier f width long k)
modifier_fits f width long modifier (kind.Whole letter) b filling is ok =
    subst (λ bs. Converts (part.Number letter f width long) bs)
    (sym (spelling-append f width modifier (letter_byte letter ∷ []))) (whole ok filling is)
modifier_fits f width long modifier _ b filling is ok = tt

ell_fits : (f : Flag) (width : ℕ) (k : Kind) (b : ℕ) → IsFilling f width → IsKind k b →
    Fits (spelling f width (codes "l")) (byte_of k b) (after_ell f width k)
ell_fits f width kind.Ell b filling ok = (filling, sym (spelling-append f width (codes "l") (codes "l")))
ell_fits f width k b filling ok = modifier_fits f width true (codes "l") k b filling ell ok

byte_fits : (f : Flag) (width : ℕ) → IsFilling f width → Fits (spelling f width []) 99 (byte_or_wrong f width)
byte_fits flag.Bare width filling =
    subst (λ bs. Converts (part.Number C flag.Bare width false) bs)
    (sym (spelling-append flag.Bare width [] (codes "c"))) (single (λ e. cc) filling)
byte_fits flag.Minus width filling =
    subst (λ bs. Converts (part.Number C flag.Minus width false) bs)
    (sym (spelling-append flag.Minus width [] (codes "c"))) (single (λ e. cc) filling)
byte_fits flag.Zero width filling = tt

str_fits : (f : Flag) (width : ℕ) → IsFilling f width → Fits (spelling f width []) 115 (str_or_wrong f width)
str_fits flag.Bare width filling =
    subst (λ bs. Converts (part.Str flag.Bare width) bs) (sym (spelling-append flag.Bare width [] (codes "s")))
    (string (λ e. cc) filling)
str_fits flag.Minus width filling =
    subst (λ bs. Converts (part.Str flag.Minus width) bs) (sym (spelling-append flag.Minus width [] (codes "s")))
    (string (λ e. cc) filling)
str_fits flag.Zero width filling = tt

width_fits : (f : Flag) (width : ℕ) (k : Kind) (b : ℕ) → IsFilling f width → IsKind k b →
    Fits (spelling f width []) (byte_of k b) (after_width f width k)
width_fits f width kind.Ell b filling ok = (filling, sym (spelling-append f width [] (codes "l")))
width_fits f width kind.Zed b filling ok = (filling, sym (spelling-append f width [] (codes "z")))
width_fits f width kind.Byte b filling ok = byte_fits f width filling
width_fits f width kind.Str b filling ok = str_fits f width filling
width_fits f width k b filling ok = modifier_fits f width false [] k b filling none ok

small_filling : (f : Flag) (width : ℕ) → 1 ≤ width → width ≤ 99 → IsFilling f width
small_filling f width low high = record { short = high; written = λ _. omega arith }

no_filling : IsFilling flag.Bare 0
no_filling = record { short = omega arith; written = λ h. absurd (h refl) }

first_digit : (f : Flag) (d : ℕ) → 1 ≤ d → d ≤ 9 → spelling f d [] ≡ spelling f 0 [] ++ (48 + d) ∷ []
first_digit f d low high =
    ap (λ ds. percent ∷ (flag_bytes f ++ (ds ++ []))) (width_bytes-digit d low high)
    ∙ sym (spelling-append f 0 [] ((48 + d) ∷ []))

second_digit : (f : Flag) (d e : ℕ) → 1 ≤ d → d ≤ 9 → e ≤ 9 →
    spelling f (10 * d + e) [] ≡ spelling f d [] ++ (48 + e) ∷ []
second_digit f d e low high small =
    ap (λ ds. percent ∷ (flag_bytes f ++ (ds ++ []))) (width_bytes-digits d e low high small)
    ∙ ap (λ ds. percent ∷ (flag_bytes f ++ (ds ++ (48 + e) ∷ []))) (sym (width_bytes-digit d low high))
    ∙ sym (spelling-append f d [] ((48 + e) ∷ []))

digit_fits : (f : Flag) (d : ℕ) (k : Kind) (b : ℕ) → 1 ≤ d → d ≤ 9 → IsKind k b →
    Fits (spelling f d []) (byte_of k b) (after_digit f d k)
digit_fits f d kind.Zero b low high ok = (
  small_filling f (10 * d) (omega arith) (omega arith),
  ap (λ (w : ℕ). spelling f w []) {x = 10 * d} {y = 10 * d + 0} (omega arith)
      ∙ second_digit f d 0 low high (omega arith),
)
digit_fits f d (kind.Digit e) b low high ok =
    (small_filling f (10 * d + e) (omega arith) (omega (arith, ok.1)), second_digit f d e low high ok.1)
digit_fits f d k b low high ok = width_fits f d k b (small_filling f d low (omega arith)) ok

flag_fits : (f : Flag) (k : Kind) (b : ℕ) → IsKind k b → Fits (spelling f 0 []) (byte_of k b) (after_flag f k)
flag_fits f (kind.Digit d) b ok = (ok, first_digit f d ok.0 ok.1)
flag_fits f _ b ok = tt

percent_fits : (k : Kind) (b : ℕ) → IsKind k b → Fits (spelling flag.Bare 0 []) (byte_of k b) (after_percent k)
unfolding Adds
percent_fits kind.Percent b ok = λ rest parts p. two_percents p
percent_fits kind.Minus b ok = (tt, refl)
percent_fits kind.Zero b ok = (tt, refl)
percent_fits (kind.Digit d) b ok = (ok, first_digit flag.Bare d ok.0 ok.1)
percent_fits k b ok = width_fits flag.Bare 0 k b no_filling ok

whole_apart : (letter : Letter) → letter_byte letter ≢ percent
whole_apart D e = absurd (omega arith)
whole_apart I e = absurd (omega arith)
whole_apart U e = absurd (omega arith)
whole_apart X e = absurd (omega arith)
whole_apart C e = absurd (omega arith)

kind_apart : (k : Kind) (b : ℕ) → (k ≡ kind.Percent → ⊥) → IsKind k b → byte_of k b ≢ percent
kind_apart kind.Percent b ne ok e = ne refl
kind_apart kind.Minus b ne ok e = absurd (omega arith)
kind_apart kind.Zero b ne ok e = absurd (omega arith)
kind_apart (kind.Digit d) b ne ok e = absurd (omega arith)
kind_apart kind.Ell b ne ok e = absurd (omega arith)
kind_apart kind.Zed b ne ok e = absurd (omega arith)
kind_apart (kind.Whole letter) b ne ok e = whole_apart letter e
kind_apart kind.Byte b ne ok e = absurd (omega arith)
kind_apart kind.Str b ne ok e = absurd (omega arith)
kind_apart kind.Other b ne ok e = ok e

outside_fits : (k : Kind) (b : ℕ) → IsKind k b → Fits [] (byte_of k b) (outside (byte_of k b) k)
unfolding Adds
outside_fits kind.Percent b ok = (tt, refl)
outside_fits k b ok = λ rest parts p. plain (byte_of k b) (kind_apart k b (λ e. cc) ok) p

read_fits : (s : State) (k : Kind) (b : ℕ) → IsState s → IsKind k b →
    Fits (spelled s) (byte_of k b) (read s (byte_of k b) k)
read_fits state.Outside k b is ok = outside_fits k b ok
read_fits state.Percent k b is ok = percent_fits k b ok
read_fits (state.Flagged f) k b is ok = flag_fits f k b ok
read_fits (state.Digit f digit) k b is ok = digit_fits f digit k b is.0 is.1 ok
read_fits (state.Digits f width) k b is ok = width_fits f width k b is ok
read_fits (state.Ell f width) k b is ok = ell_fits f width k b is ok
read_fits (state.Ells f width) k b is ok = modifier_fits f width true (codes "ll") k b is ells ok
read_fits (state.Zed f width) k b is ok = modifier_fits f width true (codes "z") k b is zed ok

effect_fits : (s : State) (b : ℕ) → IsState s → Fits (spelled s) b (effect_of s b)
unfolding effect_of
effect_fits s b is =
    let has = kinds b in
    subst (λ (x : ℕ). Fits (spelled s) x (read s x (kind_of b))) (sym has.same) (read_fits s (kind_of b) b is has.is)

-- ---- beginnings

whole_conversion : (p : Part) (bytes : List ℕ) → Converts p bytes → Parts bytes (p ∷ [])
whole_conversion p bytes c = subst (λ bs. Parts bs (p ∷ [])) (append-nil bytes) (converted bytes c end)

begun : (f : Flag) (width : ℕ) (long : Bool) (modifier : List ℕ) → IsFilling f width → IsModifier long modifier →
    Begins (spelling f width modifier)
begun f width long modifier filling is = record {
  rest = codes "d";
  parts = part.Number D f width long ∷ [];
  whole = subst (λ bs. Parts bs (part.Number D f width long ∷ [])) (sym (spelling-append f width modifier (codes "d")))
      (whole_conversion _ _ (whole {letter = D} (λ e. cc) filling is));
}

flag_begun : (f : Flag) → Begins (spelling f 0 [])
flag_begun f = record {
  rest = codes "1d";
  parts = part.Number D f 1 false ∷ [];
  whole = subst (λ bs. Parts bs (part.Number D f 1 false ∷ []))
      (ap (λ ds. percent ∷ (flag_bytes f ++ (ds ++ codes "d"))) (width_bytes-digit 1 (omega arith) (omega arith))
      ∙ sym (spelling-append f 0 [] (codes "1d")))
      (whole_conversion _ _
      (whole {letter = D} {modifier = []} (λ e. cc) (small_filling f 1 (omega arith) (omega arith)) none));
}

state_begun : (s : State) → IsState s → Begins (spelled s)
state_begun state.Outside is = record { rest = []; parts = []; whole = end }
state_begun state.Percent is = begun flag.Bare 0 false [] no_filling none
state_begun (state.Flagged f) is = flag_begun f
state_begun (state.Digit f digit) is = begun f digit false [] (small_filling f digit is.0 (omega (arith, is.1))) none
state_begun (state.Digits f width) is = begun f width false [] is none
state_begun (state.Ell f width) is = begun f width true (codes "l") is ell
state_begun (state.Ells f width) is = begun f width true (codes "ll") is ells
state_begun (state.Zed f width) is = begun f width true (codes "z") is zed

-- ---- all bytes

-- what the reading of bytes after an open conversion says
abbrev pub Tells : State → List ℕ → Reading → Type 0
Tells s bytes (Ok parts) = Parts (spelled s ++ bytes) parts
Tells s bytes (Err at) = (at ≤ length bytes) × Begins (spelled s ++ take at bytes)

tells_none : (s : State) (bytes : List ℕ) → IsState s → Tells s bytes (Err 0)
tells_none s bytes is = (omega arith, subst Begins (sym (append-nil (spelled s))) (state_begun s is))

goes_tells : (s t : State) (b : ℕ) (bytes : List ℕ) → spelled t ≡ spelled s ++ b ∷ [] → (r : Reading) →
    Tells t bytes r →
    Tells s (b ∷ bytes) (onto (λ parts. parts) r)
goes_tells s t b bytes same (Ok parts) h =
    subst (λ bs. Parts bs parts) (ap (λ bs. bs ++ bytes) same ∙ append_assoc (spelled s) (b ∷ []) bytes) h
goes_tells s t b bytes same (Err at) h = (
  omega (arith, h.0),
  subst Begins
      (ap (λ bs. bs ++ take at bytes) same ∙ append_assoc (spelled s) (b ∷ []) (take at bytes)) h.1,
)

adds_tells : (s : State) (b : ℕ) (bytes : List ℕ) (f : List Part → List Part) → Adds (spelled s) b f → (r : Reading) →
    Tells state.Outside bytes r →
    Tells s (b ∷ bytes) (onto f r)
unfolding Adds
adds_tells s b bytes f adds (Ok parts) h = adds bytes parts h
adds_tells s b bytes f adds (Err at) h = (
  omega (arith, h.0),
  record {
    rest = h.1.rest;
    parts = f h.1.parts;
    whole = subst (λ bs. Parts bs (f h.1.parts)) (sym (append_assoc (spelled s) (b ∷ take at bytes) h.1.rest))
        (adds (take at bytes ++ h.1.rest) h.1.parts h.1.whole);
  },
)

converts_adds : (before : List ℕ) (b : ℕ) (p : Part) → Converts p (before ++ b ∷ []) →
    Adds before b (λ parts. p ∷ parts)
unfolding Adds
converts_adds before b p c =
    λ rest parts h. subst (λ bs. Parts bs (p ∷ parts)) (append_assoc before (b ∷ []) rest)
    (converted (before ++ b ∷ []) c h)

next_tells : (s : State) (b : ℕ) (bytes : List ℕ) (e : Effect) (ahead : State → Reading) → IsState s →
    Fits (spelled s) b e →
    ((t : State) → IsState t → Tells t bytes (ahead t)) → Tells s (b ∷ bytes) (next e ahead)
next_tells s b bytes effect.Wrong ahead is fits inner = tells_none s (b ∷ bytes) is
next_tells s b bytes (effect.Goes t) ahead is fits inner = goes_tells s t b bytes fits.1 (ahead t) (inner t fits.0)
next_tells s b bytes (effect.Plain byte) ahead is fits inner =
    adds_tells s b bytes (joined byte) fits (ahead state.Outside) (inner state.Outside tt)
next_tells s b bytes (effect.Number letter f width long) ahead is fits inner =
    adds_tells s b bytes _ (converts_adds (spelled s) b (part.Number letter f width long) fits) (ahead state.Outside)
    (inner state.Outside tt)
next_tells s b bytes (effect.Str f width) ahead is fits inner =
    adds_tells s b bytes _ (converts_adds (spelled s) b (part.Str f width) fits) (ahead state.Outside)
    (inner state.Outside tt)

end_tells : (s : State) → IsState s → Tells s [] (at_end s)
end_tells state.Outside is = end
end_tells s is = tells_none s [] is

pub reading_tells : (s : State) (bytes : List ℕ) → IsState s → Tells s bytes (reading s bytes)
unfolding reading
reading_tells s [] is = end_tells s is
reading_tells s (b ∷ bytes) is =
    next_tells s b bytes (effect_of s b) (λ t. reading t bytes) is (effect_fits s b is)
    (λ t ok. reading_tells t bytes ok)

-- what is read are the parts
pub parts_found : (format : List ℕ) (parts : List Part) → reading state.Outside format ≡ Ok parts → Parts format parts
parts_found format parts h = subst (Tells state.Outside format) h (reading_tells state.Outside format tt)

-- so many bytes begin a format
pub beginning_found : (format : List ℕ) (at : ℕ) → reading state.Outside format ≡ Err at →
    (at ≤ length format) × Begins (take at format)
beginning_found format at h = subst (Tells state.Outside format) h (reading_tells state.Outside format tt)
