-- What the code does with the bytes of a format, one after another.
use Rattle.std.specs.Prelude.{ℕ, suc, ◌+◌, ◌-◌, ◌*◌, Bool, true, false, ◌&&◌, nat_le, if◌then◌else◌, ◌==◌, List, [], ◌∷◌, Result, Ok, Err}
use Rattle.c_print.specs.declared.machine.Kind.{Kind}
use Rattle.c_print.specs.declared.machine.Kind.TheVariants as kind
use Rattle.c_print.specs.declared.machine.State.{State}
use Rattle.c_print.specs.declared.machine.State.TheVariants as state
use Rattle.c_print.specs.declared.machine.Effect.{Effect}
use Rattle.c_print.specs.declared.machine.Effect.TheVariants as effect
use Rattle.c_print.specs.declared.parts.Flag.{Flag}
use Rattle.c_print.specs.declared.parts.Flag.TheVariants as flag
use Rattle.c_print.specs.declared.parts.Letter.TheVariants.{D, I, U, X, C}
use Rattle.c_print.specs.declared.parts.Part.{Part}
use Rattle.c_print.specs.declared.parts.Part.TheVariants.{Number, Str}
use Rattle.c_print.specs.Formats.{joined}

-- ---- bytes

unfoldable pub whole_kind : ℕ → Kind
whole_kind byte =
    if byte == 100 then kind.Whole D else (if byte == 105 then kind.Whole I else (if byte == 117 then kind.Whole U
    else (if byte == 120 then kind.Whole X else kind.Other)))

unfoldable pub letter_kind : ℕ → Kind
letter_kind byte =
    if byte == 108 then kind.Ell else (if byte == 122 then kind.Zed else (if byte == 99 then kind.Byte
    else (if byte == 115 then kind.Str else whole_kind byte)))

unfoldable pub kind_of : ℕ → Kind
kind_of byte =
    if byte == 37 then kind.Percent else (if byte == 45 then kind.Minus else (if byte == 48 then kind.Zero
    else (if nat_le 49 byte && nat_le byte 57 then kind.Digit (byte - 48) else letter_kind byte)))

-- ---- effects

abbrev pub after_modifier : Flag → ℕ → Bool → Kind → Effect
after_modifier f width long (kind.Whole letter) = effect.Number letter f width long
after_modifier f width long _ = effect.Wrong

abbrev pub after_ell : Flag → ℕ → Kind → Effect
after_ell f width kind.Ell = effect.Goes (state.Ells f width)
after_ell f width k = after_modifier f width true k

abbrev pub byte_or_wrong : Flag → ℕ → Effect
byte_or_wrong flag.Zero width = effect.Wrong
byte_or_wrong f width = effect.Number C f width false

abbrev pub str_or_wrong : Flag → ℕ → Effect
str_or_wrong flag.Zero width = effect.Wrong
str_or_wrong f width = effect.Str f width

abbrev pub after_width : Flag → ℕ → Kind → Effect
after_width f width kind.Ell = effect.Goes (state.Ell f width)
after_width f width kind.Zed = effect.Goes (state.Zed f width)
after_width f width kind.Byte = byte_or_wrong f width
after_width f width kind.Str = str_or_wrong f width
after_width f width k = after_modifier f width false k

abbrev pub after_digit : Flag → ℕ → Kind → Effect
after_digit f digit kind.Zero = effect.Goes (state.Digits f (10 * digit))
after_digit f digit (kind.Digit next) = effect.Goes (state.Digits f (10 * digit + next))
after_digit f digit k = after_width f digit k

abbrev pub after_flag : Flag → Kind → Effect
after_flag f (kind.Digit digit) = effect.Goes (state.Digit f digit)
after_flag f _ = effect.Wrong

abbrev pub after_percent : Kind → Effect
after_percent kind.Percent = effect.Plain 37
after_percent kind.Minus = effect.Goes (state.Flagged flag.Minus)
after_percent kind.Zero = effect.Goes (state.Flagged flag.Zero)
after_percent (kind.Digit digit) = effect.Goes (state.Digit flag.Bare digit)
after_percent k = after_width flag.Bare 0 k

abbrev pub outside : ℕ → Kind → Effect
outside byte kind.Percent = effect.Goes state.Percent
outside byte _ = effect.Plain byte

abbrev pub read : State → ℕ → Kind → Effect
read state.Outside byte k = outside byte k
read state.Percent byte k = after_percent k
read (state.Flagged f) byte k = after_flag f k
read (state.Digit f digit) byte k = after_digit f digit k
read (state.Digits f width) byte k = after_width f width k
read (state.Ell f width) byte k = after_ell f width k
read (state.Ells f width) byte k = after_modifier f width true k
read (state.Zed f width) byte k = after_modifier f width true k

unfoldable pub effect_of : State → ℕ → Effect
effect_of s byte = read s byte (kind_of byte)

-- ---- all bytes

-- the parts, or how many bytes are right
abbrev pub Reading : Type 0
Reading = Result (List Part) ℕ

-- one byte more, before parts that are changed so
abbrev pub onto : (List Part → List Part) → Reading → Reading
onto f (Ok parts) = Ok (f parts)
onto f (Err at) = Err (suc at)

-- what an effect makes of what is ahead in each state
abbrev pub next : Effect → (State → Reading) → Reading
next effect.Wrong ahead = Err 0
next (effect.Goes s) ahead = onto (λ parts. parts) (ahead s)
next (effect.Plain byte) ahead = onto (joined byte) (ahead state.Outside)
next (effect.Number letter f width long) ahead =
    onto (λ parts. Number letter f width long ∷ parts) (ahead state.Outside)
next (effect.Str f width) ahead = onto (λ parts. Str f width ∷ parts) (ahead state.Outside)

abbrev pub at_end : State → Reading
at_end state.Outside = Ok []
at_end _ = Err 0

unfoldable pub reading : State → List ℕ → Reading
reading s [] = at_end s
reading s (byte ∷ rest) = next (effect_of s byte) (λ t. reading t rest)
