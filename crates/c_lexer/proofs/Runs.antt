-- Steps of the loops that look for an end.
use Rattle.std.proofs.Common.{◌≡◌, ℕ, suc, ◌+◌, ◌*◌, ◌<◌, ◌≤◌, ◌^◌, Bool, true, false, not, ◌&&◌, ◌==◌, List, [], ◌∷◌, length, get_or, drop, Option, Some, None, refl, sym, ap, ◌∙◌, arith, cond}
use Rattle.std.proofs.lemmas.List.{drop_more, drop_all}
use Rattle.std.proofs.lemmas.Bool.{le-ltb, lt-ltb}
use Rattle.std.specs.Option.{option_map}
use Rattle.std.specs.Prelude.{nat_lt}
use Rattle.c_tokens.specs.declared.kind.NumType.{NumType}
use Rattle.c_lexer.specs.Bytes.{Text, digits_value, digit_value, is_line_end}
use Rattle.c_lexer.specs.Numbers.{can_hold, first_type}
use Rattle.c_lexer.specs.Scan.{comment_len, closing_quote}

-- a length that is counted from `i` on
abbrev pub shifted : ℕ → Option ℕ → Option ℕ
shifted i None = None
shifted i (Some n) = Some (i + n)

shifted_suc : (i : ℕ) (found : Option ℕ) → shifted i (option_map suc found) ≡ shifted (i + 1) found
shifted_suc i None = refl
shifted_suc i (Some n) = let e : i + suc n ≡ (i + 1) + n = omega arith in ap Some e

pub shifted_none : (found : Option ℕ) → shifted 0 found ≡ found
shifted_none None = refl
shifted_none (Some n) = let e : 0 + n ≡ n = omega arith in ap Some e

-- ---- comments

comment_more : (star : Bool) (b : ℕ) (s : Text) → (star && b == 47) ≡ false → comment_len star (b ∷ s) ≡ option_map suc (comment_len (b == 42) s)
unfolding comment_len
comment_more star b s h = rw h refl

comment_ends : (star : Bool) (b : ℕ) (s : Text) → (star && b == 47) ≡ true → comment_len star (b ∷ s) ≡ Some 1
unfolding comment_len
comment_ends star b s h = rw h refl

pub comment_nil : (star : Bool) → comment_len star [] ≡ None
unfolding comment_len
comment_nil star = refl

pub comment_step : (star : Bool) (i : ℕ) (s : Text) → i < length s → (star && get_or s i 0 == 47) ≡ false →
    shifted (i + 1) (comment_len (get_or s i 0 == 42) (drop (i + 1) s)) ≡ shifted i (comment_len star (drop i s))
comment_step star i s low h =
    sym (ap (λ t. shifted i (comment_len star t)) (drop_more s i 0 low) ∙ ap (shifted i) (comment_more star (get_or s i 0) (drop (i + 1) s) h) ∙ shifted_suc i _)

pub comment_stop : (star : Bool) (i : ℕ) (s : Text) → i < length s → (star && get_or s i 0 == 47) ≡ true → shifted i (comment_len star (drop i s)) ≡ Some (i + 1)
comment_stop star i s low h = ap (λ t. shifted i (comment_len star t)) (drop_more s i 0 low) ∙ ap (shifted i) (comment_ends star (get_or s i 0) (drop (i + 1) s) h)

pub comment_over : (star : Bool) (i : ℕ) (s : Text) → length s ≤ i → shifted i (comment_len star (drop i s)) ≡ None
comment_over star i s h = ap (λ t. shifted i (comment_len star t)) (drop_all i s h) ∙ ap (shifted i) (comment_nil star)

-- ---- the closing quote

closing_more : (quote : ℕ) (escaped : Bool) (b : ℕ) (s : Text) → is_line_end b ≡ false → (not escaped && b == quote) ≡ false →
    closing_quote quote escaped (b ∷ s) ≡ option_map suc (closing_quote quote (not escaped && b == 92) s)
unfolding closing_quote
closing_more quote escaped b s h g = rw (h, g) refl

closing_line : (quote : ℕ) (escaped : Bool) (b : ℕ) (s : Text) → is_line_end b ≡ true → closing_quote quote escaped (b ∷ s) ≡ None
unfolding closing_quote
closing_line quote escaped b s h = rw h refl

closing_here : (quote : ℕ) (escaped : Bool) (b : ℕ) (s : Text) → is_line_end b ≡ false → (not escaped && b == quote) ≡ true → closing_quote quote escaped (b ∷ s) ≡ Some 0
unfolding closing_quote
closing_here quote escaped b s h g = rw (h, g) refl

pub closing_nil : (quote : ℕ) (escaped : Bool) → closing_quote quote escaped [] ≡ None
unfolding closing_quote
closing_nil quote escaped = refl

pub closing_step : (quote : ℕ) (escaped : Bool) (i : ℕ) (s : Text) → i < length s → is_line_end (get_or s i 0) ≡ false → (not escaped && get_or s i 0 == quote) ≡ false →
    shifted (i + 1) (closing_quote quote (not escaped && get_or s i 0 == 92) (drop (i + 1) s)) ≡ shifted i (closing_quote quote escaped (drop i s))
closing_step quote escaped i s low h g =
    sym (ap (λ t. shifted i (closing_quote quote escaped t)) (drop_more s i 0 low) ∙ ap (shifted i) (closing_more quote escaped (get_or s i 0) (drop (i + 1) s) h g) ∙ shifted_suc i _)

pub closing_stop : (quote : ℕ) (escaped : Bool) (i : ℕ) (s : Text) → i < length s → is_line_end (get_or s i 0) ≡ false → (not escaped && get_or s i 0 == quote) ≡ true →
    shifted i (closing_quote quote escaped (drop i s)) ≡ Some i
closing_stop quote escaped i s low h g =
    ap (λ t. shifted i (closing_quote quote escaped t)) (drop_more s i 0 low) ∙ ap (shifted i) (closing_here quote escaped (get_or s i 0) (drop (i + 1) s) h g)
    ∙ ap Some (omega arith)

pub closing_open : (quote : ℕ) (escaped : Bool) (i : ℕ) (s : Text) → i < length s → is_line_end (get_or s i 0) ≡ true → shifted i (closing_quote quote escaped (drop i s)) ≡ None
closing_open quote escaped i s low h =
    ap (λ t. shifted i (closing_quote quote escaped t)) (drop_more s i 0 low) ∙ ap (shifted i) (closing_line quote escaped (get_or s i 0) (drop (i + 1) s) h)

pub closing_over : (quote : ℕ) (escaped : Bool) (i : ℕ) (s : Text) → length s ≤ i → shifted i (closing_quote quote escaped (drop i s)) ≡ None
closing_over quote escaped i s h = ap (λ t. shifted i (closing_quote quote escaped t)) (drop_all i s h) ∙ ap (shifted i) (closing_nil quote escaped)

-- ---- the value of digits

pub valued_more : (base n i : ℕ) (s : Text) → i < length s → digits_value base (n * base + digit_value (get_or s i 0)) (drop (i + 1) s) ≡ digits_value base n (drop i s)
valued_more base n i s low = sym (ap (λ t. digits_value base n t) (drop_more s i 0 low))

pub grows : (base n d : ℕ) → 0 < base → n ≤ n * base + d
grows base n d h = grind arith

pub valued_low : (base n : ℕ) (s : Text) → 0 < base → n ≤ digits_value base n s
valued_low base n [] h = omega arith
valued_low base n (b ∷ s) h =
    let low = grows base n (digit_value b) h in
    let later = valued_low base (n * base + digit_value b) s h in
    omega arith

pub value_over : (base n i : ℕ) (s : Text) → 0 < base → i < length s → digits_value base n (drop i s) ≡ digits_value base 0 s → 2 ^ 64 ≤ n * base + digit_value (get_or s i 0) →
    None ≡ cond (nat_lt (digits_value base 0 s) (2 ^ 64)) (Some (digits_value base 0 s)) None
value_over base n i s some low same high =
    let more = valued_more base n i s low in
    let least = valued_low base (n * base + digit_value (get_or s i 0)) (drop (i + 1) s) some in
    rw (le-ltb (digits_value base 0 s) (2 ^ 64) (omega arith)) refl

pub value_fits : (base n : ℕ) (s : Text) → n ≡ digits_value base 0 s → n < 2 ^ 64 → Some n ≡ cond (nat_lt (digits_value base 0 s) (2 ^ 64)) (Some (digits_value base 0 s)) None
value_fits base n s same low = rw (lt-ltb (digits_value base 0 s) (2 ^ 64) (omega arith)) (ap Some same)

-- ---- the types of a constant

pub type_more : (value i : ℕ) (types : List NumType) (t : NumType) → i < length types → can_hold (get_or types i t) value ≡ false →
    first_type value (drop (i + 1) types) ≡ first_type value (drop i types)
type_more value i types t low h = sym (ap (first_type value) (drop_more types i t low) ∙ rw h refl)

pub type_here : (value i : ℕ) (types : List NumType) (t : NumType) → i < length types → can_hold (get_or types i t) value ≡ true →
    first_type value (drop i types) ≡ Some (get_or types i t)
type_here value i types t low h = ap (first_type value) (drop_more types i t low) ∙ rw h refl
