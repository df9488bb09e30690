-- The constant at the front of a text.
use Rattle.std.proofs.Common.{◌≡◌, ℕ, zero, suc, ◌+◌, ◌<◌, ◌≤◌, Bool, true, false, ◌==◌, inl, inr, [], ◌∷◌, ◌++◌, length, take, drop, Option, Some, None, refl, sym, ap, subst, ◌∙◌, arith, length-append}
use Rattle.std.proofs.lemmas.Bool.{cases_Bool, eqb-true, eqb-false, and_parts}
use Rattle.std.proofs.lemmas.List.{take-append-drop, length-take-le, append_assoc, take_at, drop_at}
use Rattle.std.proofs.lemmas.List.Sums.{prefix_len-le-length}
use Rattle.std.specs.List.{prefix_len}
use Rattle.std.specs.Option.{option_map_or}
use Rattle.c_tokens.specs.Words.{Among}
use Rattle.c_lexer.specs.declared.numbers.Radix.{Radix}
use Rattle.c_lexer.specs.declared.numbers.Radix.TheVariants.{Decimal, Octal, Hexadecimal}
use Rattle.c_lexer.specs.declared.numbers.Suffix.{Suffix}
use Rattle.c_lexer.specs.declared.numbers.Suffix.TheVariants.{Plain}
use Rattle.c_lexer.specs.declared.lexeme.Lexeme.{Lexeme}
use Rattle.c_lexer.specs.Bytes.{Text, Each, first_passes, is_digit, is_octal, is_hexadecimal, is_x, digits_value}
use Rattle.c_lexer.specs.Numbers.{Numeral, decimal, octal, hexadecimal, suffixes, number_lexeme}
use Rattle.c_lexer.specs.Words.{Spells, number}
use Rattle.c_lexer.specs.Scan.{first_match, radix_at, is_hexadecimal_prefix, base_of, is_digit_of, prefix_of, digits_len, suffix_at, number_of, number_at, Piece}
use Rattle.c_lexer.proofs.TableLemmas.{IsMatch, first_is, none_matches, one_entry, begins-front, front-begins, front_same}
use Rattle.c_lexer.proofs.Classes.{run_each, run_front, run_some, suffix_first, is_no_digit, octal_x, octal_digit, digit_hexadecimal}

-- ---- the suffix

suffix_found : (s : Text) → IsMatch suffixes s (suffix_at s).0 (suffix_at s).1
suffix_found s = at_found (first_match suffixes s) refl
  where
    at_found : (found : Option (Suffix × ℕ)) → first_match suffixes s ≡ found →
        IsMatch suffixes s (option_map_or (λ (found : Suffix × ℕ). found) found (Plain, 0)).0 (option_map_or (λ (found : Suffix × ℕ). found) found (Plain, 0)).1
    at_found (Some found) is = first_is suffixes s found.0 found.1 refl is
    at_found None is = absurd (none_matches suffixes s Plain [] is
        (inr (inr (inr (inr (inr (inr (inr (inr (inr (inr (inr (inr (inr (inr (inr (inr (inr (inr (inr (inr (inr (inr (inl (refl, refl)))))))))))))))))))))))) refl)

-- of the suffixes that stand at the front, the one that is found is the longest
suffix_longest : (ending after : Text) (suffix : Suffix) → Among suffixes suffix ending → length ending ≤ (suffix_at (ending ++ after)).1
suffix_longest ending after suffix m =
    let found = suffix_found (ending ++ after) in
    let low = found.longest ending suffix m (begins-front (ending ++ after) ending after refl) in
    let len = found.len in
    omega arith

suffix_same : (ending after : Text) (suffix : Suffix) → Among suffixes suffix ending → length ending ≡ (suffix_at (ending ++ after)).1 → (suffix_at (ending ++ after)).0 ≡ suffix
suffix_same ending after suffix m same =
    let found = suffix_found (ending ++ after) in
    let len = found.len in
    let word : found.word ≡ ending = front_same (ending ++ after) found.word _ ending after (front-begins (ending ++ after) found.word found.sees) refl (omega arith) in
    one_entry suffixes ending _ suffix refl (subst (λ w. Among suffixes (suffix_at (ending ++ after)).0 w) word found.among) m

-- a suffix does not begin with a digit
no_digit : (p : ℕ → Bool) (ending after : Text) (suffix : Suffix) → Among suffixes suffix ending → ((b : ℕ) → p b ≡ true → is_no_digit b ≡ true → ⊥) →
    first_passes p (ending ++ after) ≡ true → ending ≡ []
no_digit p [] after suffix m apart h = refl
no_digit p (b ∷ ending) after suffix m apart h = absurd (apart b h (suffix_first suffix (b ∷ ending) m))

hexadecimal_apart : (b : ℕ) → is_hexadecimal b ≡ true → is_no_digit b ≡ true → ⊥
hexadecimal_apart b h n = let e : is_no_digit b ≡ false = rw h refl in cc

digit_of_apart : (radix : Radix) (b : ℕ) → is_digit_of radix b ≡ true → is_no_digit b ≡ true → ⊥
digit_of_apart Decimal b h n = hexadecimal_apart b (digit_hexadecimal b h) n
digit_of_apart Octal b h n = hexadecimal_apart b (digit_hexadecimal b (octal_digit b h)) n
digit_of_apart Hexadecimal b h n = hexadecimal_apart b h n

x_apart : (b : ℕ) → is_x b ≡ true → is_no_digit b ≡ true → ⊥
x_apart b h n = elim (cases_Bool (is_hexadecimal b)) [
  | inl digit ↦ hexadecimal_apart b digit n
  | inr other ↦ (let e : is_no_digit b ≡ false = rw (other, h) refl in cc)
]

-- ---- digits with a suffix

-- what stands at the front is at least as long, and the same if it is no longer
pub record Reaches (radix : Radix) (t digits ending : Text) (suffix : Suffix) : Type 0 where
  pub high : length digits + length ending ≤ digits_len radix t + (suffix_at (drop (digits_len radix t) t)).1
  pub digits_same : length digits + length ending ≡ digits_len radix t + (suffix_at (drop (digits_len radix t) t)).1 → take (digits_len radix t) t ≡ digits
  pub suffix_same : length digits + length ending ≡ digits_len radix t + (suffix_at (drop (digits_len radix t) t)).1 → (suffix_at (drop (digits_len radix t) t)).0 ≡ suffix

reaches : (radix : Radix) (digits ending after : Text) (suffix : Suffix) → Each (λ b. is_digit_of radix b) digits → Among suffixes suffix ending →
    Reaches radix (digits ++ (ending ++ after)) digits ending suffix
reaches radix digits ending after suffix each m = elim (run_front (λ b. is_digit_of radix b) digits (ending ++ after) each) [
  | inl whole ↦ (
      let rest : drop (digits_len radix (digits ++ (ending ++ after))) (digits ++ (ending ++ after)) ≡ ending ++ after = drop_at digits (ending ++ after) _ whole in
      let front : take (digits_len radix (digits ++ (ending ++ after))) (digits ++ (ending ++ after)) ≡ digits = take_at digits (ending ++ after) _ whole in
      let long = suffix_longest ending after suffix m in
      let lens : (suffix_at (drop (digits_len radix (digits ++ (ending ++ after))) (digits ++ (ending ++ after)))).1 ≡ (suffix_at (ending ++ after)).1 = ap (λ t. (suffix_at t).1) rest in
      record {
        high = omega arith;
        digits_same = λ same. front;
        suffix_same = λ same. ap (λ t. (suffix_at t).0) rest ∙ suffix_same ending after suffix m (omega arith);
      })
  | inr more ↦ (
      let low = more.0 in
      let empty : length ending ≡ 0 = ap length (no_digit (λ b. is_digit_of radix b) ending after suffix m (digit_of_apart radix) more.1) in
      record {
        high = omega arith;
        digits_same = λ same. absurd (omega arith);
        suffix_same = λ same. absurd (omega arith);
      })
]

-- a number at the front: what is found is at least as long, and the same if it is no longer
pub record Numbers (found : Piece) (len : ℕ) (lexeme : Lexeme) : Type 0 where
  pub high : len ≤ found.1
  pub same : len ≡ found.1 → found.0 ≡ lexeme

number_at_is : (radix : Radix) (s t : Text) → radix_at s ≡ radix → drop (prefix_of radix) s ≡ t → number_at s ≡ number_of radix t
unfolding number_at
number_at_is radix s t is later = ap (λ r. number_of r (drop (prefix_of r) s)) is ∙ ap (number_of radix) later

numbers_after : (radix : Radix) (digits ending after : Text) (suffix : Suffix) → Each (λ b. is_digit_of radix b) digits → Among suffixes suffix ending →
    Numbers (number_of radix (digits ++ (ending ++ after))) (prefix_of radix + length digits + length ending) (number_lexeme radix suffix (digits_value (base_of radix) 0 digits))
unfolding number_of
numbers_after radix digits ending after suffix each m =
    let r = reaches radix digits ending after suffix each m in
    let high = r.high in
    record {
      high = omega arith;
      same = λ same. ap (λ t. number_lexeme radix t (digits_value (base_of radix) 0 (take (digits_len radix (digits ++ (ending ++ after))) (digits ++ (ending ++ after))))) (r.suffix_same (omega arith))
          ∙ ap (λ t. number_lexeme radix suffix (digits_value (base_of radix) 0 t)) (r.digits_same (omega arith));
    }

numbers_of : (radix : Radix) (s prefix digits ending after : Text) (suffix : Suffix) → s ≡ prefix ++ (digits ++ (ending ++ after)) → length prefix ≡ prefix_of radix → radix_at s ≡ radix →
    Each (λ b. is_digit_of radix b) digits → Among suffixes suffix ending →
    Numbers (number_at s) (prefix_of radix + length digits + length ending) (number_lexeme radix suffix (digits_value (base_of radix) 0 digits))
numbers_of radix s prefix digits ending after suffix text len is each m =
    let later : drop (prefix_of radix) s ≡ digits ++ (ending ++ after) = ap (drop (prefix_of radix)) text ∙ drop_at prefix (digits ++ (ending ++ after)) (prefix_of radix) len in
    subst (λ p. Numbers p (prefix_of radix + length digits + length ending) (number_lexeme radix suffix (digits_value (base_of radix) 0 digits)))
    (sym (number_at_is radix s (digits ++ (ending ++ after)) is later)) (numbers_after radix digits ending after suffix each m)

zero_digit : (b : ℕ) → (b ≡ 48 → ⊥) → (b == 48) ≡ false
zero_digit b h = elim (cases_Bool (b == 48)) [ inl is ↦ absurd (h (eqb-true b 48 is)) | inr no_zero ↦ no_zero ]

long_of : (t : Text) → 1 < (number_of Hexadecimal t).1
unfolding number_of
long_of t = omega arith

-- a hexadecimal constant begins here
prefix_length : (s : Text) → is_hexadecimal_prefix s ≡ true → 1 < (number_at (48 ∷ s)).1
prefix_length s h =
    let is : radix_at (48 ∷ s) ≡ Hexadecimal = rw h refl in
    subst (λ (p : Piece). 1 < p.1) (sym (number_at_is Hexadecimal (48 ∷ s) _ is refl)) (long_of _)

pub number_covers : (digits ending after : Text) (radix : Radix) (value : ℕ) (suffix : Suffix) → Numeral digits radix value → Among suffixes suffix ending →
    Numbers (number_at ((digits ++ ending) ++ after)) (length (digits ++ ending)) (number_lexeme radix suffix value)
number_covers digits ending after radix value suffix (decimal {b = b} {s = s} d z each) m =
    let text : ((b ∷ s) ++ ending) ++ after ≡ [] ++ ((b ∷ s) ++ (ending ++ after)) = append_assoc (b ∷ s) ending after in
    let len : 0 + length (b ∷ s) + length ending ≡ length ((b ∷ s) ++ ending) = omega (arith, length-append (b ∷ s) ending) in
    subst (λ n. Numbers (number_at (((b ∷ s) ++ ending) ++ after)) n (number_lexeme Decimal suffix (digits_value 10 0 (b ∷ s)))) len
    (numbers_of Decimal (((b ∷ s) ++ ending) ++ after) [] (b ∷ s) ending after suffix text refl (rw (zero_digit b z) refl) (d, each) m)
number_covers digits ending after radix value suffix (octal {s = s} each) m = elim (cases_Bool (is_hexadecimal_prefix ((s ++ ending) ++ after))) [
  | inl prefix ↦ (
      let high = prefix_length ((s ++ ending) ++ after) prefix in
      let x = (and_parts (first_passes is_x ((s ++ ending) ++ after)) _ prefix).0 in
      let alone : length (48 ∷ s ++ ending) ≡ 1 = one s each x in
      record { high = omega arith; same = λ same. absurd (omega arith) })
  | inr other ↦ (
      let text : 48 ∷ (s ++ ending) ++ after ≡ [] ++ ((48 ∷ s) ++ (ending ++ after)) = append_assoc (48 ∷ s) ending after in
      let len : 0 + length (48 ∷ s) + length ending ≡ length (48 ∷ s ++ ending) = omega (arith, length-append (48 ∷ s) ending) in
      subst (λ n. Numbers (number_at (48 ∷ (s ++ ending) ++ after)) n (number_lexeme Octal suffix (digits_value 8 0 (48 ∷ s)))) len
      (numbers_of Octal (48 ∷ (s ++ ending) ++ after) [] (48 ∷ s) ending after suffix text refl (rw other refl) (refl, each) m))
]
  where
    one : (s : Text) → Each is_octal s → first_passes is_x ((s ++ ending) ++ after) ≡ true → length (48 ∷ s ++ ending) ≡ 1
    one [] each x = ap (λ t. length (48 ∷ t)) (no_digit is_x ending after suffix m x_apart x)
    one (b ∷ s) each x = absurd (octal_x b each.0 x)
number_covers digits ending after radix value suffix (hexadecimal {x = x} {b = b} {s = s} f d each) m =
    let text : (48 ∷ x ∷ b ∷ s ++ ending) ++ after ≡ (48 ∷ x ∷ []) ++ ((b ∷ s) ++ (ending ++ after)) = ap (λ t. 48 ∷ x ∷ t) (append_assoc (b ∷ s) ending after) in
    let len : 2 + length (b ∷ s) + length ending ≡ length (48 ∷ x ∷ b ∷ s ++ ending) = omega (arith, length-append (48 ∷ x ∷ b ∷ s) ending) in
    subst (λ n. Numbers (number_at ((48 ∷ x ∷ b ∷ s ++ ending) ++ after)) n (number_lexeme Hexadecimal suffix (digits_value 16 0 (b ∷ s)))) len
    (numbers_of Hexadecimal ((48 ∷ x ∷ b ∷ s ++ ending) ++ after) (48 ∷ x ∷ []) (b ∷ s) ending after suffix text refl (rw (f, d) refl) (d, each) m)

-- ---- what is found is a constant

pub record IsPiece (s : Text) (p : Piece) : Type 0 where
  pub within : p.1 ≤ length s
  pub some : 0 < p.1
  pub spells : Spells (take p.1 s) p.0

number_after : (radix : Radix) (prefix t : Text) → length prefix ≡ prefix_of radix → 0 < digits_len radix t →
    Numeral (prefix ++ take (digits_len radix t) t) radix (digits_value (base_of radix) 0 (take (digits_len radix t) t)) → IsPiece (prefix ++ t) (number_of radix t)
unfolding number_of
number_after radix prefix t len some numeral =
    let found = suffix_found (drop (digits_len radix t) t) in
    let long = found.len in
    let rest : drop (digits_len radix t) t ≡ found.word ++ drop (length found.word) (drop (digits_len radix t) t) = front-begins (drop (digits_len radix t) t) found.word found.sees in
    let most : digits_len radix t ≤ length t = prefix_len-le-length (λ b. is_digit_of radix b) t in
    let taken : length (take (digits_len radix t) t) ≡ digits_len radix t = length-take-le (digits_len radix t) t most in
    let whole : prefix ++ t ≡ ((prefix ++ take (digits_len radix t) t) ++ found.word) ++ drop (length found.word) (drop (digits_len radix t) t) =
    ap (λ u. prefix ++ u) (sym (take-append-drop (digits_len radix t) t) ∙ ap (λ u. take (digits_len radix t) t ++ u) rest)
    ∙ sym (append_assoc prefix (take (digits_len radix t) t) (found.word ++ drop (length found.word) (drop (digits_len radix t) t)))
    ∙ sym (append_assoc (prefix ++ take (digits_len radix t) t) found.word (drop (length found.word) (drop (digits_len radix t) t))) in
    let one : length (prefix ++ take (digits_len radix t) t) ≡ length prefix + length (take (digits_len radix t) t) = length-append prefix (take (digits_len radix t) t) in
    let two : length ((prefix ++ take (digits_len radix t) t) ++ found.word) ≡ length (prefix ++ take (digits_len radix t) t) + length found.word = length-append (prefix ++ take (digits_len radix t) t) found.word in
    let total : length ((prefix ++ take (digits_len radix t) t) ++ found.word) ≡ prefix_of radix + digits_len radix t + (suffix_at (drop (digits_len radix t) t)).1 = omega arith in
    let all : length (prefix ++ t) ≡ length ((prefix ++ take (digits_len radix t) t) ++ found.word) + length (drop (length found.word) (drop (digits_len radix t) t)) =
    ap length whole ∙ length-append ((prefix ++ take (digits_len radix t) t) ++ found.word) (drop (length found.word) (drop (digits_len radix t) t)) in
    let front : take (prefix_of radix + digits_len radix t + (suffix_at (drop (digits_len radix t) t)).1) (prefix ++ t) ≡ (prefix ++ take (digits_len radix t) t) ++ found.word =
    ap (take (prefix_of radix + digits_len radix t + (suffix_at (drop (digits_len radix t) t)).1)) whole
    ∙ take_at ((prefix ++ take (digits_len radix t) t) ++ found.word) (drop (length found.word) (drop (digits_len radix t) t)) _ total in
    record {
      within = omega arith;
      some = omega arith;
      spells = subst (λ w. Spells w (number_lexeme radix (suffix_at (drop (digits_len radix t) t)).0 (digits_value (base_of radix) 0 (take (digits_len radix t) t)))) (sym front)
          (number (suffix_at (drop (digits_len radix t) t)).0 found.word numeral found.among);
    }

run_taken : (p : ℕ → Bool) (n : ℕ) (s : Text) → n ≡ prefix_len p s → Each p (take n s)
run_taken p n s is = subst (λ n. Each p (take n s)) (sym is) (run_each p s)

hexadecimal_numeral : (x b n : ℕ) (s : Text) → is_x x ≡ true → 0 < n → n ≡ digits_len Hexadecimal (b ∷ s) →
    Numeral ((48 ∷ x ∷ []) ++ take n (b ∷ s)) Hexadecimal (digits_value 16 0 (take n (b ∷ s)))
hexadecimal_numeral x b zero s f some is = absurd (omega arith)
hexadecimal_numeral x b (suc n) s f some is = let each = run_taken is_hexadecimal (suc n) (b ∷ s) is in hexadecimal f each.0 each.1

octal_numeral : (n : ℕ) (s : Text) → 0 < n → n ≡ digits_len Octal (48 ∷ s) → Numeral ([] ++ take n (48 ∷ s)) Octal (digits_value 8 0 (take n (48 ∷ s)))
octal_numeral zero s some is = absurd (omega arith)
octal_numeral (suc n) s some is = let each = run_taken is_octal (suc n) (48 ∷ s) is in octal each.1

decimal_numeral : (b n : ℕ) (s : Text) → (b == 48) ≡ false → 0 < n → n ≡ digits_len Decimal (b ∷ s) → Numeral ([] ++ take n (b ∷ s)) Decimal (digits_value 10 0 (take n (b ∷ s)))
decimal_numeral b zero s other some is = absurd (omega arith)
decimal_numeral b (suc n) s other some is = let each = run_taken is_digit (suc n) (b ∷ s) is in decimal each.0 (eqb-false b 48 other) each.1

number_with_prefix : (s : Text) → is_hexadecimal_prefix s ≡ true → IsPiece (48 ∷ s) (number_at (48 ∷ s))
number_with_prefix [] h = absurd cc
number_with_prefix (x ∷ []) h = absurd (let no = (and_parts (is_x x) false h).1 in cc)
number_with_prefix (x ∷ b ∷ s) h =
    let (f, d) = and_parts (is_x x) (is_hexadecimal b) h in
    let some : 0 < digits_len Hexadecimal (b ∷ s) = run_some is_hexadecimal (b ∷ s) d in
    let is : radix_at (48 ∷ x ∷ b ∷ s) ≡ Hexadecimal = rw h refl in
    subst (λ p. IsPiece (48 ∷ x ∷ b ∷ s) p) (sym (number_at_is Hexadecimal (48 ∷ x ∷ b ∷ s) (b ∷ s) is refl))
    (number_after Hexadecimal (48 ∷ x ∷ []) (b ∷ s) refl some (hexadecimal_numeral x b (digits_len Hexadecimal (b ∷ s)) s f some refl))

number_from_zero : (s : Text) → is_hexadecimal_prefix s ≡ false → IsPiece (48 ∷ s) (number_at (48 ∷ s))
number_from_zero s h =
    let some : 0 < digits_len Octal (48 ∷ s) = run_some is_octal (48 ∷ s) refl in
    let is : radix_at (48 ∷ s) ≡ Octal = rw h refl in
    subst (λ p. IsPiece (48 ∷ s) p) (sym (number_at_is Octal (48 ∷ s) (48 ∷ s) is refl))
    (number_after Octal [] (48 ∷ s) refl some (octal_numeral (digits_len Octal (48 ∷ s)) s some refl))

number_from_digit : (b : ℕ) (s : Text) → (b == 48) ≡ false → is_digit b ≡ true → IsPiece (b ∷ s) (number_at (b ∷ s))
number_from_digit b s h d =
    let some : 0 < digits_len Decimal (b ∷ s) = run_some is_digit (b ∷ s) d in
    let is : radix_at (b ∷ s) ≡ Decimal = rw h refl in
    subst (λ p. IsPiece (b ∷ s) p) (sym (number_at_is Decimal (b ∷ s) (b ∷ s) is refl))
    (number_after Decimal [] (b ∷ s) refl some (decimal_numeral b (digits_len Decimal (b ∷ s)) s h some refl))

pub number_is : (s : Text) → first_passes is_digit s ≡ true → IsPiece s (number_at s)
number_is [] h = absurd cc
number_is (b ∷ s) h = elim (cases_Bool (b == 48)) [
  | inl zero_first ↦ subst (λ b. IsPiece (b ∷ s) (number_at (b ∷ s))) (sym (eqb-true b 48 zero_first)) (elim (cases_Bool (is_hexadecimal_prefix s)) [
    | inl prefix ↦ number_with_prefix s prefix
    | inr other ↦ number_from_zero s other
  ])
  | inr other ↦ number_from_digit b s other h
]

-- what the parts that are found make
pub number_result : (s t : Text) (radix : Radix) (prefix digits : ℕ) (ending : Suffix × ℕ) (lexeme : Lexeme) → radix ≡ radix_at s → prefix ≡ prefix_of radix → t ≡ drop prefix s → digits ≡ digits_len radix t →
    ending ≡ suffix_at (drop digits t) → lexeme ≡ number_lexeme radix ending.0 (digits_value (base_of radix) 0 (take digits t)) → ◌≡◌ {A = Piece} (lexeme, prefix + digits + ending.1) (number_at s)
unfolding number_of
number_result s t radix prefix digits ending lexeme is_radix is_prefix is_rest is_digits is_ending is_lexeme =
    ap (λ l. (l, prefix + digits + ending.1)) is_lexeme
    ∙ ap (λ k. (number_lexeme radix ending.0 (digits_value (base_of radix) 0 (take digits t)), k + digits + ending.1)) is_prefix
    ∙ ap (λ (e : Suffix × ℕ). (number_lexeme radix e.0 (digits_value (base_of radix) 0 (take digits t)), prefix_of radix + digits + e.1)) is_ending
    ∙ ap (λ d. (number_lexeme radix (suffix_at (drop d t)).0 (digits_value (base_of radix) 0 (take d t)), prefix_of radix + d + (suffix_at (drop d t)).1)) is_digits
    ∙ sym (number_at_is radix s t (sym is_radix) (ap (λ k. drop k s) (sym is_prefix) ∙ sym is_rest))
