-- Classes of bytes are apart, and what the tables' words are made of.
use Rattle.std.proofs.Common.{◌≡◌, ℕ, suc, ◌+◌, ◌<◌, ◌≤◌, Bool, true, false, not, ◌&&◌, ◌||◌, ◌==◌, ◌⊎◌, inl, inr, List, [], ◌∷◌, ◌++◌, length, take, drop, refl, sym, ap, subst, arith, cond}
use Rattle.std.proofs.lemmas.Bool.{cases_Bool, eqb-true}
use Rattle.std.proofs.lemmas.Bool.Decides.{nat_tests}
use Rattle.std.proofs.Math.Numerals.{one-add}
use Rattle.std.specs.List.{prefix_len}
use Rattle.c_tokens.specs.declared.kind.Keyword.{Keyword}
use Rattle.c_tokens.specs.declared.kind.Mark.{Mark}
use Rattle.c_tokens.specs.Words.{keywords, marks, Among}
use Rattle.c_lexer.specs.declared.numbers.Suffix.{Suffix}
use Rattle.c_lexer.specs.Bytes.{Text, Each, first_passes, is_letter, is_digit, is_octal, is_hexadecimal, is_word, is_blank, is_line_end, is_quote, is_x}
use Rattle.c_lexer.specs.Numbers.{suffixes}
use Rattle.c_lexer.proofs.TableLemmas.{both}

-- ---- runs of bytes

pub run_each : (p : ℕ → Bool) (s : Text) → Each p (take (prefix_len p s) s)
run_each p [] = tt
run_each p (b ∷ s) = elim (p b) as (λ v. p b ≡ v → Each p (take (cond v (1 + prefix_len p s) 0) (b ∷ s))) [
  | true ↦ (λ is. rw (one-add (prefix_len p s)) (is, run_each p s))
  | false ↦ (λ is. tt)
] refl

-- where a run ends, no byte of it follows
pub run_stops : (p : ℕ → Bool) (s : Text) → first_passes p (drop (prefix_len p s) s) ≡ false
run_stops p [] = refl
run_stops p (b ∷ s) = elim (p b) as (λ v. p b ≡ v → first_passes p (drop (cond v (1 + prefix_len p s) 0) (b ∷ s)) ≡ false) [
  | true ↦ (λ is. rw (one-add (prefix_len p s)) (run_stops p s))
  | false ↦ (λ is. is)
] refl

-- bytes that pass are within the run; if they are not the whole of it, one of it follows
pub run_front : (p : ℕ → Bool) (word rest : Text) → Each p word →
    (length word ≡ prefix_len p (word ++ rest)) ⊎ ((length word < prefix_len p (word ++ rest)) × (first_passes p rest ≡ true))
run_front p [] rest each = elim (p_first rest) [ inl none ↦ inl (sym none) | inr some ↦ inr some ]
  where
    p_first : (rest : Text) → (prefix_len p rest ≡ 0) ⊎ ((0 < prefix_len p rest) × (first_passes p rest ≡ true))
    p_first [] = inl refl
    p_first (b ∷ s) = elim (cases_Bool (p b)) [
      | inl yes_passes ↦ inr (rw yes_passes (omega arith), yes_passes)
      | inr no_passes ↦ inl (rw no_passes refl)
    ]
run_front p (b ∷ word) rest each = elim (run_front p word rest each.1) [
  | inl same ↦ inl (rw (each.0, one-add (prefix_len p (word ++ rest))) (ap suc same))
  | inr more ↦ inr (rw each.0 (let low = more.0 in omega arith), more.1)
]

pub run_longest : (p : ℕ → Bool) (word rest : Text) → Each p word → length word ≤ prefix_len p (word ++ rest)
run_longest p word rest each = elim (run_front p word rest each) [ inl same ↦ omega arith | inr more ↦ (let low = more.0 in omega arith) ]

-- a run that does not stop before the rest is the whole word
pub run_whole : (p : ℕ → Bool) (word rest : Text) → Each p word → first_passes p rest ≡ false → prefix_len p (word ++ rest) ≡ length word
run_whole p word rest each stops = elim (run_front p word rest each) [ inl same ↦ sym same | inr more ↦ (let on = more.1 in absurd cc) ]

pub run_some : (p : ℕ → Bool) (s : Text) → first_passes p s ≡ true → 0 < prefix_len p s
run_some p [] h = absurd cc
run_some p (b ∷ s) h = rw h (omega arith)

-- ---- what the tables' words are made of

abbrev pub all_pass : (ℕ → Bool) → Text → Bool
all_pass p [] = true
all_pass p (b ∷ s) = p b && all_pass p s

abbrev pub each_word : {K : Type 0} → (Text → Bool) → List (K × Text) → Bool
each_word p [] = true
each_word p (e ∷ table) = p e.1 && each_word p table

word_passes : {K : Type 0} (p : Text → Bool) (table : List (K × Text)) (entry : K) (word : Text) → each_word p table ≡ true → Among table entry word → p word ≡ true
word_passes p [] entry word h m = elim m [ ]
word_passes p (e ∷ table) entry word h m =
    let (a, b) = both (p e.1) (each_word p table) h in
    elim m [ inl is ↦ subst (λ w. p w ≡ true) is.1 a | inr later ↦ word_passes p table entry word b later ]

all_each : (p : ℕ → Bool) (s : Text) → all_pass p s ≡ true → Each p s
all_each p [] h = tt
all_each p (b ∷ s) h = let (x, y) = both (p b) (all_pass p s) h in (x, all_each p s y)

-- neither a letter nor a digit nor a quote nor white space
abbrev pub is_sign : ℕ → Bool
is_sign b = not (is_letter b || is_digit b || is_quote b || is_blank b || is_line_end b)

pub keyword_first : (entry : Keyword) (word : Text) → Among keywords entry word → first_passes is_letter word ≡ true
keyword_first entry word m = word_passes (first_passes is_letter) keywords entry word refl m

pub keyword_each : (entry : Keyword) (word : Text) → Among keywords entry word → Each is_word word
keyword_each entry word m = all_each is_word word (word_passes (all_pass is_word) keywords entry word refl m)

pub mark_first : (entry : Mark) (word : Text) → Among marks entry word → first_passes is_sign word ≡ true
mark_first entry word m = word_passes (first_passes is_sign) marks entry word refl m

-- no letter of a suffix is a digit, or begins the digits of a hexadecimal constant
abbrev pub is_no_digit : ℕ → Bool
is_no_digit b = not (is_hexadecimal b) && not (is_x b)

abbrev pub suffix_apart : Text → Bool
suffix_apart [] = true
suffix_apart (b ∷ s) = is_no_digit b

pub suffix_first : (entry : Suffix) (word : Text) → Among suffixes entry word → suffix_apart word ≡ true
suffix_first entry word m = word_passes suffix_apart suffixes entry word refl m

-- ---- the classes of bytes are apart

pub letter_digit : (b : ℕ) → is_letter b ≡ true → is_digit b ≡ true → ⊥
letter_digit b l d = grind (arith, nat_tests)

pub no_letter : (b : ℕ) → is_digit b ≡ true → is_letter b ≡ false
no_letter b d = grind (arith, nat_tests)

pub octal_digit : (b : ℕ) → is_octal b ≡ true → is_digit b ≡ true
octal_digit b h = grind (arith, nat_tests)

pub octal_x : (b : ℕ) → is_octal b ≡ true → is_x b ≡ true → ⊥
octal_x b h x = grind (arith, nat_tests)

pub digit_hexadecimal : (b : ℕ) → is_digit b ≡ true → is_hexadecimal b ≡ true
digit_hexadecimal b h = rw h refl

-- what is neither a letter, a digit, a quote nor a blank
pub record IsSign (b : ℕ) : Type 0 where
  pub letter : is_letter b ≡ false
  pub digit : is_digit b ≡ false
  pub quote : is_quote b ≡ false
  pub blank : is_blank b ≡ false
  pub line : is_line_end b ≡ false

pub sign_apart : (b : ℕ) → is_sign b ≡ true → IsSign b
sign_apart b h = at_tests (is_letter b) (is_digit b) (is_quote b) (is_blank b) (is_line_end b) refl refl refl refl refl h
  where
    at_tests : (l d q w e : Bool) → is_letter b ≡ l → is_digit b ≡ d → is_quote b ≡ q → is_blank b ≡ w → is_line_end b ≡ e → not (l || d || q || w || e) ≡ true → IsSign b
    at_tests false false false false false x1 x2 x3 x4 x5 h = record { letter = x1; digit = x2; quote = x3; blank = x4; line = x5 }
    at_tests true d q w e x1 x2 x3 x4 x5 h = absurd cc
    at_tests false true q w e x1 x2 x3 x4 x5 h = absurd cc
    at_tests false false true w e x1 x2 x3 x4 x5 h = absurd cc
    at_tests false false false true e x1 x2 x3 x4 x5 h = absurd cc
    at_tests false false false false true x1 x2 x3 x4 x5 h = absurd cc

pub quote_is : (b : ℕ) → is_quote b ≡ true → (b ≡ 34) ⊎ (b ≡ 39)
quote_is b h = elim (cases_Bool (b == 34)) [
  | inl double ↦ inl (eqb-true b 34 double)
  | inr other ↦ inr (eqb-true b 39 (rw other at h))
]

pub record IsBlank (b : ℕ) : Type 0 where
  pub letter : is_letter b ≡ false
  pub digit : is_digit b ≡ false
  pub quote : is_quote b ≡ false
  pub line : is_line_end b ≡ false

pub blank_apart : (b : ℕ) → is_blank b ≡ true → IsBlank b
blank_apart b h = elim (cases_Bool (b == 32)) [
  | inl is ↦ (let e = eqb-true b 32 is in rw e (record { letter = refl; digit = refl; quote = refl; line = refl }))
  | inr a ↦ elim (cases_Bool (b == 9)) [
    | inl is ↦ (let e = eqb-true b 9 is in rw e (record { letter = refl; digit = refl; quote = refl; line = refl }))
    | inr c ↦ elim (cases_Bool (b == 11)) [
      | inl is ↦ (let e = eqb-true b 11 is in rw e (record { letter = refl; digit = refl; quote = refl; line = refl }))
      | inr d ↦ (let e = eqb-true b 12 (rw (a, c, d) at h) in rw e (record { letter = refl; digit = refl; quote = refl; line = refl }))
    ]
  ]
]

pub front_first : (p : ℕ → Bool) (word after : Text) → first_passes p word ≡ true → first_passes p (word ++ after) ≡ true
front_first p [] after h = absurd cc
front_first p (b ∷ word) after h = h

pub not_empty : (p : ℕ → Bool) (word : Text) → first_passes p word ≡ true → 0 < length word
not_empty p [] h = absurd cc
not_empty p (b ∷ word) h = omega arith

pub chosen : {A : Type 0} (b : Bool) (x y z : A) → cond b x y ≡ z → ((b ≡ true) × (x ≡ z)) ⊎ ((b ≡ false) × (y ≡ z))
chosen true x y z h = inl (refl, h)
chosen false x y z h = inr (refl, h)
