-- What kinds of bytes there are.
use Rattle.std.proofs.Common.{◌≡◌, ◌≢◌, ℕ, ◌+◌, ◌*◌, ◌/◌, ◌%◌, ◌≤◌, Bool, true, false, [], ◌∷◌, ◌++◌, inl, inr, refl, sym, ap, subst, ◌∙◌, arith}
use Rattle.std.specs.Prelude.{◌&&◌, ◌==◌, nat_le, if◌then◌else◌, decimal}
use Rattle.std.proofs.lemmas.Bool.Decides.{eqb_tells, leb_tells}
use Rattle.std.proofs.lemmas.Fmt.{decimal_digit, decimal_step}
use Rattle.c_print.specs.declared.machine.Kind.{Kind}
use Rattle.c_print.specs.declared.machine.Kind.TheVariants as kind
use Rattle.c_print.specs.declared.parts.Letter.TheVariants.{C}
use Rattle.c_print.specs.Formats.{letter_byte, width_bytes}
use Rattle.c_print.specs.Machine.{kind_of, letter_kind, whole_kind}

-- the byte of a kind
abbrev pub byte_of : Kind → ℕ → ℕ
byte_of kind.Percent b = 37
byte_of kind.Minus b = 45
byte_of kind.Zero b = 48
byte_of (kind.Digit d) b = 48 + d
byte_of kind.Ell b = 108
byte_of kind.Zed b = 122
byte_of (kind.Whole letter) b = letter_byte letter
byte_of kind.Byte b = 99
byte_of kind.Str b = 115
byte_of kind.Other b = b

abbrev pub IsKind : Kind → ℕ → Type 0
IsKind (kind.Digit d) b = (1 ≤ d) × (d ≤ 9)
IsKind (kind.Whole letter) b = letter ≢ C
IsKind kind.Other b = b ≢ 37
IsKind _ b = Unit {0}

pub record HasKind (b : ℕ) (k : Kind) : Type 0 where
  pub same : b ≡ byte_of k b
  pub is : IsKind k b

-- by cases on a test
pub split : {A : Type 0} (P : A → Type 0) (x k : ℕ) (a c : A) → (x ≡ k → P a) → ((x ≡ k → ⊥) → P c) →
    P (if x == k then a else c)
split P x k a c here other = elim (eqb_tells x k) [
  | inl y ↦ subst (λ (t : Bool). P (if t then a else c)) (sym y.0) (here y.1)
  | inr n ↦ subst (λ (t : Bool). P (if t then a else c)) (sym n.0) (other n.1)
]

by_tests : {A : Type 0} (P : A → Type 0) (r t s u : Bool) (a c : A) → r ≡ s → t ≡ u → P (if s && u then a else c) →
    P (if r && t then a else c)
by_tests P r t s u a c e f h =
    subst (λ (v : Bool). P (if v && t then a else c)) (sym e)
    (subst (λ (v : Bool). P (if s && v then a else c)) (sym f) h)

split_digit : {A : Type 0} (P : A → Type 0) (x : ℕ) (a c : A) → (49 ≤ x → x ≤ 57 → P a) →
    ((49 ≤ x → x ≤ 57 → ⊥) → P c) →
    P (if nat_le 49 x && nat_le x 57 then a else c)
split_digit P x a c here other = elim (leb_tells 49 x) [
  | inl low ↦ elim (leb_tells x 57) [
    | inl high ↦ by_tests P _ _ true true a c low.0 high.0 (here low.1 high.1)
    | inr over ↦ by_tests P _ _ true false a c low.0 over.0 (other (λ _ h. absurd (omega (arith, over.1))))
  ]
  | inr under ↦ by_tests P _ (nat_le x 57) false (nat_le x 57) a c under.0 refl
      (other (λ h _. absurd (omega (arith, under.1))))
]

whole_kinds : (b : ℕ) → (b ≡ 37 → ⊥) → HasKind b (whole_kind b)
unfolding whole_kind
whole_kinds b ne =
    split (HasKind b) b 100 _ _ (λ e. record { same = e; is = λ f. cc }) (λ _.
    split (HasKind b) b 105 _ _ (λ e. record { same = e; is = λ f. cc }) (λ _.
    split (HasKind b) b 117 _ _ (λ e. record { same = e; is = λ f. cc }) (λ _.
    split (HasKind b) b 120 _ _ (λ e. record { same = e; is = λ f. cc }) (λ _. record { same = refl; is = ne }))))

letter_kinds : (b : ℕ) → (b ≡ 37 → ⊥) → HasKind b (letter_kind b)
unfolding letter_kind
letter_kinds b ne =
    split (HasKind b) b 108 _ _ (λ e. record { same = e; is = tt }) (λ _.
    split (HasKind b) b 122 _ _ (λ e. record { same = e; is = tt }) (λ _.
    split (HasKind b) b 99 _ _ (λ e. record { same = e; is = tt }) (λ _.
    split (HasKind b) b 115 _ _ (λ e. record { same = e; is = tt }) (λ _. whole_kinds b ne))))

pub kinds : (b : ℕ) → HasKind b (kind_of b)
unfolding kind_of
kinds b =
    split (HasKind b) b 37 _ _ (λ e. record { same = e; is = tt }) (λ ne.
    split (HasKind b) b 45 _ _ (λ e. record { same = e; is = tt }) (λ _.
    split (HasKind b) b 48 _ _ (λ e. record { same = e; is = tt }) (λ _.
    split_digit (HasKind b) b _ _ (λ low high. record { same = omega arith; is = (omega arith, omega arith) })
    (λ _. letter_kinds b ne))))

-- ---- digits

pub kind_of-digit : (d : ℕ) → 1 ≤ d → d ≤ 9 → kind_of (48 + d) ≡ kind.Digit d
unfolding kind_of
kind_of-digit d low high =
    split (λ k. k ≡ kind.Digit d) (48 + d) 37 _ _ (λ e. absurd (omega arith)) (λ _.
    split (λ k. k ≡ kind.Digit d) (48 + d) 45 _ _ (λ e. absurd (omega arith)) (λ _.
    split (λ k. k ≡ kind.Digit d) (48 + d) 48 _ _ (λ e. absurd (omega arith)) (λ _.
    split_digit (λ k. k ≡ kind.Digit d) (48 + d) _ _ (λ _ _. ap kind.Digit (omega arith))
    (λ none. absurd (none (omega arith) (omega arith))))))

pub width_bytes-digit : (d : ℕ) → 1 ≤ d → d ≤ 9 → width_bytes d ≡ (48 + d) ∷ []
width_bytes-digit d low high =
    split (λ bs. bs ≡ (48 + d) ∷ []) d 0 [] (decimal d) (λ e. absurd (omega arith)) (λ _. decimal_digit d (omega arith))

pub width_bytes-digits : (d e : ℕ) → 1 ≤ d → d ≤ 9 → e ≤ 9 → width_bytes (10 * d + e) ≡ (48 + d) ∷ (48 + e) ∷ []
width_bytes-digits d e low high small =
    let n = 10 * d + e in
    let front : n / 10 ≡ d = omega arith in
    let last : n % 10 ≡ e = omega arith in
    split (λ bs. bs ≡ (48 + d) ∷ (48 + e) ∷ []) n 0 [] (decimal n) (λ none. absurd (omega arith)) (λ _.
    decimal_step n (omega arith) (omega arith) ∙ ap (λ (q : ℕ). decimal q ++ (48 + n % 10) ∷ []) front
    ∙ ap (λ (r : ℕ). decimal d ++ (48 + r) ∷ []) last ∙ ap (λ ds. ds ++ (48 + e) ∷ []) (decimal_digit d (omega arith)))
