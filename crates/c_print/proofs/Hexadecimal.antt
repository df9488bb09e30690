-- Digits that are written from the last to the first.
use Rattle.std.proofs.Common.{◌≡◌, ℕ, zero, suc, ◌+◌, ◌-◌, ◌*◌, ◌/◌, ◌%◌, ◌^◌, ◌<◌, ◌≤◌, false, List, ◌∷◌, length, drop, drop-cons, get_or-set_same, length-set, drop_of_length-le, refl, sym, ap, ◌∙◌, arith}
use Rattle.std.specs.Prelude.{slice_set}
use Rattle.std.specs.Fmt.{digits, digits_onto, digit_glyph}
use Rattle.std.proofs.Math.Nat.{pow-suc}
use Rattle.std.proofs.lemmas.List.{drop-set-lt}
use Rattle.c_print.proofs.ByteKinds.{split}

pub begins : (n : ℕ) (out : List ℕ) → length out ≡ 16 → digits_onto 64 16 false n (drop 16 out) ≡ digits 16 false n
unfolding digits
begins n out all = ap (digits_onto 64 16 false n) (drop_of_length-le out {i = 16} (omega arith))

-- there is room for what is left
pub room : (start rest : ℕ) → rest < 16 ^ (start + 1) → 16 ≤ rest → (1 ≤ start) × (rest / 16 < 16 ^ (start - 1 + 1))
room zero rest small large = absurd (omega arith)
room (suc k) rest small large =
    let power : 16 ^ (suc k + 1) ≡ 16 ^ (suc k - 1 + 1) * 16 =
    ap (λ (e : ℕ). 16 ^ e) {x = suc k + 1} {y = suc (suc k - 1 + 1)} (omega arith) ∙ pow-suc 16 (suc k - 1 + 1) in
    (omega arith, omega arith)

pub written : (out : List ℕ) (start x g : ℕ) → start < length out → x ≡ g →
    drop start (slice_set out start x) ≡ g ∷ drop (start + 1) out
written out start x g lt same =
    let more : suc start ≡ start + 1 = omega arith in
    drop-cons (slice_set out start x) start 0 (omega (arith, length-set out start x))
    ∙ ap (λ (y : ℕ). y ∷ drop (suc start) (slice_set out start x)) (get_or-set_same out start x 0 lt ∙ same)
    ∙ ap (λ ds. g ∷ ds) (drop-set-lt (suc start) out start x (omega arith) ∙ ap (λ (m : ℕ). drop m out) more)

last_digit : (n : ℕ) (acc : List ℕ) (i : ℕ) → 0 < i → n / 16 ≡ 0 →
    digits_onto i 16 false n acc ≡ digit_glyph false (n % 16) ∷ acc
last_digit n acc zero some none = absurd (omega arith)
last_digit n acc (suc k) some none =
    split (λ ds. ds ≡ digit_glyph false (n % 16) ∷ acc) (n / 16) 0 _ _ (λ _. refl) (λ more. absurd (more none))

one_digit : (n : ℕ) (acc : List ℕ) (i : ℕ) → 0 < i → (n / 16 ≡ 0 → ⊥) →
    digits_onto i 16 false n acc ≡ digits_onto (i - 1) 16 false (n / 16) (digit_glyph false (n % 16) ∷ acc)
one_digit n acc zero some more = absurd (omega arith)
one_digit n acc (suc k) some more =
    split (λ ds. ds ≡ digits_onto k 16 false (n / 16) (digit_glyph false (n % 16) ∷ acc))
    (n / 16) 0 _ _ (λ none. absurd (more none)) (λ _. refl)
    ∙ ap (λ (j : ℕ). digits_onto j 16 false (n / 16) (digit_glyph false (n % 16) ∷ acc)) {x = k} {y = suc k - 1}
    (omega arith)

pub goes : (out : List ℕ) (start rest n x : ℕ) → start < length out → 1 ≤ start → 16 ≤ rest →
    x ≡ digit_glyph false (rest % 16) →
    digits_onto (start + 49) 16 false rest (drop (start + 1) out) ≡ digits 16 false n →
    digits_onto (start - 1 + 49) 16 false (rest / 16) (drop (start - 1 + 1) (slice_set out start x)) ≡ digits 16 false n
goes out start rest n x lt some large same before =
    ap (λ (m : ℕ). digits_onto (start - 1 + 49) 16 false (rest / 16) (drop m (slice_set out start x))) {x =
    start - 1 + 1} {y = start} (omega arith)
    ∙ ap (digits_onto (start - 1 + 49) 16 false (rest / 16))
    (written out start x (digit_glyph false (rest % 16)) lt same)
    ∙ ap (λ (k : ℕ). digits_onto k 16 false (rest / 16) (digit_glyph false (rest % 16) ∷ drop (start + 1) out)) {x =
    start - 1 + 49} {y = start + 49 - 1} (omega arith)
    ∙ sym (one_digit rest (drop (start + 1) out) (start + 49) (omega arith) (λ none. absurd (omega arith))) ∙ before

pub ends : (out : List ℕ) (start rest n x : ℕ) → start < length out → rest < 16 → x ≡ digit_glyph false rest →
    digits_onto (start + 49) 16 false rest (drop (start + 1) out) ≡ digits 16 false n →
    drop start (slice_set out start x) ≡ digits 16 false n
ends out start rest n x lt small same before =
    let all : rest ≡ rest % 16 = omega arith in
    written out start x (digit_glyph false (rest % 16)) lt (same ∙ ap (digit_glyph false) all)
    ∙ sym (last_digit rest (drop (start + 1) out) (start + 49) (omega arith) (omega arith)) ∙ before
