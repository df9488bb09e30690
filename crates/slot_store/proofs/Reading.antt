-- Numbers among bytes.
use Rattle.std.proofs.Common.{◌≡◌, ℕ, zero, suc, ◌+◌, ◌-◌, ◌*◌, ◌/◌, ◌%◌, ◌^◌, ◌<◌, ◌≤◌, List, [], ◌∷◌, ◌++◌, length, take, drop, get_or, refl, sym, ap, ◌∙◌, arith, inl, inr, append_assoc}
use Rattle.std.specs.Prelude.{◌⊎◌, replicate}
use Rattle.std.specs.Int.{w16, w32, w64, byte_at, bytes_low_first, from_le_bytes}
use Rattle.std.proofs.Math.Nat.{div-div-eq-div-mul}
use Rattle.std.proofs.lemmas.Nat.{mod-pow-add}
use Rattle.std.proofs.lemmas.List.{get_or-replicate, length-append, length-take-le, get_or_append_left, get_or-append_right, get_or-take, get_or-drop}
use Rattle.slot_store.specs.Numbers.{AreBytes, number_at}
use Rattle.slot_store.specs.Words.{bits_at, with_bits}
use Rattle.slot_store.proofs.Digits.{low_of, high_of, byte_more, byte_at_is}

-- the low bytes, and then the high ones
pub number_at-split : (bs : List ℕ) (at m a b : ℕ) → m ≡ a + b
    → number_at bs at m ≡ number_at bs at a + 2 ^ (8 * a) * number_at bs (at + a) b
unfolding number_at
number_at-split bs at m zero b e =
    let count : m ≡ b = omega arith in
    let place : at + zero ≡ at = omega arith in
    rw (count, place) (omega arith)
number_at-split bs at zero (suc a) b e = absurd (omega arith)
number_at-split bs at (suc m) (suc a) b e =
    let place : at + suc a ≡ suc at + a = omega arith in
    let rest : number_at bs (suc at) m ≡ number_at bs (suc at) a + 2 ^ (8 * a) * number_at bs (suc at + a) b =
    number_at-split bs (suc at) m a b (omega arith) in
    let more : 2 ^ (8 * suc a) * number_at bs (suc at + a) b ≡ 256 * (2 ^ (8 * a) * number_at bs (suc at + a) b) =
    rw (byte_more a) (omega arith) in
    rw place (omega (arith, rest, more))

-- the same bytes are the same number, wherever they stand
pub number_at-moved : (bs cs : List ℕ) (i j w : ℕ) → ((k : ℕ) → k < w → get_or bs (i + k) 0 ≡ get_or cs (j + k) 0)
    → number_at bs i w ≡ number_at cs j w
unfolding number_at
number_at-moved bs cs i j zero same = refl
number_at-moved bs cs i j (suc w) same =
    let here : i + 0 ≡ i = omega arith in
    let there : j + 0 ≡ j = omega arith in
    let first : get_or bs i 0 ≡ get_or cs j 0 =
    ap (λ k. get_or bs k 0) (sym here) ∙ same 0 (omega arith) ∙ ap (λ k. get_or cs k 0) there in
    let rest : number_at bs (suc i) w ≡ number_at cs (suc j) w =
    number_at-moved bs cs (suc i) (suc j) w (λ k h.
    let one : suc i + k ≡ i + suc k = omega arith in
    let two : j + suc k ≡ suc j + k = omega arith in
    ap (λ n. get_or bs n 0) one ∙ same (suc k) (omega arith) ∙ ap (λ n. get_or cs n 0) two) in
    omega (arith, first, rest)

pub number_at-same : (bs cs : List ℕ) (at w : ℕ) → ((k : ℕ) → at ≤ k → k < at + w → get_or bs k 0 ≡ get_or cs k 0)
    → number_at bs at w ≡ number_at cs at w
number_at-same bs cs at w same = number_at-moved bs cs at at w (λ k h. same (at + k) (omega arith) (omega arith))

pub number_at-below : (bs : List ℕ) → AreBytes bs → (at w : ℕ) → number_at bs at w < 2 ^ (8 * w)
unfolding number_at
number_at-below bs small at zero = omega arith
number_at-below bs small at (suc w) = rw (byte_more w) (omega (arith, small at, number_at-below bs small (suc at) w))

-- zero bytes are the number 0
pub number_at-zeros : (n at w : ℕ) → at + w ≤ n → number_at (replicate n 0) at w ≡ 0
unfolding number_at
number_at-zeros n at zero inside = refl
number_at-zeros n at (suc w) inside =
    let none : ℕ = 0 in
    let first : get_or (replicate n none) at 0 ≡ none = get_or-replicate n at none 0 (omega arith) in
    omega (arith, first, number_at-zeros n (suc at) w (omega arith))

-- w bytes at b of eight
module _ (bs : List ℕ) (small : AreBytes bs) (from b w : ℕ) (inside : b + w ≤ 8) where
  above_low : number_at bs from 8 / 2 ^ (8 * b) ≡ number_at bs (from + b) (8 - b)
  above_low =
      ap (λ n. n / 2 ^ (8 * b)) (number_at-split bs from 8 b (8 - b) (omega arith))
      ∙ high_of (2 ^ (8 * b)) (number_at bs from b) (number_at bs (from + b) (8 - b)) (number_at-below bs small from b)

  upper : number_at bs (from + b) (8 - b) ≡ number_at bs (from + b) w + 2 ^ (8 * w) * number_at bs (from + b + w) (8 - b - w)
  upper = number_at-split bs (from + b) (8 - b) w (8 - b - w) (omega arith)

  pub bits_at-number_at : bits_at b w (number_at bs from 8) ≡ number_at bs (from + b) w
  bits_at-number_at =
      ap (λ n. n % 2 ^ (8 * w)) (above_low ∙ upper)
      ∙ low_of (2 ^ (8 * w)) (number_at bs (from + b) w) (number_at bs (from + b + w) (8 - b - w)) (number_at-below bs small (from + b) w)

  -- other bytes in their place
  pub with_bits-number_at : (cs : List ℕ) (new : ℕ) → number_at cs (from + b) w ≡ new % 2 ^ (8 * w)
      → ((k : ℕ) → (k < from + b) ⊎ (from + b + w ≤ k) → get_or cs k 0 ≡ get_or bs k 0)
      → number_at cs from 8 ≡ with_bits b w new (number_at bs from 8)
  with_bits-number_at cs new here elsewhere =
      let P : ℕ = 2 ^ (8 * b) in
      let Q : ℕ = 2 ^ (8 * w) in
      let n : ℕ = number_at bs from 8 in
      let first : number_at cs from b ≡ n % P =
      number_at-same cs bs from b (λ k l h. elsewhere k (inl (omega arith)))
      ∙ sym (low_of P (number_at bs from b) (number_at bs (from + b) (8 - b)) (number_at-below bs small from b))
      ∙ ap (λ m. m % P) (sym (number_at-split bs from 8 b (8 - b) (omega arith))) in
      let last : number_at cs (from + b + w) (8 - b - w) ≡ n / P / Q =
      number_at-same cs bs (from + b + w) (8 - b - w) (λ k l h. elsewhere k (inr (omega arith)))
      ∙ sym (ap (λ m. m / Q) (above_low ∙ upper)
      ∙ high_of Q (number_at bs (from + b) w) (number_at bs (from + b + w) (8 - b - w)) (number_at-below bs small (from + b) w)) in
      number_at-split cs from 8 b (8 - b) (omega arith)
      ∙ ap (λ m. number_at cs from b + P * m) (number_at-split cs (from + b) (8 - b) w (8 - b - w) (omega arith))
      ∙ ap (λ m. m + P * (number_at cs (from + b) w + Q * number_at cs (from + b + w) (8 - b - w))) first
      ∙ ap (λ m. n % P + P * (m + Q * number_at cs (from + b + w) (8 - b - w))) here
      ∙ ap (λ m. n % P + P * (new % Q + Q * m)) last

-- ---- bytes that are read one by one

number_at-cons : (b : ℕ) (bs : List ℕ) (j w : ℕ) → number_at (b ∷ bs) (suc j) w ≡ number_at bs j w
number_at-cons b bs j w =
    number_at-moved (b ∷ bs) bs (suc j) j w (λ k h. let e : suc j + k ≡ suc (j + k) = omega arith in rw e refl)

pub read_1 : (bs : List ℕ) (at : ℕ) → get_or bs at 0 ≡ number_at bs at 1
unfolding number_at
read_1 bs at = omega arith

pub read_2 : (bs : List ℕ) (at : ℕ) → from_le_bytes w16 (get_or bs at 0 ∷ get_or bs (at + 1) 0 ∷ []) ≡ number_at bs at 2
read_2 bs at =
    summed (get_or bs at 0) (get_or bs (at + 1) 0)
    ∙ sym (number_at-moved bs (get_or bs at 0 ∷ get_or bs (at + 1) 0 ∷ []) at 0 2 each)
  where
    summed : (a b : ℕ) → from_le_bytes w16 (a ∷ b ∷ []) ≡ number_at (a ∷ b ∷ []) 0 2
    summed a b = unfold number_at in omega arith

    each : (k : ℕ) → k < 2 → get_or bs (at + k) 0 ≡ get_or (get_or bs at 0 ∷ get_or bs (at + 1) 0 ∷ []) (0 + k) 0
    each zero h = let e : at + zero ≡ at = omega arith in rw e refl
    each (suc zero) h = refl
    each (suc (suc k)) h = absurd (omega arith)

pub read_4 : (bs : List ℕ) (at : ℕ)
    → from_le_bytes w32 (get_or bs at 0 ∷ get_or bs (at + 1) 0 ∷ get_or bs (at + 2) 0 ∷ get_or bs (at + 3) 0 ∷ []) ≡ number_at bs at 4
read_4 bs at =
    summed (get_or bs at 0) (get_or bs (at + 1) 0) (get_or bs (at + 2) 0) (get_or bs (at + 3) 0)
    ∙ sym (number_at-moved bs (get_or bs at 0 ∷ get_or bs (at + 1) 0 ∷ get_or bs (at + 2) 0 ∷ get_or bs (at + 3) 0 ∷ []) at 0 4 each)
  where
    summed : (a b c d : ℕ) → from_le_bytes w32 (a ∷ b ∷ c ∷ d ∷ []) ≡ number_at (a ∷ b ∷ c ∷ d ∷ []) 0 4
    summed a b c d = unfold number_at in omega arith

    each : (k : ℕ) → k < 4
        → get_or bs (at + k) 0 ≡ get_or (get_or bs at 0 ∷ get_or bs (at + 1) 0 ∷ get_or bs (at + 2) 0 ∷ get_or bs (at + 3) 0 ∷ []) (0 + k) 0
    each zero h = let e : at + zero ≡ at = omega arith in rw e refl
    each (suc zero) h = refl
    each (suc (suc zero)) h = refl
    each (suc (suc (suc zero))) h = refl
    each (suc (suc (suc (suc k)))) h = absurd (omega arith)

pub read_8 : (bs : List ℕ) (at : ℕ)
    → from_le_bytes w64 (get_or bs at 0 ∷ get_or bs (at + 1) 0 ∷ get_or bs (at + 2) 0 ∷ get_or bs (at + 3) 0
    ∷ get_or bs (at + 4) 0 ∷ get_or bs (at + 5) 0 ∷ get_or bs (at + 6) 0 ∷ get_or bs (at + 7) 0 ∷ []) ≡ number_at bs at 8
read_8 bs at =
    summed (get_or bs at 0) (get_or bs (at + 1) 0) (get_or bs (at + 2) 0) (get_or bs (at + 3) 0)
    (get_or bs (at + 4) 0) (get_or bs (at + 5) 0) (get_or bs (at + 6) 0) (get_or bs (at + 7) 0)
    ∙ sym (number_at-moved bs (get_or bs at 0 ∷ get_or bs (at + 1) 0 ∷ get_or bs (at + 2) 0 ∷ get_or bs (at + 3) 0
    ∷ get_or bs (at + 4) 0 ∷ get_or bs (at + 5) 0 ∷ get_or bs (at + 6) 0 ∷ get_or bs (at + 7) 0 ∷ []) at 0 8 each)
  where
    summed : (a b c d e f g h : ℕ) → from_le_bytes w64 (a ∷ b ∷ c ∷ d ∷ e ∷ f ∷ g ∷ h ∷ []) ≡ number_at (a ∷ b ∷ c ∷ d ∷ e ∷ f ∷ g ∷ h ∷ []) 0 8
    summed a b c d e f g h = unfold number_at in omega arith

    each : (k : ℕ) → k < 8
        → get_or bs (at + k) 0 ≡ get_or (get_or bs at 0 ∷ get_or bs (at + 1) 0 ∷ get_or bs (at + 2) 0 ∷ get_or bs (at + 3) 0
        ∷ get_or bs (at + 4) 0 ∷ get_or bs (at + 5) 0 ∷ get_or bs (at + 6) 0 ∷ get_or bs (at + 7) 0 ∷ []) (0 + k) 0
    each zero h = let e : at + zero ≡ at = omega arith in rw e refl
    each (suc zero) h = refl
    each (suc (suc zero)) h = refl
    each (suc (suc (suc zero))) h = refl
    each (suc (suc (suc (suc zero)))) h = refl
    each (suc (suc (suc (suc (suc zero))))) h = refl
    each (suc (suc (suc (suc (suc (suc zero)))))) h = refl
    each (suc (suc (suc (suc (suc (suc (suc zero))))))) h = refl
    each (suc (suc (suc (suc (suc (suc (suc (suc k)))))))) h = absurd (omega arith)

-- ---- bytes that are written in place of others

-- the bytes of a number hold it
number_at-bytes : (i k n : ℕ) → number_at (bytes_low_first i k n) 0 k ≡ n / 2 ^ (8 * i) % 2 ^ (8 * k)
unfolding number_at
number_at-bytes i zero n = omega arith
number_at-bytes i (suc k) n =
    let m : ℕ = n / 2 ^ (8 * i) in
    let turned : 256 * 2 ^ (8 * i) ≡ 2 ^ (8 * i) * 256 = omega arith in
    let next : n / 2 ^ (8 * suc i) ≡ m / 256 =
    ap (λ d. n / d) (byte_more i ∙ turned) ∙ sym (div-div-eq-div-mul n (2 ^ (8 * i)) 256) in
    let rest : number_at (byte_at i n ∷ bytes_low_first (suc i) k n) 1 k ≡ m / 256 % 2 ^ (8 * k) =
    number_at-cons (byte_at i n) (bytes_low_first (suc i) k n) 0 k ∙ number_at-bytes (suc i) k n ∙ ap (λ d. d % 2 ^ (8 * k)) next in
    let e : 8 * suc k ≡ 8 * k + 8 = omega arith in
    let sum : m % 2 ^ (8 * suc k) ≡ m / 2 ^ 8 % 2 ^ (8 * k) * 2 ^ 8 + m % 2 ^ 8 = rw e (mod-pow-add m (8 * k) 8) in
    omega (arith, rest, byte_at_is i n, sum)

pub length-bytes_low_first : (i k n : ℕ) → length (bytes_low_first i k n) ≡ k
length-bytes_low_first i zero n = refl
length-bytes_low_first i (suc k) n = ap suc (length-bytes_low_first (suc i) k n)

-- so many bytes of a number between others
pub written_here : (bs news : List ℕ) (at m w number : ℕ) → news ≡ bytes_low_first 0 w number → m ≡ w → at ≤ length bs
    → number_at (take at bs ++ (news ++ drop m (drop at bs))) at w ≡ number % 2 ^ (8 * w)
written_here bs news at m w number e same inside =
    let last : List ℕ = drop m (drop at bs) in
    let size : length news ≡ w = ap length e ∙ length-bytes_low_first 0 w number in
    let front : length (take at bs) ≡ at = length-take-le at bs inside in
    number_at-moved (take at bs ++ (news ++ last)) news at 0 w (λ k h.
    let place : at + k - at ≡ k = omega arith in
    let none : 0 + k ≡ k = omega arith in
    get_or-append_right (take at bs) (news ++ last) at (at + k) 0 front (omega arith)
    ∙ ap (λ n. get_or (news ++ last) n 0) place
    ∙ get_or_append_left news last 0 k (omega arith) ∙ ap (λ n. get_or news n 0) (sym none))
    ∙ ap (λ l. number_at l 0 w) e ∙ number_at-bytes 0 w number
    ∙ ap (λ n. n % 2 ^ (8 * w)) (let same : number / 2 ^ (8 * 0) ≡ number = omega arith in same)

pub written_elsewhere : (bs news : List ℕ) (at m w : ℕ) → length news ≡ w → m ≡ w → at + w ≤ length bs
    → (k : ℕ) → (k < at) ⊎ (at + w ≤ k) → get_or (take at bs ++ (news ++ drop m (drop at bs))) k 0 ≡ get_or bs k 0
written_elsewhere bs news at m w size same inside k (inl before) =
    let front : length (take at bs) ≡ at = length-take-le at bs (omega arith) in
    get_or_append_left (take at bs) (news ++ drop m (drop at bs)) 0 k (omega arith) ∙ get_or-take at bs k 0 before
written_elsewhere bs news at m w size same inside k (inr after) =
    let front : length (take at bs ++ news) ≡ at + w = omega (arith, length-append (take at bs) news, length-take-le at bs (omega arith)) in
    let place : at + (m + (k - (at + w))) ≡ k = omega arith in
    ap (λ l. get_or l k 0) (sym (append_assoc (take at bs) news (drop m (drop at bs))))
    ∙ get_or-append_right (take at bs ++ news) (drop m (drop at bs)) (at + w) k 0 front after
    ∙ get_or-drop m (drop at bs) (k - (at + w)) 0 ∙ get_or-drop at bs (m + (k - (at + w))) 0
    ∙ ap (λ n. get_or bs n 0) place
