-- A number as low part, middle part and high part, and its bytes.
use Rattle.std.proofs.Common.{◌≡◌, ℕ, zero, suc, ◌+◌, ◌-◌, ◌*◌, ◌/◌, ◌%◌, ◌^◌, ◌<◌, ◌≤◌, List, [], ◌∷◌, ◌++◌, length, take, drop, map, Some, refl, sym, ap, ◌∙◌, arith, append_assoc, get_or}
use Rattle.std.specs.Prelude.{option_map}
use Rattle.std.specs.Int.{w64, to_le_bytes, bytes_low_first, byte_at, from_le_bytes}
use Rattle.std.proofs.Math.Nat.{div-div-eq-div-mul, div-add-mod, pow-succ'}
use Rattle.std.proofs.lemmas.Nat.{div-mul-add, mod-mul-add, mod-pow-add, pow-add, pow_pos, mod_below, le_bytes_8}
use Rattle.std.proofs.lemmas.List.{take_at, drop_at, length-append, drop_all, drop_more}
use Rattle.slot_headers.specs.Cells.{Cell, Byte, bytes, parts, put, number_in, cells_at}
use Rattle.slot_store.specs.Cells.{byte_in}
use Rattle.slot_store.specs.Words.{with_bits}

-- ---- sums of a low and a high part

pub low_of : (Q v h : ℕ) → v < Q → (v + Q * h) % Q ≡ v
low_of Q v h low = let e : v + Q * h ≡ h * Q + v = omega arith in rw e (mod-mul-add h Q v low)

pub high_of : (Q v h : ℕ) → v < Q → (v + Q * h) / Q ≡ h
high_of Q v h low = let e : v + Q * h ≡ h * Q + v = omega arith in rw e (div-mul-add h Q v low)

-- a number is made of its parts
pub parts_again : (Q n : ℕ) → n % Q + Q * (n / Q) ≡ n
parts_again Q n = omega (arith, div-add-mod n Q)

-- eight more bits
pub byte_more : (a : ℕ) → 2 ^ (8 * suc a) ≡ 256 * 2 ^ (8 * a)
byte_more a = let e : 8 * suc a ≡ 8 + 8 * a = omega arith in rw e (pow-add 2 8 (8 * a))

-- ---- bytes

pub length-bytes : (w n : ℕ) → length (bytes {P = ℕ} w n) ≡ w
length-bytes zero n = refl
length-bytes (suc w) n = ap suc (length-bytes w (n / 256))

-- what is above the bytes does not matter
pub bytes_low : (a x y : ℕ) → bytes {P = ℕ} a (x + 2 ^ (8 * a) * y) ≡ bytes {P = ℕ} a x
bytes_low zero x y = refl
bytes_low (suc a) x y =
    let e : x + 2 ^ (8 * suc a) * y ≡ x + 256 * (2 ^ (8 * a) * y) = rw (byte_more a) (omega arith) in
    let low : (x + 2 ^ (8 * suc a) * y) % 256 ≡ x % 256 = rw e (omega arith) in
    let high : (x + 2 ^ (8 * suc a) * y) / 256 ≡ x / 256 + 2 ^ (8 * a) * y = rw e (omega arith) in
    ap (λ b. Byte b ∷ bytes {P = ℕ} a ((x + 2 ^ (8 * suc a) * y) / 256)) low
    ∙ ap (λ m. Byte (x % 256) ∷ bytes {P = ℕ} a m) high
    ∙ ap (λ r. Byte (x % 256) ∷ r) (bytes_low a (x / 256) y)

-- the low bytes alone
pub bytes-mod : (a n : ℕ) → bytes {P = ℕ} a (n % 2 ^ (8 * a)) ≡ bytes {P = ℕ} a n
bytes-mod a n =
    sym (bytes_low a (n % 2 ^ (8 * a)) (n / 2 ^ (8 * a))) ∙ ap (bytes {P = ℕ} a) (parts_again (2 ^ (8 * a)) n)

-- the low bytes, and then the high ones
pub bytes_split : (m a b n : ℕ) → m ≡ a + b → bytes {P = ℕ} m n ≡ bytes {P = ℕ} a n ++ bytes {P = ℕ} b (n / 2 ^ (8 * a))
bytes_split m zero b n e =
    let same : n / 2 ^ (8 * zero) ≡ n = omega arith in
    let count : m ≡ b = omega arith in
    rw (same, count) refl
bytes_split zero (suc a) b n e = absurd (omega arith)
bytes_split (suc m) (suc a) b n e =
    let same : n / 2 ^ (8 * suc a) ≡ n / 256 / 2 ^ (8 * a) = rw (byte_more a) (sym (div-div-eq-div-mul n 256 (2 ^ (8 * a)))) in
    rw same (ap (λ r. Byte (n % 256) ∷ r) (bytes_split m a b (n / 256) (omega arith)))

-- the number that bytes hold
pub number_in-bytes : (w n : ℕ) → number_in (bytes {P = ℕ} w n) ≡ Some (n % 2 ^ (8 * w))
number_in-bytes zero n = let e : n % 2 ^ (8 * zero) ≡ 0 = omega arith in rw e refl
number_in-bytes (suc w) n =
    let e : 8 * suc w ≡ 8 * w + 8 = omega arith in
    let sum : n % 2 ^ (8 * suc w) ≡ n / 2 ^ 8 % 2 ^ (8 * w) * 2 ^ 8 + n % 2 ^ 8 = rw e (mod-pow-add n (8 * w) 8) in
    let same : n % 256 + 256 * (n / 256 % 2 ^ (8 * w)) ≡ n % 2 ^ (8 * suc w) = rw sum (omega arith) in
    ap (option_map (λ m. n % 256 + 256 * m)) (number_in-bytes w (n / 256)) ∙ ap Some same

-- ---- pieces

pub put_nothing : (cells : List (Cell ℕ)) → put 0 [] cells ≡ cells
unfolding put
put_nothing [] = refl
put_nothing (c ∷ cells) = refl

put_first : (new old last : List (Cell ℕ)) → length old ≡ length new → put 0 new (old ++ last) ≡ new ++ last
unfolding put
put_first [] [] last same = put_nothing last
put_first [] (o ∷ old) last same = absurd (omega (arith, same))
put_first (n ∷ new) [] last same = absurd (omega (arith, same))
put_first (n ∷ new) (o ∷ old) last same = ap (λ cells. n ∷ cells) (put_first new old last (omega (arith, same)))

-- new cells in place of as many that stand between others
pub put_between : (k : ℕ) (first new old last : List (Cell ℕ)) → length first ≡ k → length old ≡ length new
    → put k new (first ++ (old ++ last)) ≡ first ++ (new ++ last)
unfolding put
put_between zero [] new old last e same = put_first new old last same
put_between zero (c ∷ first) new old last e same = absurd (omega (arith, e))
put_between (suc k) [] new old last e same = absurd (omega (arith, e))
put_between (suc k) (c ∷ first) new old last e same = ap (λ cells. c ∷ cells) (put_between k first new old last (omega (arith, e)) same)

-- the cells that stand between others
pub cells_between : (k w : ℕ) (first here last : List (Cell ℕ)) → length first ≡ k → length here ≡ w
    → cells_at k w (first ++ (here ++ last)) ≡ here
cells_between k w first here last e same =
    ap (take w) (drop_at first (here ++ last) k e) ∙ take_at here last w same

-- eight bytes as those before, w of them at b, and those after
pub three_pieces : (b w n : ℕ) → b + w ≤ 8
    → bytes {P = ℕ} 8 n ≡ bytes {P = ℕ} b n ++ (bytes {P = ℕ} w (n / 2 ^ (8 * b)) ++ bytes {P = ℕ} (8 - (b + w)) (n / 2 ^ (8 * b) / 2 ^ (8 * w)))
three_pieces b w n inside =
    bytes_split 8 b (8 - b) n (omega arith)
    ∙ ap (λ r. bytes {P = ℕ} b n ++ r) (bytes_split (8 - b) w (8 - (b + w)) (n / 2 ^ (8 * b)) (omega arith))

-- w bytes at b of a number
pub cells_at-bytes : (b w n : ℕ) → b + w ≤ 8 → cells_at b w (bytes {P = ℕ} 8 n) ≡ bytes {P = ℕ} w (n / 2 ^ (8 * b))
cells_at-bytes b w n inside =
    ap (cells_at b w) (three_pieces b w n inside)
    ∙ cells_between b w (bytes {P = ℕ} b n) _ _ (length-bytes b n) (length-bytes w _)

-- w bytes of another number at b
pub put-bytes : (b w new n : ℕ) → b + w ≤ 8 → put b (bytes {P = ℕ} w new) (bytes {P = ℕ} 8 n) ≡ bytes {P = ℕ} 8 (with_bits b w new n)
put-bytes b w new n inside =
    let P : ℕ = 2 ^ (8 * b) in
    let Q : ℕ = 2 ^ (8 * w) in
    let c : ℕ = 8 - (b + w) in
    let h : ℕ = n / P / Q in
    let rest : ℕ = new % Q + Q * h in
    let whole : ℕ = n % P + P * rest in
    let left : put b (bytes {P = ℕ} w new) (bytes {P = ℕ} 8 n) ≡ bytes {P = ℕ} b n ++ (bytes {P = ℕ} w new ++ bytes {P = ℕ} c h) =
    ap (put b (bytes {P = ℕ} w new)) (three_pieces b w n inside)
    ∙ put_between b (bytes {P = ℕ} b n) (bytes {P = ℕ} w new) (bytes {P = ℕ} w (n / P)) (bytes {P = ℕ} c h) (length-bytes b n)
    (length-bytes w (n / P) ∙ sym (length-bytes w new)) in
    let small : n % P < P = mod_below n P (pow_pos (8 * b)) in
    let tiny : new % Q < Q = mod_below new Q (pow_pos (8 * w)) in
    let upper : whole / P ≡ rest = high_of P (n % P) rest small in
    let top : whole / P / Q ≡ h = ap (λ m. m / Q) upper ∙ high_of Q (new % Q) h tiny in
    let lowest : bytes {P = ℕ} b whole ≡ bytes {P = ℕ} b n = bytes_low b (n % P) rest ∙ bytes-mod b n in
    let middle : bytes {P = ℕ} w (whole / P) ≡ bytes {P = ℕ} w new =
    ap (bytes {P = ℕ} w) upper ∙ bytes_low w (new % Q) h ∙ bytes-mod w new in
    let right : bytes {P = ℕ} 8 whole ≡ bytes {P = ℕ} b n ++ (bytes {P = ℕ} w new ++ bytes {P = ℕ} c h) =
    three_pieces b w whole inside
    ∙ ap (λ f. f ++ (bytes {P = ℕ} w (whole / P) ++ bytes {P = ℕ} c (whole / P / Q))) lowest
    ∙ ap (λ m. bytes {P = ℕ} b n ++ (m ++ bytes {P = ℕ} c (whole / P / Q))) middle
    ∙ ap (λ t. bytes {P = ℕ} b n ++ (bytes {P = ℕ} w new ++ bytes {P = ℕ} c t)) top in
    left ∙ sym right

-- ---- the bytes of a header's two words

byte_power : (i : ℕ) → 256 ^ i ≡ 2 ^ (8 * i)
byte_power zero = refl
byte_power (suc i) = pow-succ' 256 i ∙ ap (λ m. 256 * m) (byte_power i) ∙ sym (byte_more i)

pub byte_at_is : (i n : ℕ) → byte_at i n ≡ n / 2 ^ (8 * i) % 256
byte_at_is zero n = let e : n / 2 ^ (8 * 0) ≡ n = omega arith in rw e refl
byte_at_is (suc i) n = ap (λ m. n / m % 256) (byte_power (suc i))

-- the k bytes from byte i on
pub map-byte_low_first : (i k n : ℕ) → map Byte (bytes_low_first i k n) ≡ bytes {P = ℕ} k (n / 2 ^ (8 * i))
map-byte_low_first i zero n = refl
map-byte_low_first i (suc k) n =
    let p : ℕ = 2 ^ (8 * i) in
    let turned : 256 * 2 ^ (8 * i) ≡ 2 ^ (8 * i) * 256 = omega arith in
    let same : n / 2 ^ (8 * suc i) ≡ n / 2 ^ (8 * i) / 256 =
    ap (λ m. n / m) (byte_more i ∙ turned) ∙ sym (div-div-eq-div-mul n (2 ^ (8 * i)) 256) in
    ap (λ b. Byte b ∷ map Byte (bytes_low_first (suc i) k n)) (byte_at_is i n)
    ∙ ap (λ r. Byte (n / 2 ^ (8 * i) % 256) ∷ r) (map-byte_low_first (suc i) k n ∙ ap (bytes {P = ℕ} k) same)

pub map-byte_in-byte : (bs : List ℕ) → map byte_in (map Byte bs) ≡ bs
map-byte_in-byte [] = refl
map-byte_in-byte (b ∷ bs) = ap (λ r. b ∷ r) (map-byte_in-byte bs)

pub map-byte_le : (n : ℕ) → map Byte (to_le_bytes w64 n) ≡ bytes {P = ℕ} 8 n
map-byte_le n = map-byte_low_first 0 8 n ∙ ap (bytes {P = ℕ} 8) (let e : n / 2 ^ (8 * 0) ≡ n = omega arith in e)

-- the bytes of the parts of a pointer word
pub map-byte_in-parts : (n : ℕ) → map byte_in (parts n) ≡ to_le_bytes w64 n
map-byte_in-parts n = let e : n / 256 ^ 0 ≡ n = omega arith in ap (λ m. m % 256 ∷ bytes_low_first 1 7 n) e

-- ---- bytes that are read one by one

-- so many elements of a list, from a place on
abbrev elements : ℕ → ℕ → List ℕ → List ℕ
elements i zero xs = []
elements i (suc n) xs = get_or xs i 0 ∷ elements (suc i) n xs

elements-drop : (i n : ℕ) (xs : List ℕ) → length xs ≡ i + n → elements i n xs ≡ drop i xs
elements-drop i zero xs e = sym (drop_all i xs (omega arith))
elements-drop i (suc n) xs e =
    let same : i + 1 ≡ suc i = omega arith in
    let rest : elements (suc i) n xs ≡ drop (i + 1) xs = elements-drop (suc i) n xs (omega arith) ∙ ap (λ k. drop k xs) (sym same) in
    ap (λ r. get_or xs i 0 ∷ r) rest ∙ sym (drop_more xs i 0 (omega arith))

elements-bytes : (xs : List ℕ) → ((i : ℕ) → get_or xs i 0 < 256) → (from n i : ℕ) → get_or (elements from n xs) i 0 < 256
elements-bytes xs bytes from zero i = omega arith
elements-bytes xs bytes from (suc n) zero = bytes from
elements-bytes xs bytes from (suc n) (suc i) = elements-bytes xs bytes (suc from) n i

-- the cells of a word that is read from eight bytes
pub bytes-read : (xs : List ℕ) (n : ℕ) → length xs ≡ 8 → ((i : ℕ) → get_or xs i 0 < 256) → n ≡ from_le_bytes w64 (elements 0 8 xs)
    → bytes {P = ℕ} 8 n ≡ map Byte xs
bytes-read xs n size small e =
    sym (map-byte_le n) ∙ ap (map Byte) (le_bytes_8 (elements 0 8 xs) n refl (elements-bytes xs small 0 8) e ∙ elements-drop 0 8 xs size)
