-- The cells of words: what a piece of them reads as, and what a store makes of them.
use Rattle.std.proofs.Common.{◌≡◌, ◌≢◌, ℕ, zero, suc, ◌+◌, ◌-◌, ◌*◌, ◌/◌, ◌%◌, ◌^◌, ◌<◌, ◌≤◌, Bool, true, false, cond, List, [], ◌∷◌, ◌++◌, length, take, drop, map, Option, Some, None, refl, sym, ap, subst, ◌∙◌, arith, append_assoc, lit≤, inl, inr}
use Rattle.std.specs.Prelude.{◌⊎◌, IfSome}
use Rattle.std.specs.Int.{w64, to_le_bytes}
use Rattle.std.proofs.lemmas.Nat.{mod_below, pow_pos}
use Rattle.std.proofs.Math.Seq.{take-append-add, drop-append-add}
use Rattle.std.proofs.lemmas.List.{take_at, length-append, length-take, length-drop, take-append-drop, take-append-le, take-take, drop-append-le, drop-drop, drop-take, map-append}
use Rattle.slot_headers.specs.declared.value.Value.{Value}
use Rattle.slot_headers.specs.Cells.{Cell, Byte, bytes, parts, put, number_in, pointer_in, cells_at, without_mark, without_pointer}
use Rattle.slot_store.specs.Cells.{value_cells, pointer_at, null_of, pointer_or_null, after_store, byte_in}
use Rattle.slot_store.specs.Words.{bits_at, with_bits, number_in_word}
use Rattle.slot_store.proofs.Digits.{length-bytes, number_in-bytes, put_nothing, put_between, cells_at-bytes, put-bytes, map-byte_le, map-byte_in-byte, map-byte_in-parts}

-- ---- eight cells

length-cells_of : (p : Bool) (n : ℕ) → length (value_cells (record { bits = n; pointer = p })) ≡ 8
unfolding value_cells
length-cells_of true n = refl
length-cells_of false n = length-bytes 8 n

pub length-value_cells : (v : Value) → length (value_cells v) ≡ 8
length-value_cells v = length-cells_of v.pointer v.bits

-- ---- reading

-- a part among the cells that are read
pub number_in-parts : (b w p : ℕ) → b + suc w ≤ 8 → number_in (cells_at b (suc w) (parts p)) ≡ None
number_in-parts zero w p h = refl
number_in-parts (suc zero) w p h = refl
number_in-parts (suc (suc zero)) w p h = refl
number_in-parts (suc (suc (suc zero))) w p h = refl
number_in-parts (suc (suc (suc (suc zero)))) w p h = refl
number_in-parts (suc (suc (suc (suc (suc zero))))) w p h = refl
number_in-parts (suc (suc (suc (suc (suc (suc zero)))))) w p h = refl
number_in-parts (suc (suc (suc (suc (suc (suc (suc zero))))))) w p h = refl
number_in-parts (suc (suc (suc (suc (suc (suc (suc (suc b)))))))) w p h = absurd (omega arith)

-- the number that w cells at b of a word hold
number_in-cells : (p : Bool) (n b w : ℕ) → 1 ≤ w → b + w ≤ 8
    → number_in (cells_at b w (value_cells (record { bits = n; pointer = p }))) ≡ cond p None (Some (bits_at b w n))
unfolding value_cells
number_in-cells true n b zero some inside = absurd (omega arith)
number_in-cells true n b (suc w) some inside = number_in-parts b w n inside
number_in-cells false n b w some inside = ap number_in (cells_at-bytes b w n inside) ∙ number_in-bytes w (n / 2 ^ (8 * b))

-- cells inside an aligned piece of eight
pub cells_inside : (k w : ℕ) (cells : List (Cell ℕ)) → k % 8 + w ≤ 8 → cells_at k w cells ≡ cells_at (k % 8) w (cells_at (8 * (k / 8)) 8 cells)
cells_inside k w cells inside =
    let r : ℕ = k % 8 in
    let j : ℕ = 8 * (k / 8) in
    let here : k ≡ j + r = omega arith in
    let whole : 8 ≡ r + (8 - r) = omega arith in
    let shorter : drop r (take 8 (drop j cells)) ≡ take (8 - r) (drop r (drop j cells)) =
    ap (λ n. drop r (take n (drop j cells))) whole ∙ drop-take r (8 - r) (drop j cells) in
    ap (λ n. take w (drop n cells)) here ∙ ap (take w) (sym (drop-drop r j cells))
    ∙ sym (ap (take w) shorter ∙ take-take w (8 - r) (drop r (drop j cells)) (omega arith))

-- what a load gives, by the word that is read
pub loaded : (k w : ℕ) (cells : List (Cell ℕ)) (v : Value) → 1 ≤ w → k % 8 + w ≤ 8 → cells_at (8 * (k / 8)) 8 cells ≡ value_cells v
    → number_in (cells_at k w cells) ≡ cond v.pointer None (Some (bits_at (k % 8) w v.bits))
loaded k w cells v some inside here =
    ap number_in (cells_inside k w cells inside ∙ ap (cells_at (k % 8) w) here) ∙ number_in-cells v.pointer v.bits (k % 8) w some inside

-- a number that is read has no more bytes than that
some-small : (p : Bool) (n b w : ℕ) → IfSome (cond p None (Some (bits_at b w n))) (λ m. m < 2 ^ (8 * w))
some-small true n b w = tt
some-small false n b w = mod_below (n / 2 ^ (8 * b)) (2 ^ (8 * w)) (pow_pos (8 * w))

pub in_word-small : (b w : ℕ) (v : Value) (read : Option ℕ) → read ≡ number_in_word b w v → IfSome read (λ m. m < 2 ^ (8 * w))
in_word-small b w v read e =
    let P : Option ℕ → Type 0 = λ r. IfSome r (λ m. m < 2 ^ (8 * w)) in
    subst P (sym e) (some-small v.pointer v.bits b w)

-- what a load of a pointer gives
pub null_as : (n : ℕ) → n ≢ 0 → null_of n ≡ None
null_as zero ne = absurd (ne refl)
null_as (suc n) ne = refl

pub pointer_marked : (k : ℕ) (cells : List (Cell ℕ)) (v : Value) → cells_at k 8 cells ≡ value_cells v → v.pointer ≡ true
    → pointer_at k cells ≡ Some v.bits
unfolding pointer_at
pointer_marked k cells v here marked =
    ap (λ c. pointer_or_null (number_in c) (pointer_in c)) (here ∙ ap (λ p. value_cells (record { bits = v.bits; pointer = p })) marked)
    ∙ at_parts v.bits
  where
    at_parts : (n : ℕ) → pointer_or_null (number_in (value_cells (record { bits = n; pointer = true }))) (pointer_in (value_cells (record { bits = n; pointer = true }))) ≡ Some n
    at_parts n = unfold value_cells in refl

pub pointer_plain : (k : ℕ) (cells : List (Cell ℕ)) (v : Value) → cells_at k 8 cells ≡ value_cells v → v.pointer ≡ false → v.bits < 2 ^ 64
    → pointer_at k cells ≡ null_of v.bits
unfolding pointer_at value_cells
pointer_plain k cells v here plain small =
    let number : number_in (bytes {P = ℕ} 8 v.bits) ≡ Some v.bits = number_in-bytes 8 v.bits ∙ ap Some (let e : v.bits % 2 ^ 64 ≡ v.bits = omega arith in e) in
    ap (λ c. pointer_or_null (number_in c) (pointer_in c)) (here ∙ ap (λ p. value_cells (record { bits = v.bits; pointer = p })) plain)
    ∙ ap (λ n. pointer_or_null n (pointer_in (bytes {P = ℕ} 8 v.bits))) number

pub pointer_given : (k : ℕ) (cells : List (Cell ℕ)) (v : Value) → cells_at k 8 cells ≡ value_cells v → v.bits < 2 ^ 64
    → (v.pointer ≡ true) ⊎ ((v.pointer ≡ false) × (v.bits ≡ 0)) → Some v.bits ≡ pointer_at k cells
pointer_given k cells v here small (inl marked) = sym (pointer_marked k cells v here marked)
pointer_given k cells v here small (inr (plain, null)) = ap Some null ∙ sym (pointer_plain k cells v here plain small ∙ ap null_of null)

pub pointer_refused : (k : ℕ) (cells : List (Cell ℕ)) (v : Value) → cells_at k 8 cells ≡ value_cells v → v.bits < 2 ^ 64
    → v.pointer ≡ false → v.bits ≢ 0 → None ≡ pointer_at k cells
pointer_refused k cells v here small plain ne = sym (pointer_plain k cells v here plain small ∙ null_as v.bits ne)

-- ---- writing

-- the aligned piece of eight between the cells before it and those after it
pub around : (j : ℕ) (cells : List (Cell ℕ)) → cells ≡ take j cells ++ (cells_at j 8 cells ++ drop (j + 8) cells)
around j cells =
    sym (take-append-drop j cells) ∙ ap (λ r. take j cells ++ r) (sym (take-append-drop 8 (drop j cells)))
    ∙ ap (λ r. take j cells ++ (take 8 (drop j cells) ++ r)) (drop-drop 8 j cells)

pub length_before : (j : ℕ) (cells : List (Cell ℕ)) → length (cells_at j 8 cells) ≡ 8 → length (take j cells) ≡ j
length_before j cells e = omega (arith, length-take 8 (drop j cells), length-drop j cells, length-take j cells)

-- the piece replaced
pub piece_put : (j : ℕ) (new cells : List (Cell ℕ)) → length (cells_at j 8 cells) ≡ 8 → length new ≡ 8
    → put j new cells ≡ take j cells ++ (new ++ drop (j + 8) cells)
piece_put j new cells size same =
    ap (put j new) (around j cells)
    ∙ put_between j (take j cells) new (cells_at j 8 cells) (drop (j + 8) cells) (length_before j cells size) (size ∙ sym same)

-- cells put inside a piece
put_after : (r : ℕ) (first new rest : List (Cell ℕ)) → put (length first + r) new (first ++ rest) ≡ first ++ put r new rest
unfolding put
put_after r [] new rest = let none : 0 + r ≡ r = omega arith in ap (λ n. put n new rest) none
put_after r (c ∷ first) new rest =
    let later : length (c ∷ first) + r ≡ suc (length first + r) = omega arith in
    ap (λ n. put n new ((c ∷ first) ++ rest)) later ∙ ap (λ cells. c ∷ cells) (put_after r first new rest)

put_before : (r : ℕ) (new here last : List (Cell ℕ)) → r + length new ≤ length here → put r new (here ++ last) ≡ put r new here ++ last
unfolding put
put_before zero [] [] last inside = put_nothing last
put_before zero (n ∷ new) [] last inside = absurd (omega (arith, inside))
put_before (suc r) new [] last inside = absurd (omega (arith, inside))
put_before zero [] (c ∷ here) last inside = refl
put_before zero (n ∷ new) (c ∷ here) last inside = ap (λ cells. n ∷ cells) (put_before zero new here last (omega (arith, inside)))
put_before (suc r) new (c ∷ here) last inside = ap (λ cells. c ∷ cells) (put_before r new here last (omega (arith, inside)))

pub put_inside : (j r : ℕ) (first new here last : List (Cell ℕ)) → length first ≡ j → r + length new ≤ length here
    → put (j + r) new (first ++ (here ++ last)) ≡ first ++ (put r new here ++ last)
put_inside j r first new here last e inside =
    ap (λ n. put (n + r) new (first ++ (here ++ last))) (sym e) ∙ put_after r first new (here ++ last)
    ∙ ap (λ l. first ++ l) (put_before r new here last inside)

-- without its mark a word is its bits, or 0
map-without_mark-bytes : (w n : ℕ) → map without_mark (bytes {P = ℕ} w n) ≡ bytes {P = ℕ} w n
map-without_mark-bytes zero n = refl
map-without_mark-bytes (suc w) n = ap (λ r. Byte (n % 256) ∷ r) (map-without_mark-bytes w (n / 256))

map-without_mark-cells : (p : Bool) (n : ℕ) → map without_mark (value_cells (record { bits = n; pointer = p })) ≡ bytes {P = ℕ} 8 (cond p 0 n)
unfolding value_cells
map-without_mark-cells true n = refl
map-without_mark-cells false n = map-without_mark-bytes 8 n

-- a store of a whole number, by the word that was there
pub stored : (k w n : ℕ) (cells : List (Cell ℕ)) (v : Value) → k % 8 + w ≤ 8 → cells_at (8 * (k / 8)) 8 cells ≡ value_cells v
    → put (8 * (k / 8)) (value_cells (record { bits = with_bits (k % 8) w n (cond v.pointer 0 v.bits); pointer = false })) cells
    ≡ after_store k w n cells
unfolding after_store without_pointer value_cells
stored k w n cells v inside here =
    let r : ℕ = k % 8 in
    let j : ℕ = 8 * (k / 8) in
    let plain : ℕ = cond v.pointer 0 v.bits in
    let first : List (Cell ℕ) = take j cells in
    let last : List (Cell ℕ) = drop (j + 8) cells in
    let place : k ≡ j + r = omega arith in
    let size : length (cells_at j 8 cells) ≡ 8 = ap length here ∙ length-value_cells v in
    let count : length (bytes {P = ℕ} w n) ≡ w = length-bytes w n in
    let eight : length (bytes {P = ℕ} 8 plain) ≡ 8 = length-bytes 8 plain in
    let unmarked : map without_mark (cells_at j 8 cells) ≡ bytes {P = ℕ} 8 plain = ap (map without_mark) here ∙ map-without_mark-cells v.pointer v.bits in
    let cleared : put j (map without_mark (cells_at j 8 cells)) cells ≡ first ++ (bytes {P = ℕ} 8 plain ++ last) =
    ap (λ m. put j m cells) unmarked ∙ piece_put j (bytes {P = ℕ} 8 plain) cells size (length-bytes 8 plain) in
    let written : put k (bytes {P = ℕ} w n) (put j (map without_mark (cells_at j 8 cells)) cells) ≡ first ++ (bytes {P = ℕ} 8 (with_bits r w n plain) ++ last) =
    ap (put k (bytes {P = ℕ} w n)) cleared
    ∙ ap (λ m. put m (bytes {P = ℕ} w n) (first ++ (bytes {P = ℕ} 8 plain ++ last))) place
    ∙ put_inside j r first (bytes {P = ℕ} w n) (bytes {P = ℕ} 8 plain) last (length_before j cells size) (omega arith)
    ∙ ap (λ m. first ++ (m ++ last)) (put-bytes r w n plain inside) in
    piece_put j (bytes {P = ℕ} 8 (with_bits r w n plain)) cells size (length-bytes 8 (with_bits r w n plain)) ∙ sym written

-- ---- headers

pub map-byte_in-cells : (p : Bool) (n : ℕ) → map byte_in (value_cells (record { bits = n; pointer = p })) ≡ to_le_bytes w64 n
unfolding value_cells
map-byte_in-cells true n = map-byte_in-parts n
map-byte_in-cells false n = ap (map byte_in) (sym (map-byte_le n)) ∙ map-byte_in-byte (to_le_bytes w64 n)

-- two pieces, one after the other
put_behind : (a b cells : List (Cell ℕ)) → put (length a) b (put 0 a cells) ≡ put 0 (a ++ b) cells
unfolding put
put_behind [] b [] = refl
put_behind [] b (c ∷ cells) = refl
put_behind (x ∷ a) b [] = refl
put_behind (x ∷ a) b (c ∷ cells) = ap (λ cells. x ∷ cells) (put_behind a b cells)

pub put_two : (a b cells : List (Cell ℕ)) → length a ≡ 8 → length b ≡ 8 → put 8 b (put 0 a cells) ≡ put 0 (a ++ b) cells
put_two a b cells first second = ap (λ n. put n b (put 0 a cells)) (sym first) ∙ put_behind a b cells

-- the first two pieces as the cells of a header
pub first_two : (cells : List (Cell ℕ)) → cells_at 0 16 cells ≡ cells_at 0 8 cells ++ cells_at 8 8 cells
first_two cells =
    sym (take-append-drop 8 (take 16 (drop 0 cells)))
    ∙ ap (λ f. f ++ drop 8 (take 16 (drop 0 cells))) (take-take 8 16 (drop 0 cells) (lit≤ tt))
    ∙ ap (λ l. take 8 (drop 0 cells) ++ l) (drop-take 8 8 (drop 0 cells))

-- the bytes of the words of a header
pub header_read : (cells : List (Cell ℕ)) (v w : Value) → cells_at 0 8 cells ≡ value_cells v → cells_at 8 8 cells ≡ value_cells w
    → map byte_in (cells_at 0 16 cells) ≡ to_le_bytes w64 v.bits ++ to_le_bytes w64 w.bits
header_read cells v w first second =
    ap (map byte_in) (first_two cells ∙ ap (λ c. c ++ cells_at 8 8 cells) first ∙ ap (λ c. value_cells v ++ c) second)
    ∙ map-append byte_in (value_cells v) (value_cells w)
    ∙ ap (λ b. b ++ map byte_in (value_cells w)) (map-byte_in-cells v.pointer v.bits)
    ∙ ap (λ b. to_le_bytes w64 v.bits ++ b) (map-byte_in-cells w.pointer w.bits)
