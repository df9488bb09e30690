-- A token's bytes are the same, whether lines are joined in the whole text or in the token's part of it.
use Rattle.std.proofs.Common.{◌≡◌, ℕ, zero, suc, ◌+◌, ◌-◌, ◌<◌, ◌≤◌, Bool, true, false, ◌||◌, ◌&&◌, ◌==◌, List, [], ◌∷◌, length, get_or, take, drop, map, inl, inr, refl, sym, ap, subst, ◌∙◌, arith, cond}
use Rattle.std.proofs.lemmas.Bool.{cases_Bool}
use Rattle.std.proofs.lemmas.List.{length-map, get_or-map, get_or-drop, length-drop}
use Rattle.c_lexer.specs.declared.joined.Origin.{Origin}
use Rattle.c_lexer.specs.Bytes.{Text, is_line_end, first_passes}
use Rattle.c_lexer.specs.Joined.{joins, spots, text_spots, joined_bytes, joined_origins}
use Rattle.c_lexer.specs.Lexes.{origin_at}
use Rattle.c_lexer.proofs.Joins.{Spot, next_line}

-- the bytes that are kept, and their offsets
pub kept : ℕ → Text → Text
kept before [] = []
kept before (b ∷ s) = cond (joins before b s) (kept b s) (b ∷ kept b s)

pub offsets : ℕ → ℕ → Text → List ℕ
offsets before at [] = []
offsets before at (b ∷ s) = cond (joins before b s) (offsets b (at + 1) s) (at ∷ offsets b (at + 1) s)

pub kept_dropped : (before b : ℕ) (s : Text) → joins before b s ≡ true → kept before (b ∷ s) ≡ kept b s
unfolding kept
kept_dropped before b s h = rw h refl

pub kept_one : (before b : ℕ) (s : Text) → joins before b s ≡ false → kept before (b ∷ s) ≡ b ∷ kept b s
unfolding kept
kept_one before b s h = rw h refl

pub kept_nil : (before : ℕ) → kept before [] ≡ []
unfolding kept
kept_nil before = refl

offsets_dropped : (before at b : ℕ) (s : Text) → joins before b s ≡ true → offsets before at (b ∷ s) ≡ offsets b (at + 1) s
unfolding offsets
offsets_dropped before at b s h = rw h refl

offsets_one : (before at b : ℕ) (s : Text) → joins before b s ≡ false → offsets before at (b ∷ s) ≡ at ∷ offsets b (at + 1) s
unfolding offsets
offsets_one before at b s h = rw h refl

offsets_nil : (before at : ℕ) → offsets before at [] ≡ []
unfolding offsets
offsets_nil before at = refl

spots_kept : (before at line : ℕ) (s : Text) → map (λ (spot : Spot). spot.0) (spots before at line s) ≡ kept before s
unfolding spots kept
spots_kept before at line [] = refl
spots_kept before at line (b ∷ s) = elim (cases_Bool (joins before b s)) [
  | inl joined_here ↦ rw joined_here (spots_kept b (at + 1) (next_line line b) s)
  | inr stays ↦ rw stays (ap (λ t. b ∷ t) (spots_kept b (at + 1) (next_line line b) s))
]

spots_offsets : (before at line : ℕ) (s : Text) → map (λ (spot : Spot). spot.1.offset) (spots before at line s) ≡ offsets before at s
unfolding spots offsets
spots_offsets before at line [] = refl
spots_offsets before at line (b ∷ s) = elim (cases_Bool (joins before b s)) [
  | inl joined_here ↦ rw joined_here (spots_offsets b (at + 1) (next_line line b) s)
  | inr stays ↦ rw stays (ap (λ t. at ∷ t) (spots_offsets b (at + 1) (next_line line b) s))
]

-- ---- a text from a kept byte on

neither : (a b : Bool) → (a || b) ≡ false → (a ≡ false) × (b ≡ false)
neither true b h = absurd cc
neither false b h = (refl, h)

first_stays : (before b : ℕ) (s : Text) → joins before b s ≡ false → joins 0 b s ≡ false
first_stays before b s h = let (own, other) = neither (b == 92 && first_passes is_line_end s) (before == 92 && is_line_end b) h in rw own refl

-- what is left from the n-th kept byte on, which stands at the offset p
abbrev pub RestAt : ℕ → ℕ → ℕ → Text → List ℕ → Text → ℕ → Type 0
RestAt before at n s all bytes p = (at ≤ p) × (kept 0 (drop (p - at) s) ≡ drop n bytes) × (offsets 0 p (drop (p - at) s) ≡ drop n all)

rest_at : (before at n : ℕ) (s : Text) → n < length (offsets before at s) → RestAt before at n s (offsets before at s) (kept before s) (get_or (offsets before at s) n 0)
rest_at before at n [] h = absurd (let e = ap length (offsets_nil before at) in omega arith)
rest_at before at n (b ∷ s) h = elim (cases_Bool (joins before b s)) [
  | inl joined_here ↦ (
      let all = offsets_dropped before at b s joined_here in
      let bytes = kept_dropped before b s joined_here in
      let len : length (offsets before at (b ∷ s)) ≡ length (offsets b (at + 1) s) = ap length all in
      subst (λ l. RestAt before at n (b ∷ s) l (kept before (b ∷ s)) (get_or l n 0)) (sym all)
      (subst (λ k. RestAt before at n (b ∷ s) (offsets b (at + 1) s) k (get_or (offsets b (at + 1) s) n 0)) (sym bytes)
      (one_on n (offsets b (at + 1) s) (kept b s) (get_or (offsets b (at + 1) s) n 0) (rest_at b (at + 1) n s (omega arith)))))
  | inr stays ↦ (
      let all = offsets_one before at b s stays in
      let bytes = kept_one before b s stays in
      let len : length (offsets before at (b ∷ s)) ≡ suc (length (offsets b (at + 1) s)) = ap length all in
      subst (λ l. RestAt before at n (b ∷ s) l (kept before (b ∷ s)) (get_or l n 0)) (sym all)
      (subst (λ k. RestAt before at n (b ∷ s) (at ∷ offsets b (at + 1) s) k (get_or (at ∷ offsets b (at + 1) s) n 0)) (sym bytes)
      (at_index stays (λ m low. rest_at b (at + 1) m s low) n (omega arith))))
]
  where
    one_on : (n : ℕ) (all : List ℕ) (bytes : Text) (p : ℕ) → RestAt b (at + 1) n s all bytes p → RestAt before at n (b ∷ s) all bytes p
    one_on n all bytes p h =
        let low = h.0 in
        let e : p - at ≡ suc (p - (at + 1)) = omega arith in
        (omega arith, rw e h.1, rw e h.2)

    at_index : joins before b s ≡ false → ((m : ℕ) → m < length (offsets b (at + 1) s) → RestAt b (at + 1) m s (offsets b (at + 1) s) (kept b s) (get_or (offsets b (at + 1) s) m 0)) →
        (n : ℕ) → n < suc (length (offsets b (at + 1) s)) → RestAt before at n (b ∷ s) (at ∷ offsets b (at + 1) s) (b ∷ kept b s) (get_or (at ∷ offsets b (at + 1) s) n 0)
    at_index stays below zero low =
        let e : at - at ≡ 0 = omega arith in
        (omega arith, rw e (kept_one 0 b s (first_stays before b s stays)), rw e (offsets_one 0 at b s (first_stays before b s stays)))
    at_index stays below (suc m) low = on_more (below m (omega arith))
      where
        on_more : RestAt b (at + 1) m s (offsets b (at + 1) s) (kept b s) (get_or (offsets b (at + 1) s) m 0) →
            RestAt before at (suc m) (b ∷ s) (at ∷ offsets b (at + 1) s) (b ∷ kept b s) (get_or (offsets b (at + 1) s) m 0)
        on_more h =
            let low = h.0 in
            let e : get_or (offsets b (at + 1) s) m 0 - at ≡ suc (get_or (offsets b (at + 1) s) m 0 - (at + 1)) = omega arith in
            (omega arith, rw e h.1, rw e h.2)

-- ---- a text up to a kept byte

next_same : (m : ℕ) (s : Text) → 0 < m → first_passes is_line_end (take m s) ≡ first_passes is_line_end s
next_same zero s h = absurd (omega arith)
next_same (suc m) [] h = refl
next_same (suc m) (b ∷ s) h = refl

joins_same : (before b m : ℕ) (s : Text) → 0 < m → joins before b (take m s) ≡ joins before b s
joins_same before b m s h = ap (λ t. (b == 92 && t) || (before == 92 && is_line_end b)) (next_same m s h)

alone_stays : (before b : ℕ) (s : Text) → joins before b s ≡ false → joins before b [] ≡ false
alone_stays before b s h = let (own, other) = neither (b == 92 && first_passes is_line_end s) (before == 92 && is_line_end b) h in no_next (b == 92) (before == 92 && is_line_end b) other
  where
    no_next : (x y : Bool) → y ≡ false → ((x && false) || y) ≡ false
    no_next true y h = h
    no_next false y h = h

abbrev pub UpTo : ℕ → ℕ → ℕ → Text → Text → ℕ → Type 0
UpTo before at n s bytes p = (at ≤ p) × (p < at + length s) × (kept before (take (p + 1 - at) s) ≡ take (n + 1) bytes)

up_to : (before at n : ℕ) (s : Text) → n < length (offsets before at s) → UpTo before at n s (kept before s) (get_or (offsets before at s) n 0)
up_to before at n [] h = absurd (let e = ap length (offsets_nil before at) in omega arith)
up_to before at n (b ∷ s) h = elim (cases_Bool (joins before b s)) [
  | inl joined_here ↦ (
      let all = offsets_dropped before at b s joined_here in
      let len : length (offsets before at (b ∷ s)) ≡ length (offsets b (at + 1) s) = ap length all in
      subst (λ l. UpTo before at n (b ∷ s) (kept before (b ∷ s)) (get_or l n 0)) (sym all)
      (dropped_one joined_here (get_or (offsets b (at + 1) s) n 0) (up_to b (at + 1) n s (omega arith))))
  | inr stays ↦ (
      let all = offsets_one before at b s stays in
      let len : length (offsets before at (b ∷ s)) ≡ suc (length (offsets b (at + 1) s)) = ap length all in
      subst (λ l. UpTo before at n (b ∷ s) (kept before (b ∷ s)) (get_or l n 0)) (sym all)
      (at_index stays (λ m low. up_to b (at + 1) m s low) n (omega arith)))
]
  where
    dropped_one : joins before b s ≡ true → (p : ℕ) → UpTo b (at + 1) n s (kept b s) p → UpTo before at n (b ∷ s) (kept before (b ∷ s)) p
    dropped_one joined_here p h =
        let low = h.0 in
        let high = h.1 in
        let e : p + 1 - at ≡ suc (p + 1 - (at + 1)) = omega arith in (
          omega arith,
          omega arith,
          ap (λ k. kept before (take k (b ∷ s))) e
              ∙ kept_dropped before b (take (p + 1 - (at + 1)) s) (joins_same before b (p + 1 - (at + 1)) s (omega arith) ∙ joined_here)
              ∙ h.2 ∙ ap (take (n + 1)) (sym (kept_dropped before b s joined_here)),
        )

    at_index : joins before b s ≡ false → ((m : ℕ) → m < length (offsets b (at + 1) s) → UpTo b (at + 1) m s (kept b s) (get_or (offsets b (at + 1) s) m 0)) →
        (n : ℕ) → n < suc (length (offsets b (at + 1) s)) → UpTo before at n (b ∷ s) (kept before (b ∷ s)) (get_or (at ∷ offsets b (at + 1) s) n 0)
    at_index stays below zero low =
        let e : at + 1 - at ≡ 1 = omega arith in (
          omega arith,
          omega arith,
          ap (λ k. kept before (take k (b ∷ s))) e ∙ kept_one before b [] (alone_stays before b s stays) ∙ ap (λ t. b ∷ t) (kept_nil b)
              ∙ ap (take 1) (sym (kept_one before b s stays)),
        )
    at_index stays below (suc m) low = on_more (below m (omega arith))
      where
        on_more : UpTo b (at + 1) m s (kept b s) (get_or (offsets b (at + 1) s) m 0) → UpTo before at (suc m) (b ∷ s) (kept before (b ∷ s)) (get_or (offsets b (at + 1) s) m 0)
        on_more h =
            let p : ℕ = get_or (offsets b (at + 1) s) m 0 in
            let low = h.0 in
            let high = h.1 in
            let e : get_or (offsets b (at + 1) s) m 0 + 1 - at ≡ suc (get_or (offsets b (at + 1) s) m 0 + 1 - (at + 1)) = omega arith in
            let k : suc m + 1 ≡ suc (m + 1) = omega arith in (
              omega arith,
              omega arith,
              ap (λ k. kept before (take k (b ∷ s))) e
                  ∙ kept_one before b (take (get_or (offsets b (at + 1) s) m 0 + 1 - (at + 1)) s) (joins_same before b (get_or (offsets b (at + 1) s) m 0 + 1 - (at + 1)) s (omega arith) ∙ stays)
                  ∙ ap (λ t. b ∷ t) h.2 ∙ ap (λ k. take k (b ∷ kept b s)) (sym k) ∙ ap (take (suc m + 1)) (sym (kept_one before b s stays)),
            )

-- ---- a token's part of the text

pub bytes_kept : (text : Text) → joined_bytes text ≡ kept 0 text
unfolding text_spots
bytes_kept text = spots_kept 0 0 1 text

lengths : (text : Text) → length (offsets 0 0 text) ≡ length (text_spots text)
unfolding text_spots
lengths text = ap length (sym (spots_offsets 0 0 1 text)) ∙ length-map (spots 0 0 1 text) (λ (spot : Spot). spot.1.offset)

offset_is : (text : Text) (i : ℕ) → i < length (text_spots text) → (origin_at (joined_origins text) i).offset ≡ get_or (offsets 0 0 text) i 0
unfolding text_spots
offset_is text i low =
    ap (λ (p : Origin). p.offset) (get_or-map (λ (spot : Spot). spot.1) (spots 0 0 1 text) i (0, record { offset = 0; line = 0 }) (record { offset = 0; line = 0 }) low)
    ∙ sym (get_or-map (λ (spot : Spot). spot.1.offset) (spots 0 0 1 text) i (0, record { offset = 0; line = 0 }) 0 low)
    ∙ ap (λ l. get_or l i 0) (spots_offsets 0 0 1 text)

abbrev pub IsPart : Text → ℕ → ℕ → ℕ → ℕ → Type 0
IsPart text i n start end = (start ≤ end) × (end ≤ length text) × (joined_bytes (take (end - start) (drop start text)) ≡ take n (drop i (joined_bytes text)))

part_of : (text : Text) (i n : ℕ) → i + suc n ≤ length (offsets 0 0 text) → IsPart text i (suc n) (get_or (offsets 0 0 text) i 0) (get_or (offsets 0 0 text) (i + n) 0 + 1)
part_of text i n low = at_rest (get_or (offsets 0 0 text) i 0) (rest_at 0 0 i text (omega arith))
  where
    at_rest : (p : ℕ) → RestAt 0 0 i text (offsets 0 0 text) (kept 0 text) p → IsPart text i (suc n) p (get_or (offsets 0 0 text) (i + n) 0 + 1)
    at_rest p h =
        let e : p - 0 ≡ p = omega arith in
        let bytes : kept 0 (drop p text) ≡ drop i (kept 0 text) = ap (λ k. kept 0 (drop k text)) (sym e) ∙ h.1 in
        let all : offsets 0 p (drop p text) ≡ drop i (offsets 0 0 text) = ap (λ k. offsets 0 p (drop k text)) (sym e) ∙ h.2 in
        let len : length (offsets 0 p (drop p text)) ≡ length (offsets 0 0 text) - i = ap length all ∙ length-drop i (offsets 0 0 text) in
        let last : get_or (offsets 0 p (drop p text)) n 0 ≡ get_or (offsets 0 0 text) (i + n) 0 = ap (λ l. get_or l n 0) all ∙ get_or-drop i (offsets 0 0 text) n 0 in
        let up = up_to 0 p n (drop p text) (omega arith) in
        let low_end = up.0 in
        let high_end = up.1 in
        let rest = length-drop p text in
        let k : n + 1 ≡ suc n = omega arith in (
          omega arith,
          omega arith,
          bytes_kept (take (get_or (offsets 0 0 text) (i + n) 0 + 1 - p) (drop p text))
              ∙ ap (λ q. kept 0 (take (q + 1 - p) (drop p text))) (sym last)
              ∙ up.2 ∙ ap (λ j. take j (kept 0 (drop p text))) k ∙ ap (take (suc n)) bytes ∙ ap (λ t. take (suc n) (drop i t)) (sym (bytes_kept text)),
        )

-- what lies between the offsets of the first and the last byte is the bytes themselves
pub part_is : (text : Text) (i n : ℕ) → 0 < n → i + n ≤ length (joined_bytes text) →
    IsPart text i n (origin_at (joined_origins text) i).offset ((origin_at (joined_origins text) (i + n - 1)).offset + 1)
part_is text i zero some low = absurd (omega arith)
part_is text i (suc n) some low =
    let all = length-map (text_spots text) (λ (spot : Spot). spot.0) in
    let len = lengths text in
    let e : i + suc n - 1 ≡ i + n = omega arith in
    let first = offset_is text i (omega arith) in
    let last : (origin_at (joined_origins text) (i + suc n - 1)).offset ≡ get_or (offsets 0 0 text) (i + n) 0 = ap (λ k. (origin_at (joined_origins text) k).offset) e ∙ offset_is text (i + n) (omega arith) in
    subst (λ p. IsPart text i (suc n) p ((origin_at (joined_origins text) (i + suc n - 1)).offset + 1)) (sym first)
    (subst (λ q. IsPart text i (suc n) (get_or (offsets 0 0 text) i 0) (q + 1)) (sym last) (part_of text i n (omega arith)))
