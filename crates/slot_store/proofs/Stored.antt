-- What contracts see of a store, by the words that it keeps.
use Rattle.std.proofs.Common.{◌≡◌, ℕ, ◌+◌, ◌-◌, ◌*◌, ◌/◌, ◌%◌, ◌^◌, ◌<◌, ◌≤◌, List, [], ◌∷◌, ◌++◌, length, take, drop, get_or, refl, sym, ap, subst, ◌∙◌, arith, min, true}
use Rattle.std.specs.Prelude.{nat_le, ◌==◌, ◌&&◌}
use Rattle.std.proofs.lemmas.Bool.{agree_below_at, and_parts, leb-true, eqb-true}
use Rattle.std.proofs.Math.ListN.{set}
use Rattle.std.proofs.Math.Nat.{mul-le-mul_left, div-mul-le_self}
use Rattle.std.proofs.lemmas.List.{length-set, drop-set-lt, set-set, get_or-set_same, length-append, length-take-le, length-drop, append_assoc, drop-drop}
use Rattle.std.proofs.Math.Seq.{drop-append-add}
use Rattle.lowfat_regions.specs.Regions.{IsRegion, sizes, size_of, slots}
use Rattle.slot_headers.specs.declared.value.Value.{Value}
use Rattle.slot_headers.specs.Cells.{Cell, zeros, cells_at, put}
use Rattle.slot_store.specs.Cells.{value_cells}
use Rattle.slot_store.specs.Slots.{Contents, made, slot_size, cells_of, with_cells, HasWholeSlots}
use Rattle.slot_store.specs.Words.{zero_words, cells, slot_words, slot_cells, AreSlots}
use Rattle.slot_store.proofs.Slots.{length-slot_cells, get_or-slot_cells, length-slot_words, get_or-slot_words, cells_at-word, slot_cells-set, slot_cells-clear, slot_cells-append, slot_cells-next, rest-append, rest-next, length-cells}
use Rattle.slot_store.proofs.Paging.{length-zero_words}

-- all slots of a region have 2 ^ 24 bytes at most
pub slots_bytes : (region : ℕ) → slots region * size_of region ≤ 2 ^ 24
unfolding slots
slots_bytes region =
    let size : ℕ = size_of region in
    let turned : size * min 65536 (2 ^ 24 / size) ≡ min 65536 (2 ^ 24 / size) * size = omega arith in
    let few : min 65536 (2 ^ 24 / size) ≤ 2 ^ 24 / size = omega arith in
    let more = mul-le-mul_left size few in
    omega (arith, div-mul-le_self (2 ^ 24) size, more)

-- the size of a slot is a multiple of 8, and has room for a header
pub size_facts : (region : ℕ) → IsRegion region → (32 ≤ size_of region) × (8 * (size_of region / 8) ≡ size_of region)
unfolding size_of sizes
size_facts region is =
    let both = and_parts _ _ (agree_below_at (λ r. nat_le 32 (size_of r) && (size_of r % 8 == 0)) (λ _. true) 28 region refl (omega arith)) in
    let least : 32 ≤ size_of region = leb-true _ _ both.0 in
    let even : size_of region % 8 ≡ 0 = eqb-true _ _ both.1 in
    (least, omega arith)

-- the word of a byte, and the byte in it, by the number of the byte in its region
pub byte_word : (slot size n at : ℕ) → 8 * n ≡ size → (slot * size + at) / 8 ≡ slot * n + at / 8
byte_word slot size n at e = let turned : slot * size ≡ 8 * (slot * n) = rw (sym e) (omega arith) in omega arith

pub byte_rest : (slot size n at : ℕ) → 8 * n ≡ size → (slot * size + at) % 8 ≡ at % 8
byte_rest slot size n at e = let turned : slot * size ≡ 8 * (slot * n) = rw (sym e) (omega arith) in omega arith

-- what is seen of the words
abbrev pub Shows : ℕ → ℕ → ℕ → List Value → Contents → Type 0
Shows region n count words s = record { region = region; slots = slot_cells n count words } ≡ s

module _ (region n count : ℕ) (words : List Value) (s : Contents) (kept : AreSlots region n count words) (seen : Shows region n count words s) where
  pub made_is : made s ≡ count
  made_is = sym (ap made seen) ∙ length-slot_cells n count words

  pub size_is : slot_size s ≡ 8 * n
  size_is = sym (ap slot_size seen) ∙ sym kept.size

  pub cells_is : (slot : ℕ) → slot < count → cells_of s slot ≡ cells (slot_words n words slot)
  cells_is slot small = sym (ap (λ t. cells_of t slot) seen) ∙ get_or-slot_cells n count words slot [] small

  -- all words are few
  pub few_words : count * n ≤ 2 ^ 21
  few_words =
      let a : 8 * (count * n) ≤ slots region * size_of region =
      rw (sym kept.size) (let m = mul-le-mul_left (8 * n) kept.limit in omega (arith, m)) in
      omega (arith, slots_bytes region, a)

  -- the word of a byte is one of its slot's
  pub word_inside : (slot at : ℕ) → slot < made s → at < slot_size s → slot * n + at / 8 < count * n
  word_inside slot at small inside =
      let less : slot + 1 ≤ count = omega (arith, made_is) in
      let end = mul-le-mul_left n less in
      omega (arith, size_is, end)

  -- bytes are few
  pub few_bytes : (slot size at : ℕ) → 8 * n ≡ size → slot < made s → at < slot_size s → slot * size + at < 2 ^ 32
  few_bytes slot size at e small inside =
      omega (arith, word_inside slot at small inside, few_words, byte_word slot size n at e)

  -- the cells of that word
  pub piece_is : (slot at : ℕ) (d : Value) → slot < made s → at < slot_size s
      → cells_at (8 * (at / 8)) 8 (cells_of s slot) ≡ value_cells (get_or words (slot * n + at / 8) d)
  piece_is slot at d small inside =
      let low : slot < count = omega (arith, made_is) in
      let word : at / 8 < n = omega (arith, size_is) in
      ap (cells_at (8 * (at / 8)) 8) (cells_is slot low)
      ∙ cells_at-word (slot_words n words slot) (at / 8) d (omega (arith, length-slot_words n slot count words low kept.room))
      ∙ ap value_cells (get_or-slot_words n slot words (at / 8) d word)

  -- another value in its place
  pub put_is : (slot at : ℕ) (v : Value) → slot < made s → at < slot_size s
      → Shows region n count (set words (slot * n + at / 8) v) (with_cells s slot (put (8 * (at / 8)) (value_cells v) (cells_of s slot)))
  put_is slot at v small inside =
      let low : slot < count = omega (arith, made_is) in
      let word : at / 8 < n = omega (arith, size_is) in
      ap (λ l. record { region = region; slots = l }) (slot_cells-set n count words slot (at / 8) v low word kept.room)
      ∙ ap (λ t. with_cells t slot (put (8 * (at / 8)) (value_cells v) (cells_of t slot))) seen

  pub kept_set : (i : ℕ) (v : Value) → i < count * n → AreSlots region n count (set words i v)
  kept_set i v small = record {
    region_is = kept.region_is;
    size = kept.size;
    limit = kept.limit;
    room = omega (arith, length-set words i v);
    rest = drop-set-lt (count * n) words i v small ∙ kept.rest ∙ ap (λ m. zero_words (m - count * n)) (sym (length-set words i v));
  }

  pub whole_slots : HasWholeSlots s
  whole_slots = record {
    region = let P : ℕ → Type 0 = λ r. IsRegion r in subst P (ap (λ t. t.region) seen) kept.region_is;
    limit = let P : ℕ → Type 0 = λ r. made s ≤ slots r in subst P (ap (λ t. t.region) seen) (rw made_is kept.limit);
    whole = λ slot small.
        let low : slot < count = omega (arith, made_is) in
        ap length (cells_is slot low) ∙ length-cells (slot_words n words slot)
        ∙ ap (λ m. 8 * m) (length-slot_words n slot count words low kept.room) ∙ sym size_is;
  }

  -- a slot ends where the made ones end, at the latest
  pub slot_end : (slot : ℕ) → slot < made s → slot * n + n ≤ count * n
  slot_end slot small =
      let less : slot + 1 ≤ count = omega (arith, made_is) in
      let end = mul-le-mul_left n less in
      omega (arith, end)

  -- a slot cleared
  pub clear_is : (slot : ℕ) → slot < made s
      → Shows region n count (take (slot * n) words ++ (zero_words n ++ drop (slot * n + n) words)) (with_cells s slot (zeros (slot_size s)))
  clear_is slot small =
      let low : slot < count = omega (arith, made_is) in
      ap (λ l. record { region = region; slots = l }) (slot_cells-clear n count words slot low kept.room)
      ∙ ap (λ t. with_cells t slot (zeros (8 * n))) seen ∙ ap (λ m. with_cells s slot (zeros m)) (sym size_is)

  pub kept_clear : (slot : ℕ) → slot < made s → AreSlots region n count (take (slot * n) words ++ (zero_words n ++ drop (slot * n + n) words))
  kept_clear slot small =
      let first : List Value = take (slot * n) words in
      let last : List Value = drop (slot * n + n) words in
      let end : slot * n + n ≤ count * n = slot_end slot small in
      let front : length first ≡ slot * n = length-take-le (slot * n) words (omega arith) in
      let both : length (first ++ zero_words n) ≡ slot * n + n = omega (arith, length-append first (zero_words n), length-zero_words n) in
      let size : length (first ++ (zero_words n ++ last)) ≡ length words =
      omega (arith, length-append first (zero_words n ++ last), length-append (zero_words n) last, length-zero_words n, length-drop (slot * n + n) words) in
      let k : ℕ = count * n - (slot * n + n) in
      let place : count * n ≡ length (first ++ zero_words n) + k = omega arith in
      let place' : slot * n + n + k ≡ count * n = omega arith in
      record {
        region_is = kept.region_is;
        size = kept.size;
        limit = kept.limit;
        room = omega arith;
        rest =
            ap (drop (count * n)) (sym (append_assoc first (zero_words n) last))
            ∙ ap (λ m. drop m ((first ++ zero_words n) ++ last)) place
            ∙ drop-append-add (first ++ zero_words n) last k
            ∙ drop-drop k (slot * n + n) words ∙ ap (λ m. drop m words) place'
            ∙ kept.rest ∙ ap (λ m. zero_words (m - count * n)) (sym size);
      }

  -- the words with one slot more are few, too
  pub few_next : made s < slots s.region → (count + 1) * n ≤ 2 ^ 21
  few_next left =
      let same : s.region ≡ region = sym (ap (λ t. t.region) seen) in
      let left' : count + 1 ≤ slots region = let P : ℕ → Type 0 = λ r. made s < slots r in let h = subst P same left in omega (arith, made_is) in
      let a : 8 * ((count + 1) * n) ≤ slots region * size_of region =
      rw (sym kept.size) (let m = mul-le-mul_left (8 * n) left' in omega (arith, m)) in
      omega (arith, slots_bytes region, a)

  -- more words after those that are there
  pub grown_is : (more : List Value) → more ≡ words ++ zero_words (length more - length words) → Shows region n count more s
  grown_is more e =
      ap (λ l. record { region = region; slots = l })
      (ap (slot_cells n count) e ∙ slot_cells-append n count words (zero_words (length more - length words)) kept.room)
      ∙ seen

  pub kept_grown : (more : List Value) → more ≡ words ++ zero_words (length more - length words) → AreSlots region n count more
  kept_grown more e =
      let P : List Value → Type 0 = λ l. AreSlots region n count l in
      let m : ℕ = length more - length words in
      subst P (sym e) (record {
        region_is = kept.region_is;
        size = kept.size;
        limit = kept.limit;
        room = omega (arith, kept.room, length-append words (zero_words m));
        rest = rest-append (count * n) m words kept.room kept.rest;
      })

-- a slot more
pub next_is : (region n count : ℕ) (words : List Value) (s : Contents) → AreSlots region n count words → Shows region n count words s
    → (count + 1) * n ≤ length words → slot_cells n (count + 1) words ≡ s.slots ++ zeros (slot_size s) ∷ []
next_is region n count words s kept seen room =
    slot_cells-next n count words (omega arith) kept.rest ∙ ap (λ l. l ++ zeros (8 * n) ∷ []) (ap (λ t. t.slots) seen)
    ∙ ap (λ m. s.slots ++ zeros m ∷ []) (sym (size_is region n count words s kept seen))

pub kept_next : (region n count : ℕ) (words : List Value) → AreSlots region n count words
    → count < slots region → (count + 1) * n ≤ length words → AreSlots region n (count + 1) words
kept_next region n count words kept left room =
    let sum : count * n + n ≡ (count + 1) * n = omega arith in
    record {
      region_is = kept.region_is;
      size = kept.size;
      limit = omega arith;
      room = room;
      rest = let P : ℕ → Type 0 = λ m. drop m words ≡ zero_words (length words - m) in subst P sum (rest-next (count * n) n words kept.rest);
    }

-- a slot that is left is one of the region
pub left_of : (region n count : ℕ) (words : List Value) (s : Contents) → AreSlots region n count words → Shows region n count words s
    → made s < slots s.region → count < slots region
left_of region n count words s kept seen left =
    let P : ℕ → Type 0 = λ r. made s < slots r in
    let h = subst P (sym (ap (λ t. t.region) seen)) left in
    omega (arith, made_is region n count words s kept seen)

-- a region has few slots
pub few_slots : (region : ℕ) → slots region ≤ 65536
unfolding slots
few_slots region = omega arith

-- a slot has a whole number of words
pub whole_words : (region size : ℕ) → IsRegion region → size ≡ size_of region → 8 * (size / 8) ≡ size
whole_words region size is e = ap (λ m. 8 * (m / 8)) e ∙ (size_facts region is).1 ∙ sym e

-- no slot
pub no_slots : (region size : ℕ) (words : List Value) → IsRegion region → size ≡ size_of region → words ≡ [] → AreSlots region (size / 8) 0 words
unfolding zero_words
no_slots region size words is e none =
    let P : List Value → Type 0 = λ l. AreSlots region (size / 8) 0 l in
    let whole : 8 * (size / 8) ≡ size_of region = ap (λ m. 8 * (m / 8)) e ∙ (size_facts region is).1 in
    let zero_place : 0 * (size / 8) ≡ 0 = omega arith in
    subst P (sym none) (record {
      region_is = is;
      size = whole;
      limit = omega arith;
      room = omega arith;
      rest = rw zero_place refl;
    })

-- two writes to one slot
pub with_cells_twice : (s : Contents) (slot : ℕ) (a b : List (Cell ℕ)) → with_cells (with_cells s slot a) slot b ≡ with_cells s slot b
with_cells_twice s slot a b = ap (λ l. record { region = s.region; slots = l }) (set-set s.slots slot a b)

pub cells_of_written : (s : Contents) (slot : ℕ) (a : List (Cell ℕ)) → slot < made s → cells_of (with_cells s slot a) slot ≡ a
cells_of_written s slot a small = get_or-set_same s.slots slot a [] small
