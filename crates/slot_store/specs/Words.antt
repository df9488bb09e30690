-- The words that a slot's cells are kept in, and what is kept true of them.
use Rattle.std.specs.Prelude.{◌≡◌, ℕ, ◌+◌, ◌-◌, ◌*◌, ◌/◌, ◌%◌, ◌^◌, ◌≤◌, false, if◌then◌else◌}
use Rattle.std.specs.Prelude.{List, map, length, take, drop, replicate, Option, Some, None}
use Rattle.std.specs.List.{flat_map, range_with_len}
use Rattle.slot_headers.specs.declared.value.Value.{Value}
use Rattle.lowfat_regions.specs.Regions as regions
use Rattle.lowfat_regions.specs.Regions.{IsRegion}
use Rattle.slot_headers.specs.Cells.{Cell}
use Rattle.slot_store.specs.Cells.{value_cells}

-- a word of zero bytes that holds no pointer
abbrev pub zero_word : Value
zero_word = record { bits = 0; pointer = false }

unfoldable pub zero_words : ℕ → List Value
zero_words n = replicate n zero_word

-- the bits from b bytes on, and of these the low w bytes
abbrev pub bits_at : ℕ → ℕ → ℕ → ℕ
bits_at b w n = n / 2 ^ (8 * b) % 2 ^ (8 * w)

-- the number with w bytes of another in place of those at b
abbrev pub with_bits : ℕ → ℕ → ℕ → ℕ → ℕ
with_bits b w new n =
    n % 2 ^ (8 * b) + 2 ^ (8 * b) * (new % 2 ^ (8 * w) + 2 ^ (8 * w) * (n / 2 ^ (8 * b) / 2 ^ (8 * w)))

-- the number of w bytes at b of a word, and none if it holds a pointer
abbrev pub number_in_word : ℕ → ℕ → Value → Option ℕ
number_in_word b w v = if v.pointer then None else Some (bits_at b w v.bits)

-- the word with w bytes of a number in place of those at b
abbrev pub with_number : ℕ → ℕ → ℕ → Value → Value
with_number b w n v = record { bits = with_bits b w n (if v.pointer then 0 else v.bits); pointer = false }

-- the cells of words, one after another
unfoldable pub cells : List Value → List (Cell ℕ)
cells words = flat_map value_cells words

-- the words of slot s, where each slot has n
unfoldable pub slot_words : ℕ → List Value → ℕ → List Value
slot_words n words s = take n (drop (s * n) words)

-- the cells of the first slots
unfoldable pub slot_cells : ℕ → ℕ → List Value → List (List (Cell ℕ))
slot_cells n count words = map (λ s. cells (slot_words n words s)) (range_with_len 0 count)

-- So many bytes are a whole number of words.
abbrev pub IsWholeWords : ℕ → Type 0
IsWholeWords size = 8 * (size / 8) ≡ size

-- What is kept of a region's slots: each has n words, those of the made ones are there, and all words past them are
-- zero.
pub record AreSlots (region n count : ℕ) (words : List Value) : Type 0 where
  pub region_is : IsRegion region
  pub size : 8 * n ≡ regions.size_of region
  pub limit : count ≤ regions.slots region
  pub room : count * n ≤ length words
  pub rest : drop (count * n) words ≡ zero_words (length words - count * n)
