-- What a slot reads as, and what a store leaves in it. A pointer stands in an aligned piece of eight cells as one word, of
-- which each cell is a part.
use Rattle.std.specs.Prelude.{ℕ, zero, suc, ◌/◌, ◌%◌, ◌^◌, Bool, not, ◌||◌, ◌==◌, if◌then◌else◌, IsTrue, List, map, Option, Some, None}
use Rattle.slot_headers.specs.Cells.{Cell, Byte, Part, bytes, number_in, parts, pointer_in, cells_at, put, without_pointer}
use Rattle.slot_headers.specs.declared.value.Value.{Value}
use Rattle.slot_headers.specs.declared.header.Header.{Header}
use Rattle.slot_headers.specs.Headers.{bytes_of}

-- ---- widths

abbrev pub is_width : ℕ → Bool
is_width w = (w == 1) || (w == 2) || (w == 4) || (w == 8)

-- how many bytes a whole number has
abbrev pub IsWidth : ℕ → Type 0
IsWidth w = IsTrue (is_width w)

-- ---- what stands in cells

-- the eight cells of a number or a pointer word
unfoldable pub value_cells : Value → List (Cell ℕ)
value_cells v = if v.pointer then parts v.bits else bytes {P = ℕ} 8 v.bits

-- ---- reading

-- null where the number is 0
abbrev pub null_of : ℕ → Option ℕ
null_of zero = Some 0
null_of (suc n) = None

-- a pointer word, or 0 for zero bytes
abbrev pub pointer_or_null : Option ℕ → Option ℕ → Option ℕ
pointer_or_null None p = p
pointer_or_null (Some n) p = null_of n

-- what a load of a pointer gives
unfoldable pub pointer_at : ℕ → List (Cell ℕ) → Option ℕ
pointer_at k cells = let here = cells_at k 8 cells in pointer_or_null (number_in here) (pointer_in here)

-- ---- writing

-- a store of a whole number of w bytes at k
unfoldable pub after_store : ℕ → ℕ → ℕ → List (Cell ℕ) → List (Cell ℕ)
after_store k w n cells = put k (bytes {P = ℕ} w n) (without_pointer k cells)

-- a word as a pointer, which null is not
abbrev pub pointer_value : ℕ → Value
pointer_value p = record { bits = p; pointer = not (p == 0) }

-- ---- headers

-- the byte of a cell: of a part, that byte of the pointer word
abbrev pub byte_in : Cell ℕ → ℕ
byte_in (Byte b) = b
byte_in (Part i p) = p / 256 ^ i % 256

-- the first 16 cells of a slot, as the bytes of a header
abbrev pub header_bytes : List (Cell ℕ) → List ℕ
header_bytes cells = map byte_in (cells_at 0 16 cells)

-- the cells of a header, none of which is a part of a pointer word
abbrev pub header_cells : Header → List (Cell ℕ)
header_cells h = map Byte (bytes_of h)
