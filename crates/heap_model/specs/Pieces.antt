-- How pointer values lie in objects: in aligned pieces of eight cells, and whole.
use Rattle.std.specs.Prelude.{ℕ, ◌≡◌, ◌*◌, ◌<◌, ◌≤◌, List, ◌++◌}
use Rattle.std.specs.List.{AllByRecursion}
use Rattle.slot_headers.specs.Words.{version_of}
use Rattle.slot_headers.specs.Cells.{Cell, Byte, Part, parts, cells_at}
use Rattle.heap_model.specs.Heap.{empty}
use Rattle.heap_model.specs.Layouts.{Layouts}
use Rattle.heap_model.specs.Legal.{IsLegal, replay}
use Rattle.heap_model.specs.declared.calls.Entry.{Entry}

-- a byte of eight bits (C11 5.2.4.2.1)
abbrev pub IsByte : {P : Type 0} → Cell P → Type 0
IsByte (Byte b) = b < 256
IsByte (Part i p) = ⊥

-- Cells that stand side by side are whole: all are bytes, or they are the eight parts, in order, of one pointer value
-- that is not null.
pub data IsWhole (cells : List (Cell ℕ)) : Type 0 where
  all_bytes : AllByRecursion IsByte cells → IsWhole cells
  one_pointer : (word : ℕ) → 1 ≤ version_of word → cells ≡ parts word → IsWhole cells

-- each aligned piece is whole, also one at the end that has fewer than eight cells
abbrev pub HasWholePieces : List (Cell ℕ) → Type 0
HasWholePieces cells = (piece : ℕ) → IsWhole (cells_at (8 * piece) 8 cells)

-- At each moment of a legal history each aligned piece of each live object is whole.
abbrev pub PiecesLaw : Type 0
PiecesLaw =
    (layouts : Layouts) (before later : List Entry) → IsLegal layouts (before ++ later)
    → AllByRecursion (λ o. HasWholePieces o.body.cells) (replay empty before).live
