-- What an access makes of the cells of an object. P is the type of pointer values: words in a history, pairs of an object
-- and an offset in plain C. Nothing here looks into one.
use Rattle.std.specs.Prelude.{ℕ, zero, ◌+◌, ◌-◌, ◌*◌, ◌%◌, ◌^◌, Bool, true, false, ◌&&◌, ◌==◌, nat_le, if◌then◌else◌, List, length, Option, Some, None}
use Rattle.slot_headers.specs.Cells.{Cell, bytes, number_in, parts, pointer_in, cells_at, put, without_pointer}
use Rattle.heap_model.specs.declared.calls.AccessKind.{AccessKind}
use Rattle.heap_model.specs.declared.calls.AccessKind.TheVariants.{I8, U8, I16, U16, I32, U32, I64, Ptr, Word}
use Rattle.heap_model.specs.declared.calls.ReportKind.{ReportKind}
use Rattle.heap_model.specs.declared.calls.ReportKind.TheVariants.{Bounds, Align, PointerBytes, NotPointer}

-- what an access moves
pub data Datum (P : Type 0) : Type 0 where
  Number : ℕ → Datum P
  Pointer : P → Datum P

-- what an access does
pub data Act (P : Type 0) : Type 0 where
  Loads : Act P
  Stores : Datum P → Act P
  Adds : ℕ → Act P

-- what it answers
pub data Outcome (P : Type 0) : Type 0 where
  Did : Outcome P
  Gave : Datum P → Outcome P
  Refused : ReportKind → Outcome P

abbrev pub width : AccessKind → ℕ
width I8 = 1
width U8 = 1
width I16 = 2
width U16 = 2
width I32 = 4
width U32 = 4
width _ = 8

abbrev pub is_signed : AccessKind → Bool
is_signed I8 = true
is_signed I16 = true
is_signed I32 = true
is_signed I64 = true
is_signed _ = false

-- a number of a signed kind as 64 bits
unfoldable pub sign_extension : AccessKind → ℕ → ℕ
sign_extension kind n =
    let top = 2 ^ (8 * width kind) in
    if is_signed kind && nat_le top (2 * n) then n + 2 ^ 64 - top else n

-- what a load of this kind gives, by the number and the pointer value that stand there
unfoldable pub load_outcome : {P : Type 0} → AccessKind → Option ℕ → Option P → Outcome P
load_outcome Ptr n (Some p) = Gave (Pointer p)
load_outcome Ptr (Some zero) None = Gave (Number 0)
load_outcome Ptr _ None = Refused NotPointer
load_outcome Word n (Some p) = Gave (Pointer p)
load_outcome Word (Some n) None = Gave (Number n)
load_outcome Word None None = Refused PointerBytes
load_outcome kind (Some n) p = Gave (Number (sign_extension kind n))
load_outcome kind None p = Refused PointerBytes

unfoldable pub cells_after_store : {P : Type 0} → AccessKind → ℕ → Datum P → List (Cell P) → List (Cell P)
cells_after_store kind k (Number n) cells = put k (bytes (width kind) n) (without_pointer k cells)
cells_after_store kind k (Pointer p) cells = put k (parts p) cells

-- the number there plus another, modulo the kind's width
unfoldable pub cells_after_add : {P : Type 0} → AccessKind → ℕ → ℕ → Option ℕ → List (Cell P) → List (Cell P)
cells_after_add kind k n None cells = cells
cells_after_add kind k n (Some old) cells = put k (bytes (width kind) (old + n)) cells

-- the tests on where an access is: whether its bytes are inside the reach, its offset, its width, the object's size
unfoldable pub access_report : Bool → ℕ → ℕ → ℕ → Option ReportKind
access_report inside k w size =
    if inside && nat_le (k + w) size then (if k % w == 0 then None else Some Align) else Some Bounds

-- what an access answers that passes these tests, by the cells that it covers
abbrev pub outcome_inside : {P : Type 0} → AccessKind → Act P → List (Cell P) → Outcome P
outcome_inside kind Loads cells = load_outcome kind (number_in cells) (pointer_in cells)
outcome_inside kind (Stores d) cells = Did
outcome_inside kind (Adds n) cells = load_outcome kind (number_in cells) None

abbrev pub report_or : {P : Type 0} → Option ReportKind → Outcome P → Outcome P
report_or (Some kind) outcome = Refused kind
report_or None outcome = outcome

-- what an access at offset k of an object with these cells answers
unfoldable pub access_outcome : {P : Type 0} → Bool → ℕ → AccessKind → Act P → List (Cell P) → Outcome P
access_outcome inside k kind act cells =
    report_or (access_report inside k (width kind) (length cells)) (outcome_inside kind act (cells_at k (width kind) cells))

-- and what it leaves, where that is no report
unfoldable pub access_cells : {P : Type 0} → ℕ → AccessKind → Act P → List (Cell P) → List (Cell P)
access_cells k kind Loads cells = cells
access_cells k kind (Stores d) cells = cells_after_store kind k d cells
access_cells k kind (Adds n) cells = cells_after_add kind k n (number_in (cells_at k (width kind) cells)) cells
