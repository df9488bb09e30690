-- What a slot shows by its header.
use Rattle.std.proofs.Common.{◌≡◌, ℕ, ◌+◌, ◌-◌, ◌≤◌, Bool, true, false, List, map, length, take, drop, is_some, refl, sym, ap, ◌∙◌, subst, arith}
use Rattle.std.proofs.lemmas.List.{take-replicate, drop-replicate, length-replicate, length-take-le, length-drop}
use Rattle.slot_headers.specs.declared.header.Header.{Header}
use Rattle.slot_headers.specs.Cells.{Cell, Byte, cells_at, zeros}
use Rattle.slot_headers.specs.Headers.{IsHeader, ReadLaw, bytes_of, header_of}
use Rattle.slot_store.specs.Cells.{byte_in, header_cells}
use Rattle.slot_store.proofs.Digits.{map-byte_in-byte}
use Rattle.object_slots.specs.Objects.{FitsIn}
use Rattle.object_slots.specs.View.{header_in, body_in, with_header, IsSlot}
use Rattle.object_slots.proofs.Behind.{front-put, rest-put}

-- ---- the same header

module _ (cells other : List (Cell ℕ)) (same : cells_at 0 16 other ≡ cells_at 0 16 cells) where
  pub same-header : header_in other ≡ header_in cells
  same-header = ap (λ c. header_of (map byte_in c)) same

  -- a slot with other cells behind its header
  pub slot-same : (region : ℕ) (taken : Bool) → IsSlot region taken cells → IsSlot region taken other
  slot-same region taken is =
      let h = same-header in
      record {
        header = same ∙ is.header ∙ ap header_cells (sym h);
        version = subst (λ (h : Header). 1 ≤ h.version) (sym h) is.version;
        fits = subst (λ (h : Header). FitsIn region h.size) (sym h) is.fits;
        freed = λ free. ap (λ h. h.kind) h ∙ is.freed free;
      }

-- ---- a header written

length-header_cells : (h : Header) → length (header_cells h) ≡ 16
length-header_cells h = refl

module _ (h : Header) (cells : List (Cell ℕ)) (room : 16 ≤ length cells) where
  pub header-written : cells_at 0 16 (with_header h cells) ≡ header_cells h
  header-written =
      ap (λ n. take n (with_header h cells)) (sym (length-header_cells h))
      ∙ front-put (header_cells h) cells (omega (arith, length-header_cells h))

  pub header-read : ReadLaw → IsHeader h → header_in (with_header h cells) ≡ h
  header-read law is =
      ap (λ c. header_of (map byte_in c)) header-written
      ∙ ap header_of (map-byte_in-byte (bytes_of h)) ∙ law h is

  pub behind-written : (size : ℕ) → cells_at 16 size (with_header h cells) ≡ cells_at 16 size cells
  behind-written size =
      ap (λ n. take size (drop n (with_header h cells))) (sym (length-header_cells h))
      ∙ ap (take size) (rest-put (header_cells h) cells)
      ∙ ap (λ n. take size (drop n cells)) (length-header_cells h)

-- ---- a zero slot

pub version-zero : (size : ℕ) → 16 ≤ size → (header_in (zeros size)).version ≡ 0
unfolding header_of
version-zero size room = ap (λ c. (header_of (map byte_in c)).version) (take-replicate 16 size (Byte 0) room)

pub length-zeros : (size : ℕ) → length (zeros {P = ℕ} size) ≡ size
length-zeros size = length-replicate size (Byte 0)

pub behind-zeros : (size n : ℕ) → 16 + n ≤ size → cells_at 16 n (zeros {P = ℕ} size) ≡ zeros n
behind-zeros size n room =
    ap (take n) (drop-replicate 16 size (Byte 0)) ∙ take-replicate n (size - 16) (Byte 0) (omega arith)

-- ---- whether there is an object

pub some-body : (taken : Bool) (h : Header) (cells : List (Cell ℕ)) → is_some (body_in taken h cells) ≡ taken
some-body true h cells = refl
some-body false h cells = refl

pub object-size : (size : ℕ) (cells : List (Cell ℕ)) → 16 + size ≤ length cells → length (cells_at 16 size cells) ≡ size
object-size size cells room = length-take-le size (drop 16 cells) (omega (arith, length-drop 16 cells))
