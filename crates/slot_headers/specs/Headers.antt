-- The bytes of a header, the lowest of each number first: the number of the type, the version, which is marked by 2 ^ 31
-- where the object is fixed, and the size.
use Rattle.std.specs.Prelude.{◌≡◌, ℕ, ◌+◌, ◌%◌, ◌^◌, ◌<◌, nat_le, if◌then◌else◌, List, ◌++◌, take, drop}
use Rattle.std.specs.Int.{w32, w64, to_le_bytes, from_le_bytes}
use Rattle.slot_headers.specs.declared.header.Header.{Header}

abbrev pub header_bytes : ℕ
header_bytes = 16

-- above each version that a header can keep
abbrev pub header_version_bound : ℕ
header_version_bound = 2 ^ 31

abbrev pub version_word : Header → ℕ
version_word h = h.version + (if h.fixed then 2 ^ 31 else 0)

abbrev pub bytes_of : Header → List ℕ
bytes_of h = to_le_bytes w32 h.kind ++ to_le_bytes w32 (version_word h) ++ to_le_bytes w64 h.size

-- the header that 16 bytes are
unfoldable pub header_of : List ℕ → Header
header_of bytes =
    let marked = from_le_bytes w32 (take 4 (drop 4 bytes)) in
    record {
      kind = from_le_bytes w32 (take 4 bytes);
      version = marked % header_version_bound;
      fixed = nat_le header_version_bound marked;
      size = from_le_bytes w64 (drop 8 bytes);
    }

-- numbers that the fields of a header can hold
pub record IsHeader (h : Header) : Type 0 where
  pub kind : h.kind < 2 ^ 32
  pub version : h.version < header_version_bound
  pub size : h.size < 2 ^ 64

-- A header has the bytes of no other.
abbrev pub HeadersLaw : Type 0
HeadersLaw = (g h : Header) → IsHeader g → IsHeader h → bytes_of g ≡ bytes_of h → g ≡ h

-- The bytes of a header are those of that header.
abbrev pub ReadLaw : Type 0
ReadLaw = (h : Header) → IsHeader h → header_of (bytes_of h) ≡ h
