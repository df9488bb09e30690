-- Where a pointer is from the first byte of an object, and how that is told.
use Rattle.std.specs.Prelude.{ℕ, ◌^◌, nat_lt, if◌then◌else◌, List, ◌++◌, codes, Option, Some, None, pos, ◌-ℤ◌, ℤ}
use Rattle.std.specs.Fmt.{decimal, signed_decimal}
use Rattle.slot_headers.specs.Words.{address_of}
use Rattle.heap_model.specs.Objects.{offset_in}
use Rattle.heap_model.specs.Answers.{Name}
use Rattle.heap_model.specs.declared.calls.Reach.{Reach}

-- how far the address of a word is past the first byte of an object, or past address 0, modulo 2^40
abbrev pub distance : Option Name → ℕ → ℕ
distance None word = address_of word
distance (Some name) word = offset_in name.slot (address_of word)

-- an offset modulo 2^40 as the nearest one to 0
abbrev pub signed_offset : ℕ → ℤ
signed_offset k = if nat_lt k (2 ^ 39) then pos k else pos k -ℤ pos (2 ^ 40)

abbrev pub offset_text : Option Name → ℕ → List ℕ
offset_text object word = signed_decimal (signed_offset (distance object word))

abbrev pub object_text : Option Name → List ℕ
object_text None = codes "none"
object_text (Some name) = codes "object " ++ decimal name.worker ++ codes "#" ++ decimal name.number

abbrev pub pointer_text : Option Name → ℕ → List ℕ
pointer_text object word = object_text object ++ codes " offset " ++ offset_text object word

-- a reach, as offsets
abbrev pub bounds_text : Option Name → Reach → List ℕ
bounds_text object reach = codes " bounds " ++ offset_text object reach.lo ++ codes " " ++ offset_text object reach.hi
