-- Pointer words: an address in the low 40 bits, a version in the high 24.
use Rattle.std.specs.Prelude.{◌≡◌, ℕ, ◌+◌, ◌*◌, ◌/◌, ◌%◌, ◌^◌, ◌<◌}

-- above each address of a word, and above each version
abbrev pub address_bound : ℕ
address_bound = 2 ^ 40

abbrev pub version_bound : ℕ
version_bound = 2 ^ 24

unfoldable pub address_of : ℕ → ℕ
address_of word = word % address_bound

unfoldable pub version_of : ℕ → ℕ
version_of word = word / address_bound

abbrev pub pack : ℕ → ℕ → ℕ
pack address version = version * address_bound + address

-- A packed word has the parts that were packed, and a word is packed of its parts.
pub record HasParts (address version : ℕ) : Type 0 where
  pub address_is : address_of (pack address version) ≡ address
  pub version_is : version_of (pack address version) ≡ version

abbrev pub WordsLaw : Type 0
WordsLaw = ((address version : ℕ) → address < address_bound → HasParts address version) × ((word : ℕ) → pack (address_of word) (version_of word) ≡ word)
