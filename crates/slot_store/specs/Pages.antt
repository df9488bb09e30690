-- Pages of bytes, with a mark for each word of eight bytes.
use Rattle.std.specs.Prelude.{◌≡◌, ℕ, ◌*◌, ◌<◌, Bool, false, List, [], map, length, slice_index_or}
use Rattle.std.specs.List.{flat_map, range_with_len}
use Rattle.slot_headers.specs.declared.value.Value.{Value}
use Rattle.slot_store.specs.Numbers.{number_at}

-- how many bytes a page has, and how many words of eight bytes
abbrev pub page_bytes : ℕ
page_bytes = 65536

abbrev pub page_words : ℕ
page_words = 8192

-- word i of a page, with mark i
abbrev pub word_at : List ℕ → List Bool → ℕ → Value
word_at bytes marks i = record { bits = number_at bytes (8 * i) 8; pointer = slice_index_or marks i false }

unfoldable pub words_of : List ℕ → List Bool → List Value
words_of bytes marks = map (word_at bytes marks) (range_with_len 0 page_words)

-- the words of pages, one page after another
unfoldable pub joined : List (List Value) → List Value
joined pages = flat_map (λ p. p) pages

abbrev pub page_at : List (List Value) → ℕ → List Value
page_at pages k = slice_index_or pages k []

-- Each page has all its words.
abbrev pub AreWhole : List (List Value) → Type 0
AreWhole pages = (k : ℕ) → k < length pages → length (page_at pages k) ≡ page_words
