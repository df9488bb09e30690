-- The bytes of a text without those that join lines, each with its origin (C11 5.1.1.2, phase 2).
use Rattle.std.specs.Prelude.{ℕ, ◌+◌, Bool, ◌||◌, ◌&&◌, ◌==◌, List, [], ◌∷◌, map, if◌then◌else◌}
use Rattle.c_lexer.specs.declared.joined.Origin.{Origin}
use Rattle.c_lexer.specs.Bytes.{Text, is_line_end, first_passes}

-- Of a backslash and the line end after it: the byte b, with the one before it and those after it, is one of the two.
abbrev pub joins : ℕ → ℕ → Text → Bool
joins before b after = (b == 92 && first_passes is_line_end after) || (before == 92 && is_line_end b)

-- `spots before at line s`: the bytes of `s` that join no lines, with their origins; `s` begins at `at` on the line `line`,
-- after the byte `before`
unfoldable pub spots : ℕ → ℕ → ℕ → Text → List (ℕ × Origin)
spots before at line [] = []
spots before at line (b ∷ s) =
    let later = spots b (at + 1) (if is_line_end b then line + 1 else line) s in
    if joins before b s then later else ((b, record { offset = at; line = line }) ∷ later)

-- those of a whole text: offsets count from 0, lines from 1
unfoldable pub text_spots : Text → List (ℕ × Origin)
text_spots text = spots 0 0 1 text

abbrev pub joined_bytes : Text → Text
joined_bytes text = map (λ (spot : ℕ × Origin). spot.0) (text_spots text)

abbrev pub joined_origins : Text → List Origin
joined_origins text = map (λ (spot : ℕ × Origin). spot.1) (text_spots text)
