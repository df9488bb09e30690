-- What the bytes of an object hold. P is the type of pointer values: words in a history and in slots, pairs of an object
-- and an offset in plain C. Nothing here looks into one. A whole number is its bytes (C11 6.2.6.1), the lowest first.
use Rattle.std.specs.Prelude.{ℕ, zero, suc, ◌+◌, ◌*◌, ◌/◌, ◌%◌, List, [], ◌∷◌, map, take, drop, replicate, Option, Some, None, option_map}

-- a byte, or one of the eight parts of a pointer value, numbered from 0
pub data Cell (P : Type 0) : Type 0 where
  Byte : ℕ → Cell P
  Part : ℕ → P → Cell P

-- the bytes of a number, the lowest first
abbrev pub bytes : {P : Type 0} → ℕ → ℕ → List (Cell P)
bytes zero n = []
bytes (suc w) n = Byte (n % 256) ∷ bytes w (n / 256)

-- zero bytes
abbrev pub zeros : {P : Type 0} → ℕ → List (Cell P)
zeros size = replicate size (Byte 0)

-- the number that these cells hold, if there is no part of a pointer value among them
abbrev pub number_in : {P : Type 0} → List (Cell P) → Option ℕ
number_in [] = Some 0
number_in (Byte b ∷ cells) = option_map (λ n. b + 256 * n) (number_in cells)
number_in (Part i p ∷ cells) = None

-- the eight parts of a pointer value
abbrev pub parts : {P : Type 0} → P → List (Cell P)
parts p = Part 0 p ∷ Part 1 p ∷ Part 2 p ∷ Part 3 p ∷ Part 4 p ∷ Part 5 p ∷ Part 6 p ∷ Part 7 p ∷ []

-- the pointer value that stands here
abbrev pub pointer_in : {P : Type 0} → List (Cell P) → Option P
pointer_in [] = None
pointer_in (Byte b ∷ cells) = None
pointer_in (Part i p ∷ cells) = Some p

-- the w cells at k
abbrev pub cells_at : {P : Type 0} → ℕ → ℕ → List (Cell P) → List (Cell P)
cells_at k w cells = take w (drop k cells)

-- the cells with these in place of those at k, as far as there are any
unfoldable pub put : {P : Type 0} → ℕ → List (Cell P) → List (Cell P) → List (Cell P)
put k new [] = []
put zero [] (cell ∷ cells) = cell ∷ cells
put zero (c ∷ new) (cell ∷ cells) = c ∷ put zero new cells
put (suc k) new (cell ∷ cells) = cell ∷ put k new cells

-- a part of a pointer value becomes a zero byte
abbrev pub without_mark : {P : Type 0} → Cell P → Cell P
without_mark (Byte b) = Byte b
without_mark (Part i p) = Byte 0

-- the aligned piece of eight cells round k, without a pointer value
unfoldable pub without_pointer : {P : Type 0} → ℕ → List (Cell P) → List (Cell P)
without_pointer k cells = let from = 8 * (k / 8) in put from (map without_mark (cells_at from 8 cells)) cells
